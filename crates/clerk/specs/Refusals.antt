-- The number and the place of each refusal that a host hears, and how it is printed, by those of what a line can be refused for.
use Rattle.std.specs.Prelude.{ℕ, List, ◌++◌, codes}
use Rattle.std.specs.Fmt.{decimal}
use Rattle.clerk.specs.declared.refusal.Refusal.{Refusal}
use Rattle.clerk.specs.declared.refusal.Refusal.TheVariants.{Line, NoRoom}

abbrev pub number_of : {F : Type 0} → (F → ℕ) → Refusal F → ℕ
number_of number (Line f) = number f
number_of number NoRoom = 2

abbrev pub place_of : {F : Type 0} → (F → ℕ) → Refusal F → ℕ
place_of place (Line f) = place f
place_of place NoRoom = 0

abbrev pub printed : {F : Type 0} → (F → ℕ) → (F → ℕ) → Refusal F → List ℕ
printed number place r = codes "refused " ++ decimal (number_of number r) ++ codes " at " ++ decimal (place_of place r)
