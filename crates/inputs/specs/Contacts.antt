-- One switch, sample by sample.
use Rattle.std.specs.Prelude.{◌≡◌, Bool, true, false, cond, ◌&&◌, ◌||◌, List, [], ◌∷◌}
use Rattle.std.specs.Bool.{beq}
use Rattle.inputs.specs.declared.contact.Contact.{Contact}

abbrev pub inactive : Contact
inactive = record { accepted = false; last = false; before = false }

-- accepted is what three samples in a row have
abbrev pub sampled : Contact → Bool → Contact
sampled c now = record { accepted = cond (beq now c.last && beq now c.before) now c.accepted; last = now; before = c.last }

abbrev pub after : Contact → List Bool → Contact
after c [] = c
after c (b ∷ bs) = after (sampled c b) bs

-- of any three samples in a row, with the two that came before, one has the value a
abbrev pub flickers : Bool → Bool → Bool → List Bool → Bool
flickers a x y [] = true
flickers a x y (b ∷ bs) = (beq x a || (beq y a || beq b a)) && flickers a y b bs

-- a switch that leaves what is accepted for less than three samples at a time changes nothing
abbrev pub FlickerLaw : Contact → Type 0
FlickerLaw c = (bs : List Bool) → flickers c.accepted c.before c.last bs ≡ true → (after c bs).accepted ≡ c.accepted
