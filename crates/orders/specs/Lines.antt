-- The words of a line, heard one after the other.
use Rattle.std.specs.Prelude.{◌≡◌, ℕ, suc, ◌<◌, Bool, false, ◌||◌, List, [], ◌∷◌, length, Some, None, Ok, Err, Option, Result}
use Rattle.words.specs.Words.{Spelled, spelled}
use Rattle.words.specs.Listing.{listed}
use Rattle.words.specs.declared.word.Word.{Word}
use Rattle.orders.specs.Meanings.{is_n, nothing, meaning}
use Rattle.orders.specs.declared.heard.Heard.{Heard}
use Rattle.orders.specs.declared.fault.WordFault.{WordFault}

-- whether one of the words is N
abbrev pub named : List Spelled → Bool
named [] = false
named (w ∷ ws) = is_n w || named ws

abbrev pub and_then : {A B E : Type 0} → Result A E → (A → Result B E) → Result B E
and_then (Ok x) f = f x
and_then (Err e) f = Err e

-- up to the first word that something is wrong with
abbrev pub heard_on : ℕ → Bool → Bool → Heard → List Spelled → Result Heard WordFault
heard_on R line bang h [] = Ok h
heard_on R line bang h (w ∷ ws) = and_then (meaning R line bang h w) (λ g. heard_on R line bang g ws)

abbrev pub heard_of : ℕ → Bool → List Spelled → Result Heard WordFault
heard_of R bang ws = heard_on R (named ws) bang nothing ws

-- the first word of what is left of a line of n bytes, and what is left then, which is less
abbrev pub Handed : ℕ → List ℕ → List ℕ → Option Word → Type 0
Handed n bs after None = (k : ℕ) → listed k n bs ≡ []
Handed n bs after (Some w) = (length after < length bs) × ((k : ℕ) → listed (suc k) n bs ≡ spelled w ∷ listed k n after)
