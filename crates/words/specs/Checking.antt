-- The first byte that stands where a word has to open, and opens none.
use Rattle.std.specs.Prelude.{◌≡◌, ℕ, zero, suc, cond, List, length, Some, None, Ok, Err, Option, Result, ◌==◌}
use Rattle.words.specs.Bytes.{blank, letter}
use Rattle.scan.specs.Runs.{past}
use Rattle.words.specs.Words.{behind}
use Rattle.words.specs.Reading.{opening, body, place_in}
use Rattle.words.specs.declared.word.ByteFault.{ByteFault}
use Rattle.words.specs.declared.word.ByteFault.TheVariants.{OpensNone}

-- its place in a line of n bytes of which bs is left; the first number bounds the words that are looked at
abbrev pub first_bad : ℕ → ℕ → List ℕ → Option ℕ
first_bad zero n bs = None
first_bad (suc k) n bs =
    cond (length (past blank bs) == 0) None (cond (letter (opening bs)) (first_bad k n (behind (opening bs) (body bs))) (Some (place_in n bs)))

-- as many words as bytes are enough, since each has a letter
abbrev pub Checked : ℕ → List ℕ → Result (Unit {0}) ByteFault → Type 0
Checked n bs (Ok u) = first_bad (length bs) n bs ≡ None
Checked n bs (Err e) = (p : ℕ) × ((e ≡ OpensNone p) × (first_bad (length bs) n bs ≡ Some p))
