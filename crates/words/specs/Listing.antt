-- The words of a line, one after the other.
use Rattle.std.specs.Prelude.{ℕ, zero, suc, cond, List, [], ◌∷◌, length, ◌==◌}
use Rattle.words.specs.Bytes.{blank, letter}
use Rattle.scan.specs.Runs.{past}
use Rattle.words.specs.Words.{Spelled, word_of, behind}
use Rattle.words.specs.Reading.{opening, body, place_in}

-- of a line of n bytes of which bs is left, up to a byte that opens no word; at most k words
abbrev pub listed : ℕ → ℕ → List ℕ → List Spelled
listed zero n bs = []
listed (suc k) n bs =
    cond (length (past blank bs) == 0) [] (cond (letter (opening bs)) (word_of (place_in n bs) (opening bs) (body bs) ∷ listed k n (behind (opening bs) (body bs))) [])

-- as many words as bytes are enough, since each has a letter
abbrev pub words : ℕ → List ℕ → List Spelled
words n bs = listed (length bs) n bs
