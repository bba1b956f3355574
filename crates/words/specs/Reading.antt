-- What reading the next word comes to.
use Rattle.std.specs.Prelude.{◌≡◌, ℕ, ◌-◌, ◌<◌, true, false, List, [], length, drop, Some, None, Ok, Err, Option, Result, slice_index}
use Rattle.words.specs.Bytes.{blank, letter}
use Rattle.scan.specs.Runs.{past}
use Rattle.words.specs.Words.{spelled, word_of, behind}
use Rattle.words.specs.declared.word.Word.{Word}
use Rattle.words.specs.declared.word.ByteFault.{ByteFault}
use Rattle.words.specs.declared.word.ByteFault.TheVariants.{OpensNone}

-- the byte that has to open a word, and what stands behind it
abbrev pub opening : List ℕ → ℕ
opening bs = slice_index (past blank bs) 0

abbrev pub body : List ℕ → List ℕ
body bs = drop 1 (past blank bs)

-- its place in a line of n bytes, counted from 1
abbrev pub place_in : ℕ → List ℕ → ℕ
place_in n bs = n - length (body bs)

-- bs is what is left of a line of n bytes, after is what is left of it then
abbrev pub Reads : ℕ → List ℕ → List ℕ → Result (Option Word) ByteFault → Type 0
Reads n bs after (Ok None) = (past blank bs ≡ []) × (after ≡ [])
Reads n bs after (Ok (Some w)) =
    (0 < length (past blank bs)) × (letter (opening bs) ≡ true) × (spelled w ≡ word_of (place_in n bs) (opening bs) (body bs)) × (after ≡ behind (opening bs) (body bs))
Reads n bs after (Err e) = (0 < length (past blank bs)) × (letter (opening bs) ≡ false) × (e ≡ OpensNone (place_in n bs)) × (after ≡ bs)
