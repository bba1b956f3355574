-- The kinds of host line.
use Rattle.std.specs.Prelude.{◌≡◌, ℕ, ◌<◌, ◌≤◌, List, [], ◌∷◌, length, Ok, Err, Result, ◌≢◌, slice_index}
use Rattle.words.specs.Bytes.{blank}
use Rattle.scan.specs.Runs.{past}
use Rattle.words.specs.declared.word.ByteFault.{ByteFault}
use Rattle.words.specs.declared.word.ByteFault.TheVariants.{TooLong, Blank, OpensNone}
use Rattle.words.specs.declared.kind.Line.{Line}
use Rattle.words.specs.declared.kind.Line.TheVariants.{Clear, Hold, Stop, Transfer, Words}

-- at most 80 bytes, and not only blanks
abbrev pub Readable : List ℕ → Type 0
Readable bs = (length bs ≤ 80) × (0 < length (past blank bs))

-- `*`, `$` or `#` as the only byte, `!` as the first, or any other line
abbrev pub IsKind : List ℕ → Result Line ByteFault → Type 0
IsKind bs (Err TooLong) = 80 < length bs
IsKind bs (Err Blank) = (length bs ≤ 80) × (length (past blank bs) ≡ 0)
IsKind bs (Err (OpensNone p)) = ⊥
IsKind bs (Ok Clear) = bs ≡ 42 ∷ []
IsKind bs (Ok Hold) = bs ≡ 36 ∷ []
IsKind bs (Ok Stop) = bs ≡ 35 ∷ []
IsKind bs (Ok (Transfer reader)) = Readable bs × (bs ≡ 33 ∷ reader.rest.now) × (reader.length ≡ length bs)
IsKind bs (Ok (Words reader)) =
    Readable bs × (reader.rest.now ≡ bs) × (reader.length ≡ length bs) × (slice_index bs 0 ≢ 33) × (bs ≢ 42 ∷ []) × (bs ≢ 36 ∷ []) × (bs ≢ 35 ∷ [])
