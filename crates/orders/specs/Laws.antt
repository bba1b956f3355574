-- What holds of the reading of lines, in plain words.
use Rattle.std.specs.Prelude.{◌≡◌, ℕ, ◌-◌, ◌<◌, ◌≤◌, false, ◌⊎◌, List, [], ◌∷◌, length, take, Ok, Err, Result, ◌≢◌, slice_index}
use Rattle.words.specs.Bytes.{blank, letter}
use Rattle.words.specs.declared.word.ByteFault.TheVariants.{TooLong, Blank, OpensNone}
use Rattle.orders.specs.Orders.{reading}
use Rattle.orders.specs.declared.fault.WordFault.{WordFault}
use Rattle.orders.specs.declared.fault.WordFault.TheVariants.{Byte, Missing, Foreign, NoCode, OutOfRange}

-- what is wrong, but not where
abbrev pub placeless : WordFault → WordFault
placeless (Byte TooLong) = Byte TooLong
placeless (Byte Blank) = Byte Blank
placeless (Byte (OpensNone p)) = Byte (OpensNone 0)
placeless (Missing p) = Missing 0
placeless (Foreign p) = Foreign 0
placeless (NoCode p) = NoCode 0
placeless (OutOfRange p) = OutOfRange 0

abbrev pub unplaced : {T : Type 0} → Result T WordFault → Result T WordFault
unplaced (Ok x) = Ok x
unplaced (Err e) = Err (placeless e)

-- cs is bs, or bs with one blank more beside a blank or at its end
abbrev pub Wider : List ℕ → List ℕ → Type 0
Wider [] cs = (cs ≡ []) ⊎ (cs ≡ 32 ∷ [])
Wider (b ∷ bs) [] = ⊥
Wider (b ∷ bs) (c ∷ cs) = (b ≡ c) × (Wider bs cs ⊎ ((b ≡ 32) × (cs ≡ 32 ∷ bs)))

-- a line that `*`, `$` or `#` does not open
abbrev pub Plain : List ℕ → Type 0
Plain bs = (slice_index bs 0 ≢ 42) × (slice_index bs 0 ≢ 36) × (slice_index bs 0 ≢ 35)

-- one blank more where a blank stands or at an end changes nothing but places; before a `!` it would
abbrev pub BlankLaw : ℕ → List ℕ → Type 0
BlankLaw R bs =
    Plain bs → length bs < 80
    → ((cs : List ℕ) → Wider bs cs → unplaced (reading R cs) ≡ unplaced (reading R bs))
    × ((slice_index bs 0 ≢ 33) → unplaced (reading R (32 ∷ bs)) ≡ unplaced (reading R bs))

-- refused 4 at p: the byte there is no blank and opens no word, and the line cut before it is not refused 4
pub record OpensNoneAt (R : ℕ) (bs : List ℕ) (p : ℕ) : Type 0 where
  pub there : (0 < p) × (p ≤ length bs)
  pub no_blank : blank (slice_index bs (p - 1)) ≡ false
  pub no_letter : letter (slice_index bs (p - 1)) ≡ false
  pub first : (q : ℕ) → reading R (take (p - 1) bs) ≢ Err (Byte (OpensNone q))

abbrev pub FirstByteLaw : ℕ → List ℕ → Type 0
FirstByteLaw R bs = (p : ℕ) → reading R bs ≡ Err (Byte (OpensNone p)) → OpensNoneAt R bs p
