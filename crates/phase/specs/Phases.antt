-- Turns of eight phases, and the coils that carry current in each.
use Rattle.std.specs.Prelude.{ℕ, Bool, cond, List, [], ◌∷◌, ℤ, pos, negsuc, ◌+ℤ◌, ◌*ℤ◌, slice_index}

abbrev pub turned : ℤ → ℕ → ℤ
turned turns phase = pos 8 *ℤ turns +ℤ pos phase

-- the ends of the travel, 250,000,000 whole turns each way
abbrev pub low_end : ℤ
low_end = negsuc 1999999999

abbrev pub high_end : ℤ
high_end = pos 1999999999

-- half steps: the coils 1, 2, 4 and 8 in turn, with both neighbours on between two of them
abbrev pub half_steps : List ℕ
half_steps = 1 ∷ 3 ∷ 2 ∷ 6 ∷ 4 ∷ 12 ∷ 8 ∷ 9 ∷ []

abbrev pub coil_bits : Bool → ℕ → ℕ
coil_bits on phase = cond on (slice_index half_steps phase) 0
