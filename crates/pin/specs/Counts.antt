-- Two counts that wrap, and the place that they tell.
use Rattle.std.specs.Prelude.{◌≡◌, ℕ, ◌+◌, ◌-◌, ◌%◌, ◌^◌, ℤ, pos, negsuc, ◌-ℤ◌, ◌≤ℤ◌}
use Rattle.std.proofs.Common.{to_z}
use Rattle.std.specs.Int.{w32}
use Rattle.axis.specs.declared.direction.Direction.{Direction}
use Rattle.axis.specs.declared.direction.Direction.TheVariants.{Clockwise, Counterclockwise}

-- their difference, wrapped to 32 bits and read as a signed number
abbrev pub apart : ℕ → ℕ → ℤ
apart clockwise counterclockwise = to_z w32 ((clockwise + (2 ^ 32 - counterclockwise)) % 2 ^ 32)

-- the ends of the travel, 2,000,000,000 pulses each way
abbrev pub low_end : ℤ
low_end = negsuc 1999999999

abbrev pub high_end : ℤ
high_end = pos 2000000000

-- the counts are the low 32 bits of all n pulses clockwise and all m counterclockwise: they tell n − m wherever that fits 32 bits
abbrev pub Telling : ℕ → ℕ → Type 0
Telling clockwise counterclockwise =
    (n m : ℕ) → clockwise ≡ n % 2 ^ 32 → counterclockwise ≡ m % 2 ^ 32 → negsuc 2147483647 ≤ℤ (pos n -ℤ pos m) → (pos n -ℤ pos m) ≤ℤ pos 2147483647
    → apart clockwise counterclockwise ≡ pos n -ℤ pos m

-- each count after a pulse that was taken: the one of that way has one more, and wraps
abbrev pub clockwise_after : Direction → ℕ → ℕ
clockwise_after Clockwise n = (n + 1) % 2 ^ 32
clockwise_after Counterclockwise n = n

abbrev pub counterclockwise_after : Direction → ℕ → ℕ
counterclockwise_after Clockwise n = n
counterclockwise_after Counterclockwise n = (n + 1) % 2 ^ 32
