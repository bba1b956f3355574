-- What a range contains.
use Rattle.std.proofs.Common.{◌≡◌, false, Some, arith, ℤ}
use Rattle.std.specs.Prelude.{◌&&◌, int_le}
use Rattle.std.specs.Ordering.{int_cmp, is_le}
use Rattle.std.specs.declared.ops.RangeInclusive.{RangeInclusive}
use Rattle.std.specs.Range.{range_inclusive_start, range_inclusive_end, range_inclusive_exhausted, range_inclusive_contains}
use Rattle.std.proofs.lemmas.Int.{ints}

at_most : (x y : ℤ) → is_le (int_cmp x y) ≡ int_le x y
at_most x y = grind (arith, ints)

pub contains : (r : RangeInclusive ℤ) (x : ℤ) → range_inclusive_exhausted r ≡ false → range_inclusive_contains (λ x y. Some (int_cmp x y)) r x ≡ (int_le (range_inclusive_start r) x && int_le x (range_inclusive_end r))
contains r x unspent = rw (unspent, at_most (range_inclusive_start r) x, at_most x (range_inclusive_end r))
