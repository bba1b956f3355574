-- The whole root of a number: the largest whose square is at most the number.
use Rattle.std.specs.Prelude.{ℕ, zero, suc, ◌+◌, ◌*◌, cond, nat_le}

-- the root r of a number, one number on: one more exactly where the next square is reached
abbrev pub onward : ℕ → ℕ → ℕ
onward r n = cond (nat_le ((r + 1) * (r + 1)) n) (r + 1) r

unfoldable pub root : ℕ → ℕ
root zero = 0
root (suc n) = onward (root n) (suc n)
