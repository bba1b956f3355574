-- A number of few bytes, each worth at most 207.
use Rattle.std.proofs.Common.{ℕ, ◌+◌, ◌*◌, ◌^◌, ◌<◌, ◌≤◌, arith}
use native.Mathlib.Nat.{pow-le-pow_right}

pub under : (n k : ℕ) → n + 23 ≤ 23 * 10 ^ k → k < 8 → n ≤ 229999977
under n k h l = omega (arith, pow-le-pow_right {n = 10} (omega arith) {i = k} {j = 7} (omega arith))
