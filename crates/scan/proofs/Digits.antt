-- More digits only raise a number.
use Rattle.std.proofs.Common.{◌≡◌, ℕ, ◌+◌, ◌-◌, ◌*◌, ◌^◌, ◌<◌, ◌≤◌, List, [], ◌∷◌, length, get_or, drop, le_trans, le_refl, arith}
use Rattle.std.proofs.lemmas.List.{at_drop_more}
use Rattle.scan.specs.Numbers.{read_on, value}

grows : (n : ℕ) (bs : List ℕ) → n ≤ read_on n bs
grows n [] = le_refl n
grows n (b ∷ bs) = let h : n ≤ n * 10 + (b - 48) = omega arith in le_trans h (grows (n * 10 + (b - 48)) bs)

-- a value past 32 bits stays past them
pub too_large : (bs : List ℕ) (i : ℕ) → i < length bs → (n : ℕ) → 2 ^ 32 ≤ n * 10 + (get_or bs i 0 - 48) → read_on n (drop i bs) ≡ value bs → 2 ^ 32 ≤ value bs
too_large bs i h n large rest =
    omega (arith, grows (n * 10 + (get_or bs i 0 - 48)) (drop (i + 1) bs), at_drop_more (read_on n) bs i 0 h, rest)
