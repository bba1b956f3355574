-- Squares and roots.
use Rattle.std.proofs.Common.{◌≡◌, ℕ, zero, suc, ◌+◌, ◌*◌, ◌<◌, ◌≤◌, inl, inr, add-mul, mul-le-mul, le_antisymm, mul-add, arith}
use Rattle.std.proofs.lemmas.Bool.Decides.{nat_tests, leb_tells}
use Rattle.ramp.specs.Roots.{root, onward}

pub square_mono : (a b : ℕ) → a ≤ b → a * a ≤ b * b
square_mono a b h = mul-le-mul h h

pub square_next : (a : ℕ) → (a + 1) * (a + 1) ≡ a * a + 2 * a + 1
square_next a = omega (arith, add-mul a 1 (a + 1), mul-add a a 1)

-- a number whose square is at most n is at most one whose next square is past n
pub below_root : (a r n : ℕ) → a * a ≤ n → n < (r + 1) * (r + 1) → a ≤ r
below_root a r n h k =
    elim (leb_tells a r) [ inl t ↦ t.1 | inr t ↦ let m : (r + 1) * (r + 1) ≤ a * a = square_mono (r + 1) a (omega (arith, t.1)) in omega arith ]

-- so there is one root at most
pub one_root : (a b n : ℕ) → a * a ≤ n → n < (a + 1) * (a + 1) → b * b ≤ n → n < (b + 1) * (b + 1) → a ≡ b
one_root a b n ha ka hb kb = le_antisymm (below_root a b n ha kb) (below_root b a n hb ka)

onward_low : (r n : ℕ) → r * r ≤ n → onward r (suc n) * onward r (suc n) ≤ suc n
onward_low r n h = grind (arith, nat_tests)

onward_high : (r n : ℕ) → n < (r + 1) * (r + 1) → suc n < (onward r (suc n) + 1) * (onward r (suc n) + 1)
onward_high r n h = let e = square_next r in let f = square_next (r + 1) in grind (arith, nat_tests)

pub root_low : (n : ℕ) → root n * root n ≤ n
unfolding root
root_low zero = omega arith
root_low (suc n) = onward_low (root n) n (root_low n)

pub root_high : (n : ℕ) → n < (root n + 1) * (root n + 1)
unfolding root
root_high zero = omega arith
root_high (suc n) = onward_high (root n) n (root_high n)

-- what a number's root is, by its square and the next
pub root_is : (n r : ℕ) → r * r ≤ n → n < (r + 1) * (r + 1) → r ≡ root n
root_is n r h k = one_root r (root n) n h k (root_low n) (root_high n)
