-- Digits of a field are worth less than ten to the field's width.
use Rattle.std.proofs.Common.{◌≡◌, ℕ, zero, suc, ◌+◌, ◌-◌, ◌*◌, ◌^◌, ◌<◌, ◌≤◌, Bool, true, false, cond, ◌&&◌, List, [], ◌∷◌, length, take, drop, refl, ap, ◌∙◌, pow-suc, arith, length-drop}
use native.Mathlib.Nat.{pow-le-pow_right}
use Rattle.std.proofs.lemmas.Bool.{and_parts}
use Rattle.std.proofs.lemmas.Bool.Decides.{nat_tests}
use Rattle.scan.specs.Numbers.{digit, digits, read_on, value}
use Rattle.scan.specs.Runs.{run, span}
use Rattle.scan.specs.Fields.{width, kept}
use Rattle.scan.specs.declared.field.Field.{Field}

at_most : (b : ℕ) → digit b ≡ true → b ≤ 57
at_most b h = grind (arith, nat_tests)

below : (n i : ℕ) (ds : List ℕ) → n < 10 ^ i → digits ds ≡ true → read_on n ds < 10 ^ (i + length ds)
below n i [] h all = let e : i + 0 ≡ i = omega arith in rw e h
below n i (b ∷ ds) h all =
    let most = at_most b (and_parts (digit b) (digits ds) all).0 in
    let next : n * 10 + (b - 48) < 10 ^ suc i = omega (arith, pow-suc 10 i) in
    let e : i + suc (length ds) ≡ suc i + length ds = omega arith in
    rw e (below (n * 10 + (b - 48)) (suc i) ds next (and_parts (digit b) (digits ds) all).1)

dropped : (k : ℕ) (ds : List ℕ) → digits ds ≡ true → digits (drop k ds) ≡ true
dropped zero ds all = all
dropped (suc k) [] all = refl
dropped (suc k) (b ∷ ds) all = dropped k ds (and_parts (digit b) (digits ds) all).1

pub few : (f : Field) (ds : List ℕ) → digits ds ≡ true → value (kept f ds) < 10 ^ width f
few f ds all =
    let k = length ds - width f in
    let h : read_on 0 (drop k ds) < 10 ^ (0 + length (drop k ds)) = below 0 0 (drop k ds) (omega arith) (dropped k ds all) in
    omega (arith, pow-le-pow_right {n = 10} (omega arith) {i = 0 + length (drop k ds)} {j = width f} (omega (arith, length-drop k ds)))

one_more : (k : Bool) (b : ℕ) (bs : List ℕ) → digit b ≡ k → digits (span digit bs) ≡ true → digits (take (cond k (1 + run digit bs) 0) (b ∷ bs)) ≡ true
one_more true b bs e all = let s : 1 + run digit bs ≡ suc (run digit bs) = omega arith in rw s (ap (λ d. d && digits (span digit bs)) e ∙ all)
one_more false b bs e all = refl

-- a run of digits is all digits
pub span_digits : (bs : List ℕ) → digits (span digit bs) ≡ true
span_digits [] = refl
span_digits (b ∷ bs) = one_more (digit b) b bs refl (span_digits bs)
