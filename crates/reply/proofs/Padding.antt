-- Digits with zeros in front: digits all, and worth the number.
use Rattle.std.proofs.Common.{◌≡◌, ℕ, zero, suc, ◌+◌, ◌-◌, ◌*◌, ◌/◌, ◌%◌, ◌^◌, ◌<◌, true, ◌&&◌, List, [], ◌∷◌, ◌++◌, sym, refl, ap, ◌∙◌, mod-eq_of_lt, mul_assoc, mul_comm, add-mul, pow-suc, arith}
use lib.Arith.{mod-mul}
use Rattle.std.proofs.Math.Nat.{div-one, div-div-eq-div-mul}
use Rattle.std.proofs.lemmas.Bool.{and_parts}
use Rattle.std.proofs.lemmas.Bool.Decides.{nat_tests}
use Rattle.scan.specs.Numbers.{digit, digits, read_on, value}
use Rattle.scan.specs.Runs.{span, past}
use Rattle.orders.proofs.Widening.{past_on, span_on}
use Rattle.reply.specs.Texts.{padded, digit_of}

a_digit : (x : ℕ) → digit (48 + x % 10) ≡ true
a_digit x = let h : x % 10 < 10 = omega arith in grind (arith, nat_tests)

pub padded_digits : (k m : ℕ) → digits (padded k m) ≡ true
padded_digits zero m = refl
padded_digits (suc k) m = ap (λ b. b && digits (padded k m)) (a_digit (m / 10 ^ k)) ∙ padded_digits k m

pow_some : (k : ℕ) → 0 < 10 ^ k
pow_some zero = omega arith
pow_some (suc k) = let h = pow_some k in omega (arith, pow-suc 10 k)

-- the digits behind digits of the value a
on_padded : (k a m : ℕ) → read_on a (padded k m) ≡ a * 10 ^ k + m % 10 ^ k
on_padded zero a m = omega arith
on_padded (suc k) a m =
    let d = m / 10 ^ k % 10 in
    let byte : 48 + d - 48 ≡ d = omega arith in
    let split : m % 10 ^ suc k ≡ d * 10 ^ k + m % 10 ^ k = ap (λ q. m % q) (pow-suc 10 k ∙ mul_comm (10 ^ k) 10) ∙ mod-mul m {m = 10} {c = 10 ^ k} (omega arith) (pow_some k) in
    let front : (a * 10 + d) * 10 ^ k ≡ a * 10 ^ suc k + d * 10 ^ k =
    add-mul (a * 10) d (10 ^ k) ∙ ap (λ q. q + d * 10 ^ k) (mul_assoc a 10 (10 ^ k) ∙ ap (λ q. a * q) (mul_comm 10 (10 ^ k) ∙ sym (pow-suc 10 k)))
    in
    ap (λ x. read_on (a * 10 + x) (padded k m)) byte ∙ on_padded k (a * 10 + d) m ∙ omega arith

pub padded_value : (k m : ℕ) → m < 10 ^ k → value (padded k m) ≡ m
padded_value k m h = on_padded k 0 m ∙ (let e : m % 10 ^ k ≡ m = mod-eq_of_lt h in omega arith)

-- a run of digits before a blank, and one at the end
pub span_blank : (ds rest : List ℕ) → digits ds ≡ true → span digit (ds ++ 32 ∷ rest) ≡ ds
span_blank [] rest h = refl
span_blank (d ∷ ds) rest h =
    span_on digit d (ds ++ 32 ∷ rest) (and_parts (digit d) (digits ds) h).0 ∙ ap (λ bs. d ∷ bs) (span_blank ds rest (and_parts (digit d) (digits ds) h).1)

pub past_digits : (ds rest : List ℕ) → digits ds ≡ true → past digit (ds ++ 32 ∷ rest) ≡ 32 ∷ rest
past_digits [] rest h = refl
past_digits (d ∷ ds) rest h = past_on digit d (ds ++ 32 ∷ rest) (and_parts (digit d) (digits ds) h).0 ∙ past_digits ds rest (and_parts (digit d) (digits ds) h).1

pub span_end : (ds : List ℕ) → digits ds ≡ true → span digit ds ≡ ds
span_end [] h = refl
span_end (d ∷ ds) h = span_on digit d ds (and_parts (digit d) (digits ds) h).0 ∙ ap (λ bs. d ∷ bs) (span_end ds (and_parts (digit d) (digits ds) h).1)

pub past_end : (ds : List ℕ) → digits ds ≡ true → past digit ds ≡ []
past_end [] h = refl
past_end (d ∷ ds) h = past_on digit d ds (and_parts (digit d) (digits ds) h).0 ∙ past_end ds (and_parts (digit d) (digits ds) h).1

-- the last digit behind those of a tenth
pub padded_last : (k m : ℕ) → padded k (m / 10) ++ (48 + m % 10) ∷ [] ≡ padded (suc k) m
padded_last zero m = ap (λ q. (48 + q % 10) ∷ []) (sym (div-one m))
padded_last (suc k) m =
    let first_digit : digit_of (m / 10) (10 ^ k) ≡ digit_of m (10 ^ suc k) = ap (λ q. 48 + q % 10) (div-div-eq-div-mul m 10 (10 ^ k) ∙ ap (λ q. m / q) (mul_comm 10 (10 ^ k) ∙ sym (pow-suc 10 k))) in
    ap (λ d. d ∷ (padded k (m / 10) ++ (48 + m % 10) ∷ [])) first_digit ∙ ap (λ ds. digit_of m (10 ^ suc k) ∷ ds) (padded_last k m)
