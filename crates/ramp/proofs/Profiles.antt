-- The levels of whole moves.
use Rattle.std.proofs.Common.{◌≡◌, ℕ, zero, suc, ◌-◌, ◌<◌, ◌≤◌, ◌∷◌, length, sym, refl, ap, ◌∙◌, arith}
use Rattle.ramp.specs.Levels.{going, next_level, going_on, to_come, fading, Smooth, AllUpTo, FromRestToRest}
use Rattle.ramp.specs.declared.motor.Motor.{Motor}
use Rattle.ramp.specs.declared.motor.Motor.TheVariants.{AtRest, Running}

first_of : (m : Motor) (C n : ℕ) → to_come m C (suc n) ≡ next_level m C (suc n) ∷ going_on C (next_level m C (suc n)) n
first_of AtRest C n = refl
first_of (Running p) C n = refl

-- one pulse on
pub one_on : (m : Motor) (C n s : ℕ) → 0 < n → s ≡ next_level m C n → to_come m C n ≡ s ∷ going_on C s (n - 1)
one_on m C zero s h e = let z : ⊥ = omega arith in elim z [ ]
one_on m C (suc n) s h e =
    let k : suc n - 1 ≡ n = omega arith in
    first_of m C n ∙ ap (λ x. x ∷ going_on C x n) (sym e) ∙ ap (λ x. s ∷ going_on C s x) (sym k)

-- with p at most the ceiling and at most the pulses left, the rest of a move is smooth
smooth_on : (C p n : ℕ) → p ≤ C → p ≤ n → Smooth p (going_on C p n)
smooth_on C p zero c h = omega arith
smooth_on C p (suc n) c h = (omega arith, omega arith, smooth_on C (going C p (suc n)) n (omega arith) (omega arith))

capped_on : (C p n : ℕ) → AllUpTo C (going_on C p n)
capped_on C p zero = tt
capped_on C p (suc n) = (omega arith, capped_on C (going C p (suc n)) n)

count_on : (C p n : ℕ) → length (going_on C p n) ≡ n
count_on C p zero = refl
count_on C p (suc n) = ap suc (count_on C (going C p (suc n)) n)

pub from_rest_to_rest : (C n : ℕ) → FromRestToRest C n (to_come AtRest C n)
from_rest_to_rest C zero = record { count = refl; smooth = refl; capped = tt }
from_rest_to_rest C (suc n) =
    record { count = ap suc (count_on C 0 n); smooth = (omega arith, omega arith, smooth_on C 0 n (omega arith) (omega arith)); capped = (omega arith, capped_on C 0 n) }

-- slowing takes as many pulses as the level it begins at
pub fading_count : (k : ℕ) → length (fading k) ≡ k
fading_count zero = refl
fading_count (suc k) = ap suc (fading_count k)
