-- How far a ramp climbs. V is the move's speed, L the low speed, d twice the acceleration, z the lift.
use Rattle.std.proofs.Common.{◌≡◌, ℕ, ◌+◌, ◌-◌, ◌*◌, ◌/◌, ◌<◌, ◌≤◌, min, Bool, true, false, cond, eqb, ltb, ◌⊎◌, refl, ap, inl, inr, le_trans, mul_comm, div-lt_iff_lt-mul, le_antisymm, add-mul, mul-le-mul, le-div_iff_mul-le, arith, ltb-true, lt-ltb}
use Rattle.std.specs.Int.{div_ceil}
use Rattle.std.proofs.lemmas.Grind.{div_ceil_times}
use Rattle.std.proofs.lemmas.Bool.Decides.{nat_tests, eqb_tells}
use Rattle.std.proofs.Math.Nat.{min-eq_left}
use Rattle.ramp.specs.Rates.{lift, reached, rate_at, ceiling_level, LeastAtTop}
use Rattle.ramp.specs.Roots.{root}
use Rattle.ramp.specs.declared.mode.SpeedMode.{SpeedMode}
use Rattle.ramp.specs.declared.mode.SpeedMode.TheVariants.{Low, High}
use Rattle.ramp.proofs.Squares.{square_mono, square_next, below_root, root_low, root_high, root_is}

-- steps of d that make up m, rounded up
steps_reach : (m d : ℕ) → 1 ≤ d → m ≤ d * ((m + (d - 1)) / d)
steps_reach m d some = omega arith

steps_least : (m d k : ℕ) → 1 ≤ d → m ≤ d * k → (m + (d - 1)) / d ≤ k
steps_least m d k some h =
    let past : m + (d - 1) < (k + 1) * d = omega (arith, add-mul k 1 d, mul_comm k d) in
    let less : (m + (d - 1)) / d < k + 1 = (div-lt_iff_lt-mul some).1 past in
    omega arith

pub rounded_up : (m d : ℕ) → 1 ≤ d → div_ceil m d ≡ (m + (d - 1)) / d
rounded_up m d some =
    let b = div_ceil_times m d some in
    le_antisymm ((le-div_iff_mul-le some).1 (omega (arith, b.1))) (steps_least m d (div_ceil m d) some (omega (arith, b.0, mul_comm d (div_ceil m d))))

pub steps_some : (m d : ℕ) → 1 ≤ d → 1 ≤ m → 1 ≤ (m + (d - 1)) / d
steps_some m d some h = let enough : 1 * d ≤ m + (d - 1) = omega arith in (le-div_iff_mul-le some).1 enough

pub faster : (L V : ℕ) → L < V → L * L + 1 ≤ V * V
faster L V h = omega (arith, square_mono (L + 1) V (omega arith), square_next L)

-- the lift is at most one step
pub lift_fits : (L V d : ℕ) → L < V → 1 ≤ d → lift L ≤ (V * V - L * L + (d - 1)) / d
lift_fits L V d h some =
    let one = steps_some (V * V - L * L) d some (omega (arith, faster L V h)) in
    grind (arith, nat_tests)

module _ (L V d z : ℕ) (h : L < V) (some : 1 ≤ d) (lifted : z ≤ (V * V - L * L + (d - 1)) / d) where
  -- at the ceiling V is reached
  pub reaches : V ≤ root (L * L + d * ((V * V - L * L + (d - 1)) / d - z + z))
  reaches =
      let q : (V * V - L * L + (d - 1)) / d - z + z ≡ (V * V - L * L + (d - 1)) / d = omega arith in
      rw q (below_root V _ _ (omega (arith, steps_reach (V * V - L * L) d some, faster L V h)) (root_high _))

  -- where V is reached the ceiling is
  pub not_before : (s : ℕ) → V ≤ root (L * L + d * (s + z)) → (V * V - L * L + (d - 1)) / d - z ≤ s
  not_before s up =
      let square : V * V ≤ L * L + d * (s + z) = le_trans (square_mono V _ up) (root_low (L * L + d * (s + z))) in
      let most : (V * V - L * L + (d - 1)) / d ≤ s + z = steps_least (V * V - L * L) d (s + z) some (omega arith) in
      omega arith

abbrev steps : ℕ → ℕ → ℕ → ℕ
steps L A V = (V * V - L * L + (2 * A - 1)) / (2 * A) - lift L

climbing : (b : Bool) (L A V : ℕ) → 1 ≤ A → (b ≡ true → L < V)
    → (cond b (min V (root (reached L A (cond b (steps L A V) 0)))) V ≡ V) × ((s : ℕ) → cond b (min V (root (reached L A s))) V ≡ V → cond b (steps L A V) 0 ≤ s)
climbing true L A V some h =
    let below = h refl in
    let fits = lift_fits L V (2 * A) below (omega arith) in
    (min-eq_left (reaches L V (2 * A) (lift L) below (omega arith) fits), λ s e. not_before L V (2 * A) (lift L) below (omega arith) fits s (omega (arith, e)))
climbing false L A V some h = (refl, λ s e. omega arith)

-- the ceiling is the least level of the highest rate
pub least_at_top : (m : SpeedMode) (L A V : ℕ) → 1 ≤ A → LeastAtTop m L A V (ceiling_level m L A V)
least_at_top Low L A V some = record { there = refl; least = λ s e. omega arith }
least_at_top High L A V some = let r = climbing (ltb L V) L A V some (ltb-true L V) in record { there = r.0; least = r.1 }

-- a ramp never stands still
pub reached_some : (L A s : ℕ) → 1 ≤ A → 1 ≤ reached L A s
reached_some L A s some = by (eqb_tells L 0)
  where
    by : ((eqb L 0 ≡ true) × (L ≡ 0)) ⊎ ((eqb L 0 ≡ false) × (L ≡ 0 → ⊥)) → 1 ≤ reached L A s
    by (inl t) =
        let one : lift L ≡ 1 = ap (λ b. cond b 1 0) t.0 in
        let step : 1 * 1 ≤ 2 * A * (s + lift L) = mul-le-mul {n₁ = 1} {m₁ = 1} {n₂ = 2 * A} {m₂ = s + lift L} (omega arith) (omega arith) in
        omega arith
    by (inr t) = let step : 1 * 1 ≤ L * L = square_mono 1 L (grind arith) in omega arith

pub root_some : (n : ℕ) → 1 ≤ n → 1 ≤ root n
root_some n h = below_root 1 (root n) n (omega arith) (root_high n)

-- w is the root that the code finds of q, the square at the level s
pub high_rate : (L A V s q w : ℕ) → q ≡ reached L A s → w * w ≤ q → q < (w + 1) * (w + 1) → L < V → min V w ≡ rate_at High L A V s
high_rate L A V s q w square low high h = rw (lt-ltb L V h) (ap (min V) (root_is (reached L A s) w (rw square at low) (rw square at high)))
