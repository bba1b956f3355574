-- What holds of every ramp, and cases worked by hand.
use Rattle.std.specs.Prelude.{◌≡◌, ℕ, ◌+◌, ◌<◌, ◌≤◌, true, [], ◌∷◌, length}
use Rattle.ramp.specs.Rates.{rate_at, ceiling_level, ticks, in_range}
use Rattle.ramp.specs.Levels.{going, to_come, fading}
use Rattle.ramp.specs.declared.mode.SpeedMode.{SpeedMode}
use Rattle.ramp.specs.declared.mode.SpeedMode.TheVariants.{High}
use Rattle.ramp.specs.declared.motor.Motor.TheVariants.{AtRest}

pub record RateLaws : Type 0 where
  -- a rate is at least 1, and at high speed never more than the move's speed
  pub some : (m : SpeedMode) (L A V s : ℕ) → in_range m L A V ≡ true → 1 ≤ rate_at m L A V s
  pub capped : (L A V s : ℕ) → rate_at High L A V s ≤ V
  -- a higher level is never slower
  pub rises : (m : SpeedMode) (L A V s t : ℕ) → s ≤ t → rate_at m L A V s ≤ rate_at m L A V t

pub record LevelLaws : Type 0 where
  -- the next level is below the pulses left, so that the move can come down in them
  pub below_left : (C p r : ℕ) → 0 < r → going C p r < r
  pub under_ceiling : (C p r : ℕ) → going C p r ≤ C
  -- it differs from the last by one at most
  pub up_one : (C p r : ℕ) → going C p r ≤ p + 1
  pub down_one : (C p r : ℕ) → p ≤ C → p ≤ r → p ≤ going C p r + 1
  -- the last pulse has level 0
  pub last : (C p : ℕ) → going C p 1 ≡ 0
  -- slowing from level k takes k pulses more
  pub fading_count : (k : ℕ) → length (fading k) ≡ k

-- L 300, A 1,000, V 1,000; from standstill; a rate's wait; and the levels of short moves under a ceiling that they do not reach
pub record WorkedCases : Type 0 where
  pub ceiling : ceiling_level High 300 1000 1000 ≡ 455
  pub first : rate_at High 300 1000 1000 0 ≡ 300
  pub second : rate_at High 300 1000 1000 1 ≡ 303
  pub top : rate_at High 300 1000 1000 455 ≡ 1000
  pub wait : ticks 303 ≡ 49504
  pub standstill : rate_at High 0 1000 1000 0 ≡ 44
  pub five : (C : ℕ) → 2 ≤ C → to_come AtRest C 5 ≡ 0 ∷ 1 ∷ 2 ∷ 1 ∷ 0 ∷ []
  pub four : (C : ℕ) → 1 ≤ C → to_come AtRest C 4 ≡ 0 ∷ 1 ∷ 1 ∷ 0 ∷ []
  pub two : (C : ℕ) → to_come AtRest C 2 ≡ 0 ∷ 0 ∷ []
