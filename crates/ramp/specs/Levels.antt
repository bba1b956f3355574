-- The level of each pulse. C is the ceiling, p the level of the last pulse, r the pulses left, the next one included.
use Rattle.std.specs.Prelude.{◌≡◌, ℕ, zero, suc, ◌+◌, ◌-◌, ◌≤◌, min, cond, List, [], ◌∷◌, length, Some, None, Option, ◌==◌}
use Rattle.ramp.specs.declared.motor.Motor.{Motor}
use Rattle.ramp.specs.declared.motor.Motor.TheVariants.{AtRest, Running}

-- one up, but not past the ceiling, and low enough to come down in what is left
abbrev pub going : ℕ → ℕ → ℕ → ℕ
going C p r = min (p + 1) (min C (r - 1))

abbrev pub next_level : Motor → ℕ → ℕ → ℕ
next_level AtRest C r = 0
next_level (Running p) C r = going C p r

-- while slowing: one down; after level 0 the motor rests
abbrev pub slower : Motor → Option ℕ
slower AtRest = None
slower (Running p) = cond (p == 0) None (Some (p - 1))

-- the levels of the last n pulses of a move, after one of level p
abbrev pub going_on : ℕ → ℕ → ℕ → List ℕ
going_on C p zero = []
going_on C p (suc n) = going C p (suc n) ∷ going_on C (going C p (suc n)) n

-- the levels of the n pulses that are left of a move
abbrev pub to_come : Motor → ℕ → ℕ → List ℕ
to_come AtRest C zero = []
to_come AtRest C (suc n) = 0 ∷ going_on C 0 n
to_come (Running p) C n = going_on C p n

-- the levels while slowing after level p
abbrev pub fading : ℕ → List ℕ
fading zero = []
fading (suc k) = k ∷ fading k

abbrev pub fades : Motor → List ℕ
fades AtRest = []
fades (Running p) = fading p

-- from pulse to pulse the level changes by one at most, and the last pulse has level 0; p is the level of the one before
abbrev pub Smooth : ℕ → List ℕ → Type 0
Smooth p [] = p ≡ 0
Smooth p (s ∷ ss) = (s ≤ p + 1) × (p ≤ s + 1) × Smooth s ss

abbrev pub AllUpTo : ℕ → List ℕ → Type 0
AllUpTo C [] = Unit {0}
AllUpTo C (s ∷ ss) = (s ≤ C) × AllUpTo C ss

-- a move from rest to rest: its n levels begin and end at 0, change by one at most, and never pass the ceiling
pub record FromRestToRest (C n : ℕ) (levels : List ℕ) : Type 0 where
  pub count : length levels ≡ n
  pub smooth : Smooth 0 levels
  pub capped : AllUpTo C levels
