-- A ramp and a move by their numbers.
use Rattle.std.specs.Prelude.{◌≡◌, ℕ, List, Option, IfSome, IfNone}
use Rattle.std.specs.Iterator.{YieldsFirstBy}
use Rattle.ramp.specs.Rates.{rate_at, ceiling_level, ticks, LeastAtTop}
use Rattle.ramp.specs.Levels.{to_come}
use Rattle.ramp.specs.declared.climb.Climb.{Climb}
use Rattle.ramp.specs.declared.shape.Ramp.{Ramp}
use Rattle.ramp.specs.declared.course.Course.{Course}
use Rattle.ramp.specs.declared.course.Pulse.{Pulse}

-- k climbs from the low speed L at the acceleration A to the speed V
pub record HasNumbers (L A V : ℕ) (k : Climb) : Type 0 where
  pub low : k.low ≡ L
  pub acceleration : k.acceleration ≡ A
  pub speed : k.speed ≡ V

abbrev pub rate_of : Ramp → ℕ → ℕ
rate_of a s = rate_at a.mode a.climb.low a.climb.acceleration a.climb.speed s

abbrev pub ceiling_of : Ramp → ℕ
ceiling_of a = ceiling_level a.mode a.climb.low a.climb.acceleration a.climb.speed

abbrev pub Ceiling : Ramp → ℕ → Type 0
Ceiling a c = LeastAtTop a.mode a.climb.low a.climb.acceleration a.climb.speed c

-- the levels of a move's pulses that are left
abbrev pub levels_left : Course → List ℕ
levels_left c = to_come c.motor (ceiling_of c.ramp) c.left

-- a pulse at level s of the ramp a has the rate of that level and its wait
pub record AtLevel (a : Ramp) (s : ℕ) (p : Pulse) : Type 0 where
  pub level : p.level ≡ s
  pub rate : p.rate.per_second ≡ rate_of a s
  pub wait : p.wait ≡ ticks (rate_of a s)

-- a call of the move c gives r and leaves d: on the same ramp, the first of the levels left comes as a pulse of that level; after the last nothing changes
pub record GivesPulse (c : Course) (r : Option Pulse) (d : Course) : Type 0 where
  pub ramp : d.ramp ≡ c.ramp
  pub levels : YieldsFirstBy (λ p. p.level) levels_left c r d
  pub pulse : IfSome r (λ p. AtLevel c.ramp p.level p)
  pub rests : IfNone r (d ≡ c)
