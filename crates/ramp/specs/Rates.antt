-- The rate of a pulse by its level. L is the low speed, A the acceleration, V the move's speed, s the level.
use Rattle.std.specs.Prelude.{◌≡◌, ℕ, ◌+◌, ◌-◌, ◌*◌, ◌/◌, ◌≤◌, min, Bool, true, cond, ◌&&◌, ◌==◌, nat_le, nat_lt}
use Rattle.ramp.specs.Roots.{root}
use Rattle.ramp.specs.declared.mode.SpeedMode.{SpeedMode}
use Rattle.ramp.specs.declared.mode.SpeedMode.TheVariants.{Low, High}

-- from standstill, L 0, the ramp begins one level on, so that no rate is 0
abbrev pub lift : ℕ → ℕ
lift L = cond (L == 0) 1 0

-- the square of the speed that a steady acceleration reaches at level s
abbrev pub reached : ℕ → ℕ → ℕ → ℕ
reached L A s = L * L + 2 * A * (s + lift L)

-- pulses a second
abbrev pub rate_at : SpeedMode → ℕ → ℕ → ℕ → ℕ → ℕ
rate_at Low L A V s = L
rate_at High L A V s = cond (nat_lt L V) (min V (root (reached L A s))) V

-- the rate that a move climbs to
abbrev pub top_rate : SpeedMode → ℕ → ℕ → ℕ
top_rate Low L V = L
top_rate High L V = V

-- the level that it climbs to: what is left of V × V over L × L, in steps of 2 × A, rounded up
abbrev pub ceiling_level : SpeedMode → ℕ → ℕ → ℕ → ℕ
ceiling_level Low L A V = 0
ceiling_level High L A V = cond (nat_lt L V) ((V * V - L * L + (2 * A - 1)) / (2 * A) - lift L) 0

-- c is the least level at which the rate is that which the move climbs to
pub record LeastAtTop (m : SpeedMode) (L A V c : ℕ) : Type 0 where
  pub there : rate_at m L A V c ≡ top_rate m L V
  pub least : (s : ℕ) → rate_at m L A V s ≡ top_rate m L V → c ≤ s

-- the clock's ticks from a pulse to the next
abbrev pub ticks : ℕ → ℕ
ticks r = 15000000 / r

-- a low speed of 0 drives no move at low speed
abbrev pub drives : SpeedMode → ℕ → Bool
drives Low L = nat_le 1 L
drives High L = true

-- the ranges: L to 1,875,000, A from 1 to 99,999,999, V from 1 to 1,875,000
abbrev pub climbs : ℕ → ℕ → ℕ → Bool
climbs L A V = nat_le L 1875000 && ((nat_le 1 A && nat_le A 99999999) && (nat_le 1 V && nat_le V 1875000))

abbrev pub in_range : SpeedMode → ℕ → ℕ → ℕ → Bool
in_range m L A V = climbs L A V && drives m L
