-- All that is known of an axis, as one record: for code that is generic over the axis.
use Rattle.std.specs.Prelude.{ℕ, Bool, cond, ℤ, pos, ◌+ℤ◌, ◌-ℤ◌, ◌*ℤ◌}
use Rattle.std.specs.Int.{int_min}
use Rattle.axis.specs.Steps.{step}
use Rattle.axis.specs.Pulses.{takes}
use Rattle.axis.specs.declared.direction.Direction.{Direction}
use Rattle.axis.specs.declared.direction.Direction.TheVariants.{Clockwise, Counterclockwise}
use Rattle.axis.specs.declared.interface.Axis.{Ghosts}

pub record Stand : Type 0 where
  pub place : ℤ
  pub low : ℤ
  pub high : ℤ
  pub powered : Bool

abbrev pub stand : {X : Type 0} → Ghosts X → X → Stand
stand g x = record { place = g.place x; low = g.low x; high = g.high x; powered = g.powered x }

abbrev pub taken : Direction → Stand → Bool
taken way s = takes s.powered s.low s.high s.place way

abbrev pub moved : Stand → ℤ → Stand
moved s p = record { place = p; low = s.low; high = s.high; powered = s.powered }

-- how far the end of that way is
abbrev pub gap : Direction → Stand → ℤ
gap Clockwise s = s.high -ℤ s.place
gap Counterclockwise s = s.place -ℤ s.low

-- how many of n pulses one way are taken: all, or up to the end of that way; none while the windings are off
abbrev pub reach : Direction → ℕ → Stand → ℤ
reach way n s = cond s.powered (int_min (pos n) (gap way s)) (pos 0)

-- n places on
abbrev pub along : Direction → ℕ → Stand → Stand
along way n s = moved s (s.place +ℤ pos n *ℤ step way)
