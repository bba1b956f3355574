use Rattle.std.proofs.Common.{◌≡◌, false, pos, ◌+ℤ◌, ◌*ℤ◌}
use Rattle.axis.specs.Steps.{step}
use Rattle.axis.proofs.stroke.stroke.Given as goal

abbrev pub invariant-loop-taken : goal.invariant-loop-taken
invariant-loop-taken g l =
    record {
      place : g.A.Axis.place l.axis ≡ g.A.Axis.place l.initial.axis +ℤ pos l.taken *ℤ step l.way;
      low : g.A.Axis.low l.axis ≡ g.A.Axis.low l.initial.axis;
      high : g.A.Axis.high l.axis ≡ g.A.Axis.high l.initial.axis;
      powered : g.A.Axis.powered l.axis ≡ g.A.Axis.powered l.initial.axis;
      none_while_off : g.A.Axis.powered l.initial.axis ≡ false → l.taken ≡ 0;
    }
