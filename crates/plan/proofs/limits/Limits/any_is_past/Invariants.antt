use Rattle.std.proofs.Common.{◌≡◌, drop, length}
use Rattle.plan.specs.Legs.{listed}
use Rattle.plan.specs.Limits.{any_leg, past_limit}
use Rattle.plan.proofs.Walked.{walked, any_left, IsNear}
use Rattle.plan.proofs.limits.Limits.any_is_past.Given as goal

-- The legs that are left decide.
abbrev pub invariant-loop-leg : goal.invariant-loop-leg
invariant-loop-leg l = record {
  rest : any_leg (past_limit l.self.clockwise l.self.counterclockwise) l.fn.counter (listed l.fn.legs) ≡ any_left (past_limit l.self.clockwise l.self.counterclockwise) l.end (drop (length l.yielded) (walked l.fn.legs));
  near : IsNear (length l.yielded) l.end;
}
