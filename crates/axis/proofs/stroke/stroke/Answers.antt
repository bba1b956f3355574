use Rattle.axis.specs.Stands.{stand}
use Rattle.axis.proofs.Strokes.{refused_at}
use Rattle.axis.proofs.stroke.stroke.Goals as goal

pub returns-then-not-pulse-clause-taken : goal.returns-then-not-pulse-clause-taken
returns-then-not-pulse-clause-taken g c =
    let before = c.loop-taken.invariant in
    let now = c.loop-taken.axis in
    refused_at c.args.way c.args.n c.loop-taken.taken (stand g.A.Axis c.args.axis.now) (stand g.A.Axis now)
    c.loop-taken-test.true before.none_while_off before.place before.low before.high before.powered (g.met.A.Axis.least now) (g.met.A.Axis.most now)
    c.if-not-pulse.ensures.taken
