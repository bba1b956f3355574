use Rattle.std.proofs.Common.{rules}
use Rattle.axis.specs.Stands.{stand}
use Rattle.axis.proofs.Strokes.{back_home}
use Rattle.axis.proofs.stroke.out_and_back.Goals as goal

pub returns-clause-after : goal.returns-clause-after
returns-clause-after g c =
    let start = c.args.axis.now in
    back_home c.args.way _ c.args.n c.stroke-out.result c.stroke-back.result
    (stand g.A.Axis start) (stand g.A.Axis c.stroke-out.new.axis) (stand g.A.Axis c.stroke-back.new.axis)
    (g.met.A.Axis.least start) (g.met.A.Axis.most start)
    c.stroke-out.ensures.taken c.stroke-out.ensures.after c.stroke-back.ensures.taken c.stroke-back.ensures.after (search rules)
