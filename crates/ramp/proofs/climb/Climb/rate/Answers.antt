use Rattle.std.proofs.Common.{◌∙◌, rules}
use Rattle.ramp.proofs.Climbs.{high_rate}
use Rattle.ramp.proofs.climb.Climb.rate.Goals as goal

pub returns : goal.returns
returns c =
    let s = c.args.self in
    c.min.ensures ∙ high_rate s.low s.acceleration s.speed c.args.level _ c.whole_root.result (search rules) c.whole_root.ensures.low c.whole_root.ensures.high c.if-self.false
