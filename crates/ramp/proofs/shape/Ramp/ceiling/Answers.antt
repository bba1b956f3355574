use Rattle.ramp.proofs.Climbs.{least_at_top}
use Rattle.ramp.proofs.shape.Ramp.ceiling.Goals as goal

pub returns-clause-least : goal.returns-clause-least
returns-clause-least c =
    let s = c.args.self.now in
    rw s.ceiling_is (least_at_top s.mode s.climb.low s.climb.acceleration s.climb.speed s.climb.acceleration_some)
