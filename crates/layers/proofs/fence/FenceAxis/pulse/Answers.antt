use Rattle.layers.proofs.Fenced.{fenced, same_base}
use Rattle.layers.proofs.fence.FenceAxis.pulse.Goals as goal

pub returns-clause-taken : goal.returns-clause-taken
returns-clause-taken g c =
    let inside = c.in-Some.ensures.some in
    let below = c.if-not-pulse.ensures.taken in
    simp (fenced, inside) below

pub returns-clause-low : goal.returns-clause-low
returns-clause-low g c =
    let below = c.if-not-pulse.ensures in
    simp (c.in-Some.ensures.allowance, c.in-Some.ensures.net, below.low, below.place, same_base)

pub returns-clause-high : goal.returns-clause-high
returns-clause-high g c =
    let below = c.if-not-pulse.ensures in
    simp (c.in-Some.ensures.allowance, c.in-Some.ensures.net, below.high, below.place, same_base)
