use Rattle.std.proofs.Common.{to_z, of_z, w32, ◌∙◌}
use Rattle.std.proofs.lemmas.Int.{to_z-of_z}
use Rattle.settings.proofs.Ranges.{contains}
use Rattle.settings.proofs.values.Settings.takes.Goals as goal

pub returns : goal.returns
returns c =
    c.contains.ensures.value ∙ contains c.range.result (to_z w32 (of_z w32 c.args.number)) c.range.ensures.unspent ∙ rw (c.range.ensures.least, c.range.ensures.most, to_z-of_z w32 c.args.number c.ranges.number)
