use Rattle.std.proofs.Common.{subst}
use Rattle.orders.specs.declared.heard.Heard.{Heard}
use Rattle.program.specs.Memories.{NumberedOr}
use Rattle.program.proofs.Aiming.{aims, aims_nowhere}
use Rattle.program.proofs.storing.target_of.Goals as goal

pub returns-in-Ok : goal.returns-in-Ok
returns-in-Ok c =
    aims c.args.settings.now.resolution c.args.reader.length c.args.reader.rest.now c.new-hearing.result c.word.new.self c.new-hearing.ensures c.in-Ok.field-0 c.args.pointer.number c.line_or.result.number
    c.in-Ok.ensures (subst (λ (h : Heard). NumberedOr h.line c.args.pointer.number c.line_or.result.number) c.heard.ensures c.line_or.ensures)

pub returns-in-Err : goal.returns-in-Err
returns-in-Err c =
    aims_nowhere c.args.settings.now.resolution c.args.reader.length c.args.reader.rest.now c.new-hearing.result c.word.new.self c.new-hearing.ensures c.in-Err.field-0 c.args.pointer.number
    c.in-Err.ensures
