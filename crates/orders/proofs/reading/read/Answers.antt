use Rattle.std.proofs.Common.{rules}
use Rattle.orders.proofs.Blanks.{blank_law}
use Rattle.orders.proofs.Narrowing.{narrow}
use Rattle.orders.proofs.FirstByteLaw.{first_byte_law}
use Rattle.orders.proofs.reading.read.Goals as goal

pub returns-clause-widths : goal.returns-clause-widths
returns-clause-widths c = search (rules, narrow)

pub returns-clause-first : goal.returns-clause-first
returns-clause-first c = first_byte_law c.args.settings.now.resolution c.args.line.now

pub returns-clause-blanks : goal.returns-clause-blanks
returns-clause-blanks c = blank_law c.args.settings.now.resolution c.args.line.now
