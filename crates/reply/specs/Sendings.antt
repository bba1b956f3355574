-- The answers that come out of the memory and the parameters.
use Rattle.std.specs.Prelude.{ℕ, ◌-◌, List, Some, None, Option, slice_index_or, unsigned_abs}
use Rattle.orders.specs.Tables.{parameter_coded}
use Rattle.orders.specs.declared.heard.Fields.{Fields}
use Rattle.program.specs.Memories.{unprogrammed}
use Rattle.settings.specs.Values.{value}
use Rattle.settings.specs.declared.values.Settings.{Settings}
use Rattle.settings.specs.declared.parameter.Parameter.{Parameter}
use Rattle.settings.specs.declared.parameter.Parameter.TheVariants.{TransferCode}
use Rattle.reply.specs.declared.answer.Answer.{Answer}
use Rattle.reply.specs.declared.answer.Answer.TheVariants.{ProgramLine, Parameter as Value, Unlisted}

abbrev pub line_sent : List Fields → ℕ → Answer
line_sent lines n = ProgramLine n (slice_index_or lines (n - 1) unprogrammed)

abbrev pub value_sent : Settings → Option Parameter → Answer
value_sent s None = Unlisted
value_sent s (Some p) = Value p (value s p)

-- the parameter whose code is in L49
abbrev pub parameter_sent : Settings → Answer
parameter_sent s = value_sent s (parameter_coded (unsigned_abs (value s TransferCode)))
