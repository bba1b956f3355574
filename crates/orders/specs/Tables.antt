-- The code of a number, by the tables of codes.
use Rattle.std.specs.Prelude.{ℕ, Option}
use Rattle.codes.specs.Coded.{coded_among}
use Rattle.codes.specs.Program as program
use Rattle.codes.specs.Host as host
use Rattle.settings.specs.Parameters as parameters
use Rattle.codes.specs.declared.program.ProgramCode.{ProgramCode}
use Rattle.codes.specs.declared.host.HostCode.{HostCode}
use Rattle.settings.specs.declared.parameter.Parameter.{Parameter}

abbrev pub program_coded : ℕ → Option ProgramCode
program_coded n = coded_among program.code program.program_codes n

abbrev pub host_coded : ℕ → Option HostCode
host_coded n = coded_among host.code host.host_codes n

abbrev pub parameter_coded : ℕ → Option Parameter
parameter_coded n = coded_among parameters.code parameters.all_parameters n
