-- What a line of a program does: G and two digits.
use Rattle.std.specs.Prelude.{◌≡◌, ℕ, refl, Some, List}
use Rattle.codes.specs.Coded.{coded_among}
use Rattle.codes.specs.declared.program.TheConstants.{ALL}
use Rattle.codes.specs.declared.program.ProgramCode.{ProgramCode}
use Rattle.codes.specs.declared.program.ProgramCode.TheVariants.{Dwell, Call, Jump, Branch, Await, OpenLoop, CloseLoop, HighSpeed, LowSpeed, SetParameter, EndRun, Halt, Return, SetOutputs, ReturnToZero, ZeroCounter, Absolute, Incremental}

abbrev pub code : ProgramCode → ℕ
code Dwell = 4
code Call = 11
code Jump = 12
code Branch = 20
code Await = 22
code OpenLoop = 25
code CloseLoop = 26
code HighSpeed = 27
code LowSpeed = 28
code SetParameter = 29
code EndRun = 30
code Halt = 31
code Return = 32
code SetOutputs = 47
code ReturnToZero = 76
code ZeroCounter = 77
code Absolute = 90
code Incremental = 91

unfoldable pub program_codes : List ProgramCode
program_codes = ALL

-- each is found by its number
pub found : (c : ProgramCode) → coded_among code program_codes (code c) ≡ Some c
unfolding program_codes
found Dwell = refl
found Call = refl
found Jump = refl
found Branch = refl
found Await = refl
found OpenLoop = refl
found CloseLoop = refl
found HighSpeed = refl
found LowSpeed = refl
found SetParameter = refl
found EndRun = refl
found Halt = refl
found Return = refl
found SetOutputs = refl
found ReturnToZero = refl
found ZeroCounter = refl
found Absolute = refl
found Incremental = refl
