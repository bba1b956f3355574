-- What a host line orders: H and two digits.
use Rattle.std.specs.Prelude.{◌≡◌, ℕ, refl, Some, List, Bool, true, false}
use Rattle.codes.specs.Coded.{coded_among}
use Rattle.codes.specs.declared.host.TheConstants.{ALL}
use Rattle.codes.specs.declared.host.HostCode.{HostCode}
use Rattle.codes.specs.declared.host.HostCode.TheVariants.{Start, StepMode, JogMode, HighSpeed, LowSpeed, Clockwise, Counterclockwise, ReturnToZero, ZeroCounter, HomeSearch, ClearLine, SendLine, SendPointer, SendParameter, SendPosition, SendStatus, SendOutputs, SendInputs, Incremental, Absolute, WindingsOn, WindingsOff}

abbrev pub code : HostCode → ℕ
code Start = 1
code StepMode = 2
code JogMode = 3
code HighSpeed = 4
code LowSpeed = 5
code Clockwise = 6
code Counterclockwise = 7
code ReturnToZero = 8
code ZeroCounter = 9
code HomeSearch = 10
code ClearLine = 11
code SendLine = 13
code SendPointer = 15
code SendParameter = 16
code SendPosition = 17
code SendStatus = 19
code SendOutputs = 20
code SendInputs = 21
code Incremental = 33
code Absolute = 34
code WindingsOn = 35
code WindingsOff = 36

-- the codes that ask for an answer
abbrev pub transfers : HostCode → Bool
transfers Start = false
transfers StepMode = false
transfers JogMode = false
transfers HighSpeed = false
transfers LowSpeed = false
transfers Clockwise = false
transfers Counterclockwise = false
transfers ReturnToZero = false
transfers ZeroCounter = false
transfers HomeSearch = false
transfers ClearLine = false
transfers SendLine = true
transfers SendPointer = true
transfers SendParameter = true
transfers SendPosition = true
transfers SendStatus = true
transfers SendOutputs = true
transfers SendInputs = true
transfers Incremental = false
transfers Absolute = false
transfers WindingsOn = false
transfers WindingsOff = false

unfoldable pub host_codes : List HostCode
host_codes = ALL

-- each is found by its number
pub found : (c : HostCode) → coded_among code host_codes (code c) ≡ Some c
unfolding host_codes
found Start = refl
found StepMode = refl
found JogMode = refl
found HighSpeed = refl
found LowSpeed = refl
found Clockwise = refl
found Counterclockwise = refl
found ReturnToZero = refl
found ZeroCounter = refl
found HomeSearch = refl
found ClearLine = refl
found SendLine = refl
found SendPointer = refl
found SendParameter = refl
found SendPosition = refl
found SendStatus = refl
found SendOutputs = refl
found SendInputs = refl
found Incremental = refl
found Absolute = refl
found WindingsOn = refl
found WindingsOff = refl
