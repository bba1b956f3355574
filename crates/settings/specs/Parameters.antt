-- The table of parameters. R is the axis's resolution, S its top speed.
use Rattle.std.specs.Prelude.{◌≡◌, ℕ, Bool, true, false, ◌&&◌, ℤ, pos, negsuc, ◌==◌, int_le, List, Some, refl}
use Rattle.axis.specs.Resolutions.{top, speed_start, acceleration_start, low_speed_start, step_start}
use Rattle.codes.specs.Coded.{coded_among}
use Rattle.settings.specs.declared.coding.TheConstants.{ALL}
use Rattle.settings.specs.declared.parameter.Parameter.{Parameter}
use Rattle.settings.specs.declared.parameter.Parameter.TheVariants.{RunFormat, HomeDirection, JogSpeed, Acceleration, LowSpeed, StepLength, HomeSpeed, HomeOffset, ClockwiseLimit, CounterclockwiseLimit, StartLine, ChangeoverTime, SwitchInputs, FurtherRuns, TransferCode, Backlash, AutoReverse}

-- one row of the table: code, least and greatest value, starting value, and whether it is written with its sign
pub record Row : Type 0 where
  pub code : ℕ
  pub least : ℤ
  pub most : ℤ
  pub start : ℤ
  pub signed : Bool

abbrev plain : ℕ → ℕ → ℕ → ℕ → Row
plain c l m s = record { code = c; least = pos l; most = pos m; start = pos s; signed = false }

-- within ±99,999,999, starting at 0
abbrev eight_digits : ℕ → Row
eight_digits c = record { code = c; least = negsuc 99999998; most = pos 99999999; start = pos 0; signed = true }

abbrev pub row : ℕ → Parameter → Row
row R RunFormat = plain 6 1 3 2
-- of the home direction only the sign is read, so any number will do
row R HomeDirection = record { code = 8; least = negsuc 2147483647; most = pos 2147483647; start = pos 1; signed = true }
row R JogSpeed = plain 9 1 (top R) (speed_start R)
row R Acceleration = plain 11 1 99999999 (acceleration_start R)
row R LowSpeed = plain 12 0 (top R) (low_speed_start R)
row R StepLength = plain 13 1 99999999 (step_start R)
row R HomeSpeed = plain 14 1 (top R) (speed_start R)
row R HomeOffset = eight_digits 17
row R ClockwiseLimit = eight_digits 18
row R CounterclockwiseLimit = eight_digits 19
row R StartLine = plain 41 1 400 1
row R ChangeoverTime = plain 43 0 9999 0
row R SwitchInputs = plain 45 0 1 0
row R FurtherRuns = plain 47 0 99999999 0
row R TransferCode = plain 49 0 99 0
row R Backlash = eight_digits 66
row R AutoReverse = plain 67 0 1 0

abbrev pub code : Parameter → ℕ
code p = (row 1 p).code

abbrev pub signed : Parameter → Bool
signed p = (row 1 p).signed

abbrev pub fits : ℕ → Parameter → ℤ → Bool
fits R p v = int_le (row R p).least v && int_le v (row R p).most

abbrev pub same : Parameter → Parameter → Bool
same p q = code p == code q

unfoldable pub all_parameters : List Parameter
all_parameters = ALL

-- each is found by its number
pub found : (p : Parameter) → coded_among code all_parameters (code p) ≡ Some p
unfolding all_parameters
found RunFormat = refl
found HomeDirection = refl
found JogSpeed = refl
found Acceleration = refl
found LowSpeed = refl
found StepLength = refl
found HomeSpeed = refl
found HomeOffset = refl
found ClockwiseLimit = refl
found CounterclockwiseLimit = refl
found StartLine = refl
found ChangeoverTime = refl
found SwitchInputs = refl
found FurtherRuns = refl
found TransferCode = refl
found Backlash = refl
found AutoReverse = refl
