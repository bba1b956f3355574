-- The value of each parameter, as a number.
use Rattle.std.specs.Prelude.{◌≡◌, ℕ, Bool, cond, ℤ, pos, negsuc, int_lt}
use Rattle.axis.specs.Steps.{step}
use Rattle.settings.specs.Parameters.{row, same}
use Rattle.settings.specs.declared.parameter.Parameter.{Parameter}
use Rattle.settings.specs.declared.parameter.Parameter.TheVariants.{RunFormat, HomeDirection, JogSpeed, Acceleration, LowSpeed, StepLength, HomeSpeed, HomeOffset, ClockwiseLimit, CounterclockwiseLimit, StartLine, ChangeoverTime, SwitchInputs, FurtherRuns, TransferCode, Backlash, AutoReverse}
use Rattle.settings.specs.declared.parameter.RunFormat.{RunFormat as Format}
use Rattle.settings.specs.declared.parameter.RunFormat.TheVariants.{SingleLine, Counted, Endless}
use Rattle.settings.specs.declared.values.Settings.{Settings}

abbrev pub format_number : Format → ℤ
format_number SingleLine = pos 1
format_number Counted = pos 2
format_number Endless = pos 3

abbrev pub digit_of : Bool → ℤ
digit_of b = cond b (pos 1) (pos 0)

-- the home direction is 1 or −1
abbrev pub value : Settings → Parameter → ℤ
value s RunFormat = format_number s.run_format
value s HomeDirection = step s.home_direction
value s JogSpeed = s.jog_speed
value s Acceleration = s.acceleration
value s LowSpeed = s.low_speed
value s StepLength = s.step_length
value s HomeSpeed = s.home_speed
value s HomeOffset = s.home_offset
value s ClockwiseLimit = s.clockwise_limit
value s CounterclockwiseLimit = s.counterclockwise_limit
value s StartLine = s.start_line
value s ChangeoverTime = s.changeover_time
value s SwitchInputs = digit_of s.switch_inputs
value s FurtherRuns = s.further_runs
value s TransferCode = s.transfer_code
value s Backlash = s.backlash
value s AutoReverse = digit_of s.auto_reverse

-- what a parameter has once v was put into it
abbrev pub kept : Parameter → ℤ → ℤ
kept HomeDirection v = cond (int_lt v (pos 0)) (negsuc 0) (pos 1)
kept RunFormat v = v
kept JogSpeed v = v
kept Acceleration v = v
kept LowSpeed v = v
kept StepLength v = v
kept HomeSpeed v = v
kept HomeOffset v = v
kept ClockwiseLimit v = v
kept CounterclockwiseLimit v = v
kept StartLine v = v
kept ChangeoverTime v = v
kept SwitchInputs v = v
kept FurtherRuns v = v
kept TransferCode v = v
kept Backlash v = v
kept AutoReverse v = v

-- t is s with v put into p: every other parameter is as it was, and the resolution too
pub record Put (s t : Settings) (p : Parameter) (v : ℤ) : Type 0 where
  pub values : (q : Parameter) → value t q ≡ cond (same p q) (kept p v) (value s q)
  pub resolution : t.resolution ≡ s.resolution

-- every parameter of s is at its start, for the resolution R
pub record Started (R : ℕ) (s : Settings) : Type 0 where
  pub values : (q : Parameter) → value s q ≡ (row R q).start
  pub resolution : s.resolution ≡ R
