-- The resolutions that there are, and the numbers that follow from one.
use Rattle.std.specs.Prelude.{◌≡◌, ℕ, ◌*◌, true, cond, ◌||◌, ◌==◌}

abbrev pub Resolution : ℕ → Type 0
Resolution r = (r == 1 || (r == 2 || (r == 5 || (r == 10 || r == 125)))) ≡ true

-- the top speed S, in pulses a second
abbrev pub top : ℕ → ℕ
top r = cond (r == 125) 1875000 115000

-- what jog speed, home speed and feed start at, in pulses a second; the acceleration starts at the same number
abbrev pub speed_start : ℕ → ℕ
speed_start r = 1000 * r

abbrev pub acceleration_start : ℕ → ℕ
acceleration_start r = 1000 * r

abbrev pub low_speed_start : ℕ → ℕ
low_speed_start r = 300 * r

-- the length of a step, in pulses
abbrev pub step_start : ℕ → ℕ
step_start r = r
