-- The switches of a sample.
use Rattle.std.specs.Prelude.{ℕ, ◌/◌, ◌%◌, ◌^◌, Bool, ◌==◌}
use Rattle.inputs.specs.declared.switch.Switch.{Switch}
use Rattle.inputs.specs.declared.switch.Switch.TheVariants.{ClockwiseLimit, CounterclockwiseLimit, Home, Clear, Hold, FirstInput, SecondInput, Stop}

-- its bit, from 0
abbrev pub place : Switch → ℕ
place ClockwiseLimit = 0
place CounterclockwiseLimit = 1
place Home = 2
place Clear = 3
place Hold = 4
place FirstInput = 5
place SecondInput = 6
place Stop = 7

abbrev pub weight : Switch → ℕ
weight s = 2 ^ place s

abbrev pub bit : Switch → ℕ → Bool
bit s sample = sample / weight s % 2 == 1
