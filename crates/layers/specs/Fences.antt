-- The ends of a fenced axis.
use Rattle.std.specs.Prelude.{ℕ, ℤ, pos, ◌+ℤ◌, ◌-ℤ◌}
use Rattle.std.specs.Int.{int_max, int_min}

-- where the axis stood when it was fenced: its place less the pulses taken since
abbrev pub base : ℤ → ℤ → ℤ
base place net = place -ℤ net

-- the tighter of the end below and the fence's own
abbrev pub low_end : ℤ → ℤ → ℤ → ℕ → ℤ
low_end low place net down = int_max low (base place net -ℤ pos down)

abbrev pub high_end : ℤ → ℤ → ℤ → ℕ → ℤ
high_end high place net up = int_min high (base place net +ℤ pos up)
