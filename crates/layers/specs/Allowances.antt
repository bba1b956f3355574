-- What an allowance allows, and how wide it may be.
use Rattle.std.specs.Prelude.{ℕ, Bool, ℤ, pos, neg_ℤ, min}
use Rattle.axis.specs.Pulses.{within}
use Rattle.layers.specs.declared.allowance.Allowance.{Allowance}

-- net pulses, clockwise less counterclockwise, from where it began
abbrev pub allows : Allowance → ℤ → Bool
allows a net = within (neg_ℤ (pos a.down)) (pos a.up) net

-- the widest each way, in pulses
abbrev pub widest : ℕ
widest = 1000000000

-- past the widest it counts as the widest
abbrev pub capped : Allowance → Allowance
capped a = record { down = min a.down widest; up = min a.up widest }
