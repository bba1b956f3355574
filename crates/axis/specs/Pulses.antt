-- When a pulse is taken.
use Rattle.std.specs.Prelude.{Bool, ◌&&◌, ℤ, ◌+ℤ◌, int_le}
use Rattle.axis.specs.Steps.{step}
use Rattle.axis.specs.declared.direction.Direction.{Direction}

-- p is within the ends, both included
abbrev pub within : ℤ → ℤ → ℤ → Bool
within low high p = int_le low p && int_le p high

-- the windings are on, and the new place is within the ends
abbrev pub takes : Bool → ℤ → ℤ → ℤ → Direction → Bool
takes powered low high place way = powered && within low high (place +ℤ step way)
