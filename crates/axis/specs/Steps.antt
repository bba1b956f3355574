-- Directions as numbers: clockwise is up.
use Rattle.std.specs.Prelude.{ℤ, pos, negsuc}
use Rattle.axis.specs.declared.direction.Direction.{Direction}
use Rattle.axis.specs.declared.direction.Direction.TheVariants.{Clockwise, Counterclockwise}

-- what one pulse adds to the place
abbrev pub step : Direction → ℤ
step Clockwise = pos 1
step Counterclockwise = negsuc 0

abbrev pub opposite : Direction → Direction
opposite Clockwise = Counterclockwise
opposite Counterclockwise = Clockwise
