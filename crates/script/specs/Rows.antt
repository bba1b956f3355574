-- Which rows are counted.
use Rattle.std.specs.Prelude.{Bool, true, false, Some, None, Ok, Err, Option, Result}
use Rattle.script.specs.declared.row.Row.{Row}
use Rattle.script.specs.declared.fault.Fault.{Fault}
use Rattle.script.specs.declared.fault.Fault.TheVariants.{Mistake, Io}

-- there was a row, and it was read or is answered with what is wrong with it
abbrev pub counted : Result (Option Row) Fault → Bool
counted (Ok None) = false
counted (Ok (Some r)) = true
counted (Err (Mistake m)) = true
counted (Err (Io e)) = false
