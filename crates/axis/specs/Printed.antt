-- What a drive shows, as it is printed.
use Rattle.std.specs.Prelude.{ℕ, List, ◌++◌, codes}
use Rattle.std.specs.Fmt.{decimal}
use Rattle.axis.specs.declared.display.Shown.{Shown}
use Rattle.axis.specs.declared.display.Shown.TheVariants.{Counts, Coils}

abbrev pub printed : Shown → List ℕ
printed (Counts clockwise counterclockwise) = codes "counts " ++ decimal clockwise ++ codes " " ++ decimal counterclockwise
printed (Coils bits) = codes "coils " ++ decimal bits
