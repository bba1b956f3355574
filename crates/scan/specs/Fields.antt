-- The fields of a host line, and the digits that each keeps.
use Rattle.std.specs.Prelude.{ℕ, ◌-◌, List, length, drop}
use Rattle.scan.specs.declared.field.Field.{Field}
use Rattle.scan.specs.declared.field.Field.TheVariants.{Line, Code, Number, Feed}

abbrev pub width : Field → ℕ
width Line = 3
width Code = 2
width Number = 8
width Feed = 7

-- the last digits, as many as the field is wide
abbrev pub kept : Field → List ℕ → List ℕ
kept f ds = drop (length ds - width f) ds
