-- Bytes by kind.
use Rattle.std.specs.Prelude.{ℕ, Bool, ◌||◌, ◌==◌}

abbrev pub blank : ℕ → Bool
blank b = b == 32

-- N, G, X, F, L or H
abbrev pub letter : ℕ → Bool
letter b = b == 78 || (b == 71 || (b == 88 || (b == 70 || (b == 76 || b == 72))))
