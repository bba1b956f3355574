-- Words of a script row: runs of bytes that are no blanks.
use Rattle.std.specs.Prelude.{ℕ, Bool, not, ◌||◌, List, ◌==◌}
use Rattle.scan.specs.Runs.{span, past}

-- a space, a tab or a carriage return
abbrev pub blank : ℕ → Bool
blank b = b == 32 || (b == 9 || b == 13)

abbrev pub visible : ℕ → Bool
visible b = not (blank b)

abbrev pub trimmed : List ℕ → List ℕ
trimmed bs = past blank bs

abbrev pub first_word : List ℕ → List ℕ
first_word bs = span visible (trimmed bs)

abbrev pub after_word : List ℕ → List ℕ
after_word bs = past visible (trimmed bs)
