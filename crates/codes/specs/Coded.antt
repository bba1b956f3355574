-- What a number names, as a code.
use Rattle.std.specs.Prelude.{◌≡◌, ◌≢◌, ℕ, Option, Result, MatchResult, List, ◌==◌}
use Rattle.std.specs.List.{find}
use Rattle.codes.specs.declared.coded.UnknownCode.{UnknownCode}

-- the one among some that has the number as its code
abbrev pub coded_among : {C : Type 0} → (C → ℕ) → List C → ℕ → Option C
coded_among code cs n = find (λ c. code c == n) cs

-- the one that the number is the code of, or the number, which is the code of none
abbrev pub Names : {C : Type 0} → (C → ℕ) → ℕ → Result C UnknownCode → Type 0
Names {C} code n r = MatchResult r (λ c. code c ≡ n) (λ e. (e.0 ≡ n) × ((c : C) → code c ≢ n))
