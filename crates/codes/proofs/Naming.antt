-- The thing that a number names has that number as its code.
use Rattle.std.proofs.Common.{◌≡◌, ◌≢◌, ℕ, List, [], ◌∷◌, Option, Some, MatchOption, rules, subst, sym}
use Rattle.std.specs.Prelude.{IfSome}
use Rattle.std.proofs.lemmas.Bool.Decides.{nat_tests}
use Rattle.codes.specs.Coded.{coded_among}

has_the_code : {C : Type 0} (code : C → ℕ) (n : ℕ) (cs : List C) → IfSome (coded_among code cs n) (λ c. code c ≡ n)
has_the_code code n [] = search rules
has_the_code code n (c ∷ cs) = let rest = has_the_code code n cs in search (rules, nat_tests)

exactly_among : {C : Type 0} (code : C → ℕ) (cs : List C) (n : ℕ) → ((c : C) → coded_among code cs (code c) ≡ Some c) → MatchOption (coded_among code cs n) ((c : C) → code c ≢ n) (λ c. code c ≡ n)
exactly_among code cs n found = let one = has_the_code code n cs in search rules

pub exactly : {C : Type 0} (code : C → ℕ) (cs : List C) (n : ℕ) (o : Option C) → ((c : C) → coded_among code cs (code c) ≡ Some c) → o ≡ coded_among code cs n → MatchOption o ((c : C) → code c ≢ n) (λ c. code c ≡ n)
exactly {C} code cs n o found same = subst (λ o. MatchOption o ((c : C) → code c ≢ n) (λ c. code c ≡ n)) (sym same) (exactly_among code cs n found)
