-- Decimal digits and their value.
use Rattle.std.specs.Prelude.{ℕ, ◌+◌, ◌-◌, ◌*◌, Bool, true, false, ◌&&◌, List, [], ◌∷◌, nat_le}

abbrev pub digit : ℕ → Bool
digit b = nat_le 48 b && nat_le b 57

abbrev pub digits : List ℕ → Bool
digits [] = true
digits (b ∷ bs) = digit b && digits bs

-- one or more digits
abbrev pub numeral : List ℕ → Bool
numeral [] = false
numeral (b ∷ bs) = digits (b ∷ bs)

-- the digits bs behind digits of the value n
abbrev pub read_on : ℕ → List ℕ → ℕ
read_on n [] = n
read_on n (b ∷ bs) = read_on (n * 10 + (b - 48)) bs

abbrev pub value : List ℕ → ℕ
value bs = read_on 0 bs
