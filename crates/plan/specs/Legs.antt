-- The legs of an index.
use Rattle.std.specs.Prelude.{Bool, cond, ◌&&◌, ◌||◌, List, [], ◌∷◌, ◌++◌, ℤ, pos, ◌+ℤ◌, ◌-ℤ◌, neg_ℤ, Some, None, Option, int_lt}
use Rattle.plan.specs.declared.leg.Leg.{Leg}
use Rattle.plan.specs.declared.route.Legs.{Legs}

-- X, or from the counter to X
abbrev pub distance : ℤ → ℤ → Bool → ℤ
distance x counter absolute = cond absolute (x -ℤ counter) x

abbrev pub forward : ℤ → Bool
forward d = int_lt (pos 0) d

abbrev pub backward : ℤ → Bool
backward d = int_lt d (pos 0)

abbrev pub same_way : ℤ → ℤ → Bool
same_way d b = cond (forward d) (forward b) (backward d && backward b)

-- a backlash of the move's own sign is overshot and taken back
abbrev pub outward : ℤ → ℤ → List ℤ
outward d b = cond (same_way d b) ((d +ℤ b) ∷ neg_ℤ b ∷ []) (d ∷ [])

abbrev pub back : ℤ → Bool → List ℤ
back d reverse = cond reverse (neg_ℤ d ∷ []) []

-- none where there is nowhere to go
abbrev pub legs : ℤ → ℤ → Bool → List ℤ
legs d b reverse = cond (forward d || backward d) (outward d b ++ back d reverse) []

abbrev pub one : Option Leg → List ℤ
one None = []
one (Some l) = l.pulses ∷ []

abbrev pub listed : Legs → List ℤ
listed l = l.first.pulses ∷ one l.second ++ one l.third
