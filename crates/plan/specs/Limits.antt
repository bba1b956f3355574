-- Where legs may end.
use Rattle.std.specs.Prelude.{ℕ, Bool, false, cond, ◌&&◌, ◌||◌, List, [], ◌∷◌, ℤ, pos, negsuc, ◌+ℤ◌, Ok, Err, Result, int_lt}
use Rattle.plan.specs.Legs.{forward, backward}
use Rattle.plan.specs.declared.fault.MoveFault.{MoveFault}
use Rattle.plan.specs.declared.fault.MoveFault.TheVariants.{WindingsOff, NoLowSpeed, PastLimit, PastEnd}

abbrev pub number_of : MoveFault → ℕ
number_of WindingsOff = 10
number_of NoLowSpeed = 11
number_of PastLimit = 12
number_of PastEnd = 13

-- a limit of 0 is none
abbrev pub enabled : ℤ → Bool
enabled l = forward l || backward l

-- a clockwise leg may not end above its limit, a counterclockwise one not below its own
abbrev pub past_limit : ℤ → ℤ → ℤ → ℤ → Bool
past_limit cw ccw leg end = (forward leg && (enabled cw && int_lt cw end)) || (backward leg && (enabled ccw && int_lt end ccw))

-- nor past the counter's end, 999,999,999 either way
abbrev pub past_end : ℤ → ℤ → Bool
past_end leg end = (forward leg && int_lt (pos 999999999) end) || (backward leg && int_lt end (negsuc 999999998))

-- whether a leg, or the end that it has from c on, is such
abbrev pub any_leg : (ℤ → ℤ → Bool) → ℤ → List ℤ → Bool
any_leg test c [] = false
any_leg test c (l ∷ ls) = test l (c +ℤ l) || any_leg test (c +ℤ l) ls

-- over all legs the limits come before the counter's end
abbrev pub allowed : ℤ → ℤ → ℤ → List ℤ → Result (Unit {0}) MoveFault
allowed cw ccw c ls = cond (any_leg (past_limit cw ccw) c ls) (Err PastLimit) (cond (any_leg past_end c ls) (Err PastEnd) (Ok tt))
