-- Outcomes that differ.
use Rattle.std.proofs.Common.{◌≡◌, ℕ, Bool, true, false, cond, Ok, Err, Result, ap, arith}
use Rattle.orders.specs.declared.heard.Heard.{Heard}
use Rattle.orders.specs.declared.fault.WordFault.{WordFault}
use Rattle.orders.specs.declared.fault.WordFault.TheVariants.{Missing, Foreign, NoCode, OutOfRange}

abbrev okay : {T E : Type 0} → Result T E → Bool
okay (Ok x) = true
okay (Err e) = false

pub refused : {T E : Type 0} (e : E) (x : T) → Err e ≡ Ok x → ⊥
refused e x h = let b : false ≡ true = ap okay h in let z : ◌≡◌ {A = ℕ} 0 1 = cc in omega arith

-- the four looks at a word
abbrev pub judged : Bool → Bool → Bool → Bool → Heard → ℕ → Result Heard WordFault
judged a b c d g p = cond a (Err (Missing p)) (cond b (Err (Foreign p)) (cond c (Err (NoCode p)) (cond d (Err (OutOfRange p)) (Ok g))))
