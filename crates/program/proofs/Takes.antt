-- What taking a line comes to, from its parts.
use Rattle.std.proofs.Common.{◌≡◌, ℕ, ◌-◌, Bool, true, false, cond, ◌&&◌, eqb, List, length, Ok, Err, Result, sym, refl, ap, ◌∙◌, subst, arith}
use Rattle.words.specs.Listing.{words}
use Rattle.orders.specs.Lines.{and_then, heard_of}
use Rattle.orders.specs.Orders.{order, wordless, reading}
use Rattle.orders.specs.declared.heard.Fields.{Fields}
use Rattle.orders.specs.declared.heard.Heard.{Heard}
use Rattle.orders.specs.declared.order.Order.{Order}
use Rattle.orders.specs.declared.order.Order.TheVariants.{Clear, Hold, Stop, Transfer, Point, Store, Set, Act}
use Rattle.orders.specs.declared.fault.WordFault.{WordFault}
use Rattle.program.specs.Memories.{line_of, waits, addressed, judged, taken, stored_at, stored, Aims}
use Rattle.program.specs.declared.fault.OrderFault.{OrderFault}
use Rattle.program.specs.declared.fault.OrderFault.TheVariants.{Word, Memory, Busy}
use Rattle.program.proofs.Lines.{About, about}
use Rattle.orders.proofs.Outcomes.{refused}
use Rattle.program.proofs.Putting.{let_through}

idle : (b : Bool) (o : Order) → cond (b && false) (Err Busy) (Ok o) ≡ Ok o
idle true o = refl
idle false o = refl

-- an order without words, or a transfer
pub record AtOnce (busy : Bool) (p : ℕ) (lines : List Fields) (o : Order) : Type 0 where
  pub passes : judged busy (Ok o) ≡ Ok o
  pub line : p ≡ line_of o p
  pub same : lines ≡ stored (Ok o) p lines

pub at_once : (busy : Bool) (p : ℕ) (lines : List Fields) (o : Order) → wordless o ≡ true → AtOnce busy p lines o
at_once busy p lines Clear h = record { passes = idle busy Clear; line = refl; same = refl }
at_once busy p lines Hold h = record { passes = idle busy Hold; line = refl; same = refl }
at_once busy p lines Stop h = record { passes = idle busy Stop; line = refl; same = refl }
at_once busy p lines (Transfer c) h = record { passes = idle busy (Transfer c); line = refl; same = refl }
at_once busy p lines (Point n) h = absurd (let z : ◌≡◌ {A = ℕ} 0 1 = cc in omega arith)
at_once busy p lines (Store l f) h = absurd (let z : ◌≡◌ {A = ℕ} 0 1 = cc in omega arith)
at_once busy p lines (Set s) h = absurd (let z : ◌≡◌ {A = ℕ} 0 1 = cc in omega arith)
at_once busy p lines (Act l c) h = absurd (let z : ◌≡◌ {A = ℕ} 0 1 = cc in omega arith)

-- accepted words were heard to the end
accepted : (busy : Bool) (m : Result Heard WordFault) (o : Order) → judged busy (and_then m (λ h. Ok (order h))) ≡ Ok o → (g : Heard) × ((m ≡ Ok g) × (order g ≡ o))
accepted busy (Ok g) o e = (g, (refl, let_through (busy && waits (order g)) (order g) o e))
accepted busy (Err x) o e = absurd (refused (Word x) o e)

module _ (R : ℕ) (busy : Bool) (lines : List Fields) (bs : List ℕ) (full : length lines ≡ 400) where
  pub in_full : taken R busy lines bs ≡ judged busy (reading R bs)
  in_full = ap (λ n. cond (eqb n 400) (judged busy (reading R bs)) (Err Memory)) full

  pub by_words : (n : ℕ) (rest : List ℕ) (o : Order) (a p : ℕ) → reading R bs ≡ and_then (heard_of R false (words n rest)) (λ h. Ok (order h)) → Aims R n rest p a
      → judged busy (and_then (heard_of R false (words n rest)) (λ h. Ok (order h))) ≡ Ok o
      → (taken R busy lines bs ≡ Ok o) × (cond (addressed o) a p ≡ line_of o p) × (stored_at (a - 1) (Ok o) lines ≡ stored (taken R busy lines bs) p lines)
  by_words n rest o a p read aims is =
      let heard = accepted busy (heard_of R false (words n rest)) o is in
      let place : About a p o = subst (About a p) heard.1.1 (about a p heard.0 (aims heard.0 heard.1.0)) in
      let whole : taken R busy lines bs ≡ Ok o = in_full ∙ ap (judged busy) read ∙ is in
      (whole, place.0, place.1 lines ∙ ap (λ (r : Result Order OrderFault). stored r p lines) (sym whole))
