-- The guard's two ways out, as one.
use Rattle.std.proofs.Common.{◌≡◌, ℕ, Bool, true, false, cond, List, get_or, set, Some, None, Ok, Err, Option, Result, sym, refl, ap, ◌∙◌}
use lib.Seq.{set-get_or}
use Rattle.std.specs.Option.{unwrap_or}
use Rattle.orders.proofs.Outcomes.{refused}
use Rattle.codes.specs.declared.host.HostCode.{HostCode}
use Rattle.orders.specs.Meanings.{any_field}
use Rattle.orders.specs.Orders.{order, set_or_done, done, stored as ordered}
use Rattle.orders.specs.declared.heard.Fields.{Fields}
use Rattle.orders.specs.declared.heard.Heard.{Heard}
use Rattle.orders.specs.declared.heard.Setting.{Setting}
use Rattle.orders.specs.declared.order.Order.{Order}
use Rattle.orders.specs.declared.order.Order.TheVariants.{Store, Point}
use Rattle.program.specs.Memories.{stored_at, stores}
use Rattle.program.specs.declared.fault.OrderFault.{OrderFault}
use Rattle.program.specs.declared.fault.OrderFault.TheVariants.{Busy}

module _ (lines : List Fields) (i : ℕ) (d : Fields) where
  abbrev Puts : Order → Fields → Type 0
  Puts o f = set lines i (cond (stores o) f (get_or lines i d)) ≡ stored_at i (Ok o) lines

  back : set lines i (get_or lines i d) ≡ lines
  back = set-get_or lines i d

  fields_or_point : (l : Option ℕ) (f : Fields) → Puts (ordered l f) f
  fields_or_point None f = refl
  fields_or_point (Some n) f = by (any_field f)
    where
      by : (k : Bool) → Puts (cond k (Store (Some n) f) (Point n)) f
      by true = refl
      by false = back

  done_puts : (c : Option HostCode) (l : Option ℕ) (f : Fields) → Puts (done c l f) f
  done_puts (Some c) l f = back
  done_puts None l f = fields_or_point l f

  set_puts : (s : Option Setting) (h : Heard) → Puts (set_or_done s h) h.fields
  set_puts (Some s) h = back
  set_puts None h = done_puts h.host h.line h.fields

  pub puts : (h : Heard) → Puts (order h) h.fields
  puts h = set_puts h.setting h

  -- with what the guard was left, for the order that was accepted
  pub put_for : (h : Heard) (o : Order) (b : Bool) (f : Fields) (j : ℕ) → b ≡ stores o → f ≡ h.fields → order h ≡ o → i ≡ j
      → set lines i (cond b f (get_or lines i d)) ≡ stored_at j (Ok o) lines
  put_for h o b f j is fields same at =
      ap (λ k. set lines i (cond k f (get_or lines i d))) (is ∙ ap stores (sym same))
      ∙ ap (λ g. set lines i (cond (stores (order h)) g (get_or lines i d))) fields
      ∙ puts h
      ∙ ap (λ x. stored_at i (Ok x) lines) same
      ∙ ap (λ k. stored_at k (Ok o) lines) at

-- what the guard leaves: the line as it is written where nothing is put back
pub left : (k : Bool) (d f : Fields) → unwrap_or (cond k None (Some d)) f ≡ cond k f d
left true d f = refl
left false d f = refl

abbrev told : Order → Result Order OrderFault → Order
told o (Ok x) = x
told o (Err e) = o

-- an order that was let through is the order itself
pub let_through : (k : Bool) (o p : Order) → cond k (Err Busy) (Ok o) ≡ Ok p → o ≡ p
let_through true o p e = absurd (refused Busy p e)
let_through false o p e = ap (told o) e
