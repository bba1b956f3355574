-- The line that an order is about, by what was heard.
use Rattle.std.proofs.Common.{◌≡◌, ℕ, ◌-◌, Bool, true, false, cond, List, set, Some, None, Ok, Option, refl, ap}
use Rattle.codes.specs.declared.host.HostCode.{HostCode}
use Rattle.orders.specs.Meanings.{any_field}
use Rattle.orders.specs.Orders.{order, set_or_done, done, stored as ordered}
use Rattle.orders.specs.declared.heard.Fields.{Fields}
use Rattle.orders.specs.declared.heard.Heard.{Heard}
use Rattle.orders.specs.declared.heard.Setting.{Setting}
use Rattle.orders.specs.declared.order.Order.{Order}
use Rattle.orders.specs.declared.order.Order.TheVariants.{Store, Point}
use Rattle.program.specs.Memories.{named_or, line_of, addressed, stored_at, stored}

abbrev pub About : ℕ → ℕ → Order → Type 0
About a p o = (cond (addressed o) a p ≡ line_of o p) × ((lines : List Fields) → stored_at (a - 1) (Ok o) lines ≡ stored (Ok o) p lines)

module _ (a p : ℕ) where
  fields_about : (l : Option ℕ) (f : Fields) → a ≡ named_or l p → About a p (ordered l f)
  fields_about None f e = (e, λ lines. ap (λ k. set lines (k - 1) f) e)
  fields_about (Some n) f e = by (any_field f)
    where
      by : (k : Bool) → About a p (cond k (Store (Some n) f) (Point n))
      by true = (e, λ lines. ap (λ k. set lines (k - 1) f) e)
      by false = (e, λ lines. refl)

  done_about : (c : Option HostCode) (l : Option ℕ) (f : Fields) → a ≡ named_or l p → About a p (done c l f)
  done_about (Some c) l f e = (e, λ lines. refl)
  done_about None l f e = fields_about l f e

  set_about : (s : Option Setting) (h : Heard) → a ≡ named_or h.line p → About a p (set_or_done s h)
  set_about (Some s) h e = (refl, λ lines. refl)
  set_about None h e = done_about h.host h.line h.fields e

  pub about : (h : Heard) → a ≡ named_or h.line p → About a p (order h)
  about h e = set_about h.setting h e
