-- A programmed line, sent and sent back, is the same line.
use Rattle.std.specs.Prelude.{◌≡◌, ℕ, ◌-◌, ◌≤◌, true, false, List, length, Some, Ok, slice_set}
use Rattle.orders.specs.Meanings.{any_field}
use Rattle.orders.specs.Orders.{reading}
use Rattle.orders.specs.Widths.{InWidths}
use Rattle.orders.specs.declared.heard.Fields.{Fields}
use Rattle.orders.specs.declared.order.Order.TheVariants.{Store}
use Rattle.program.specs.Memories.{taken, stored}
use Rattle.reply.specs.Texts.{line_text}

-- a line that is programmed, with fields in their widths
pub record Sendable (n : ℕ) (f : Fields) : Type 0 where
  pub least : 1 ≤ n
  pub most : n ≤ 400
  pub programmed : any_field f ≡ true
  pub widths : InWidths f

-- on any axis the text of line n is read as an order to store these very fields at n; taken by a board that is not busy, whatever
-- its memory and its pointer, it leaves line n with them and every other line as it was
pub record RoundTrip (n : ℕ) (f : Fields) : Type 0 where
  pub reads : (R : ℕ) → reading R (line_text n f) ≡ Ok (Store (Some n) f)
  pub stores : (R p : ℕ) (lines : List Fields) → length lines ≡ 400 → stored (taken R false lines (line_text n f)) p lines ≡ slice_set lines (n - 1) f
