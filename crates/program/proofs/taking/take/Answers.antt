use Rattle.std.proofs.Common.{ℕ, false, List, length, Ok, Result, sym, ap, ◌∙◌, subst}
use Rattle.words.specs.Listing.{words}
use Rattle.orders.specs.Lines.{and_then, heard_of}
use Rattle.orders.specs.Orders.{order}
use Rattle.orders.specs.Starts.{Opened}
use Rattle.orders.specs.declared.order.Order.{Order}
use Rattle.orders.specs.declared.start.Start.{Start}
use Rattle.orders.specs.declared.start.Start.TheVariants.{Order as Whole, Words}
use Rattle.program.specs.Memories.{judged, stored}
use Rattle.program.specs.declared.fault.OrderFault.{OrderFault}
use Rattle.program.proofs.Takes.{at_once, in_full, by_words}
use Rattle.program.proofs.taking.take.Goals as goal

pub returns-in-Order : goal.returns-in-Order
returns-in-Order c =
    let R = c.args.settings.now.resolution in
    let bs = c.args.line.now in
    let lines = c.args.lines.now in
    let p = c.args.pointer.number in
    let o = c.in-Order.order in
    let is : Opened R bs (Ok (Whole o)) = subst (λ (s : Start). Opened R bs (Ok s)) c.in-Order.is c.in_ok-order.ensures in
    let once = at_once c.args.busy p lines o is.1 in
    let whole = in_full R c.args.busy lines bs c.if-lines-ne-LINES.false ∙ ap (judged c.args.busy) is.0 ∙ once.passes in
    record { order = whole; line = once.line; lines = once.same ∙ ap (λ (r : Result Order OrderFault). stored r p lines) (sym whole) }

pub returns-in_ok-order-in-Words : goal.returns-in_ok-order-in-Words
returns-in_ok-order-in-Words c =
    let R = c.args.settings.now.resolution in
    let bs = c.args.line.now in
    let rest = c.in-Words.reader.rest.now in
    let n = c.in-Words.reader.length in
    let lines = c.args.lines.now in
    let o = c.in_ok-order-in-Words.order in
    let is : Opened R bs (Ok (Words c.in-Words.reader)) = subst (λ (s : Start). Opened R bs (Ok s)) c.in-Words.is c.in_ok-order.ensures in
    let read = is.2 ∙ ap (λ (xs : List ℕ). and_then (heard_of R false (words (length bs) xs)) (λ h. Ok (order h))) (sym is.0)
    ∙ ap (λ m. and_then (heard_of R false (words m rest)) (λ h. Ok (order h))) (sym is.1)
    in
    let all = by_words R c.args.busy lines bs c.if-lines-ne-LINES.false n rest o c.target_of-named.result.number c.args.pointer.number read
    c.target_of-named.ensures (sym c.in_ok-order-in-Words.ensures.order)
    in
    record { order = all.0; line = c.line_about.ensures ∙ all.1; lines = c.in_ok-order-in-Words.ensures.lines ∙ all.2 }
