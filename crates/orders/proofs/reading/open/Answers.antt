use Rattle.std.proofs.Common.{◌≡◌, ℕ, false, length, Some, Ok, Err, Option, sym, ap, ◌∙◌, subst, rules}
use Rattle.words.specs.Kinds.{IsKind}
use Rattle.words.specs.Checking.{first_bad}
use Rattle.words.specs.Listing.{words}
use Rattle.words.specs.declared.word.ByteFault.{ByteFault}
use Rattle.words.specs.declared.kind.Line.{Line}
use Rattle.words.specs.declared.kind.Line.TheVariants.{Transfer, Words}
use Rattle.orders.specs.Lines.{and_then, heard_of}
use Rattle.orders.specs.Orders.{order, unless_bad, of_transfer}
use Rattle.orders.specs.Starts.{Opened}
use Rattle.orders.specs.declared.fault.WordFault.TheVariants.{Byte}
use Rattle.orders.proofs.ByKind.{behind_bang, in_words}
use Rattle.orders.proofs.reading.open.Goals as goal

pub returns-in_err-transfer_of-in-Transfer : goal.returns-in_err-transfer_of-in-Transfer
returns-in_err-transfer_of-in-Transfer c =
    let R = c.args.settings.now.resolution in
    let bs = c.args.line.now in
    let is : IsKind bs (Ok (Transfer c.in-Transfer.reader)) = subst (λ (l : Line). IsKind bs (Ok l)) c.in-Transfer.is c.in_ok-kind.ensures in
    let fault : c.from_residual-in_err-transfer_of-in-Transfer.result ≡ Err c.in_err-transfer_of-in-Transfer.field-0.0 = search rules in
    subst (Opened R bs) (sym fault)
    (sym (behind_bang R bs is.0 c.in-Transfer.reader.rest.now is.1) ∙ ap (λ n. of_transfer R n c.in-Transfer.reader.rest.now) (sym is.2) ∙ sym c.transfer_of.ensures.order ∙ c.in_err-transfer_of-in-Transfer.was)

pub returns-in_err-check-in-Words : goal.returns-in_err-check-in-Words
returns-in_err-check-in-Words c =
    let R = c.args.settings.now.resolution in
    let bs = c.args.line.now in
    let is : IsKind bs (Ok (Words c.in-Words.reader)) = subst (λ (l : Line). IsKind bs (Ok l)) c.in-Words.is c.in_ok-kind.ensures in
    let rest = c.in-Words.reader.rest.now in
    let bad = c.in_err-check-in-Words.ensures in
    let first : first_bad (length bs) (length bs) bs ≡ Some bad.0 = ap (λ xs. first_bad (length xs) (length bs) xs) (sym is.1) ∙ ap (λ n. first_bad (length rest) n rest) (sym is.2) ∙ bad.1.1 in
    let fault : c.from_residual-in_err-check-in-Words.result ≡ Err (Byte c.in_err-check-in-Words.field-0.0) = search rules in
    subst (Opened R bs) (sym fault)
    (sym (in_words R bs is.0 is.3 is.4 is.5 is.6)
    ∙ ap (λ (o : Option ℕ). unless_bad o (and_then (heard_of R false (words (length bs) bs)) (λ h. Ok (order h)))) first
    ∙ ap (λ (e : ByteFault). Err (Byte e)) (sym bad.1.0))
