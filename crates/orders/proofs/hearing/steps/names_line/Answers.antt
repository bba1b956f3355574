use Rattle.std.proofs.Common.{◌||◌, sym, ap, ◌∙◌}
use Rattle.words.specs.Listing.{words}
use Rattle.orders.specs.Lines.{named}
use Rattle.orders.proofs.Hands.{first_left}
use Rattle.orders.proofs.hearing.steps.names_line.Goals as goal

pub loop-word-preserved : goal.loop-word-preserved
loop-word-preserved c =
    let n = c.loop-word.reader.length in
    let after = c.next_word.new.reader.rest.now in
    let same = c.in-Some.ensures.length in
    let first = first_left n c.loop-word.reader.rest.now after c.in-Some.word c.in-Some.ensures.word in (
      ap (λ m. named (words m after)) same ∙ ap (λ b. b || named (words n after)) c.if-is_line.ensures ∙ sym (ap named first) ∙ c.loop-word.invariant.0,
      same ∙ c.loop-word.invariant.1,
    )
