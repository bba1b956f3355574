use Rattle.std.proofs.Common.{length, ap, ◌∙◌, sym, rules}
use Rattle.words.specs.Checking.{first_bad}
use Rattle.words.proofs.Scans.{past_some, none_bad}
use Rattle.words.proofs.bytes.check.Goals as goal

pub loop-preserved : goal.loop-preserved
loop-preserved c =
    let after = c.word.new.self.rest.now in
    let same = c.in_ok-word.ensures.length in
    let past = past_some c.loop.reader.length c.loop.reader.rest.now after c.in_ok-word.field-0 c.in_ok-word.ensures.word (search rules) in
    (ap (λ m. first_bad (length after) m after) same ∙ past ∙ c.loop.invariant.0, same ∙ c.loop.invariant.1)

pub returns : goal.returns
returns c =
    let none = none_bad c.loop.reader.length c.loop.reader.rest.now c.word.new.self.rest.now c.in_ok-word.field-0 c.in_ok-word.ensures.word (search rules) in
    sym c.loop.invariant.0 ∙ none
