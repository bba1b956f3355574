use Rattle.std.proofs.Common.{◌≡◌, Bool, true, Ok, Err, ◌∙◌, subst, rules}
use Rattle.orders.specs.Hearings.{Hears}
use Rattle.orders.proofs.Hands.{goes_on, breaks}
use Rattle.program.proofs.storing.hear_into.Goals as goal

pub returns-in_err-word : goal.returns-in_err-word
returns-in_err-word c =
    let R = c.args.settings.now.resolution in
    let fault : c.from_residual.result ≡ Err c.in_err-word.field-0.0 = search rules in
    record {
      said = fault ∙ breaks R c.loop-hearing.hearing c.word.new.self c.in_err-word.field-0.0 c.in_err-word.ensures ∙ c.loop-hearing.invariant.0;
      fields = search rules;
    }

pub loop-hearing-preserved : goal.loop-hearing-preserved
loop-hearing-preserved c =
    let R = c.args.settings.now.resolution in
    let heard : Hears R c.loop-hearing.hearing c.word.new.self (Ok true) =
    subst (λ (b : Bool). Hears R c.loop-hearing.hearing c.word.new.self (Ok b)) c.if-branch.true c.in_ok-word.ensures
    in
    (goes_on R c.loop-hearing.hearing c.word.new.self heard ∙ c.loop-hearing.invariant.0, search rules)
