use Rattle.std.proofs.Common.{◌≡◌, Bool, true, Ok, Err, ◌∙◌, subst, rules}
use Rattle.orders.specs.Hearings.{Hears}
use Rattle.orders.proofs.Hands.{goes_on, breaks}
use Rattle.orders.proofs.telling.told.Goals as goal

pub returns-in_err-word : goal.returns-in_err-word
returns-in_err-word c =
    let fault : c.from_residual.result ≡ Err c.in_err-word.field-0.0 = search rules in
    fault ∙ breaks c.args.settings.now.resolution c.loop.hearing c.word.new.self c.in_err-word.field-0.0 c.in_err-word.ensures ∙ c.loop.invariant

pub loop-preserved : goal.loop-preserved
loop-preserved c =
    let R = c.args.settings.now.resolution in
    let heard : Hears R c.loop.hearing c.word.new.self (Ok true) =
    subst (λ (b : Bool). Hears R c.loop.hearing c.word.new.self (Ok b)) c.if-branch.true c.in_ok-word.ensures
    in
    goes_on R c.loop.hearing c.word.new.self heard ∙ c.loop.invariant
