use Rattle.std.proofs.Common.{◌-◌, ◌&&◌, set, Option, sym, refl, ap, ◌∙◌, rules}
use Rattle.std.specs.Option.{unwrap_or}
use Rattle.orders.specs.declared.heard.Fields.{Fields}
use lib.Seq.{set-get_or}
use Rattle.program.specs.Memories.{waits, stores}
use Rattle.program.proofs.Putting.{put_for, left, let_through}
use Rattle.program.proofs.storing.store_words.Goals as goal

pub returns-in_err-heard : goal.returns-in_err-heard
returns-in_err-heard c = search (rules, set-get_or)

pub returns-in_err-order : goal.returns-in_err-order
returns-in_err-order c = search (rules, set-get_or)

pub returns : goal.returns
returns c =
    let same = let_through (c.args.busy && waits c.order.result) c.order.result c.in_ok-order.order (sym c.judge.ensures ∙ c.in_ok-order.was) in
    record {
      order = search rules;
      lines =
          ap (set c.args.lines.now c.index-i.result)
          (c.drop-guard-2.ensures ∙ ap (λ (o : Option Fields). unwrap_or o c.hear_into.new.line) c.put_back-guard.ensures ∙ left (stores c.in_ok-order.order) _ c.hear_into.new.line)
          ∙ put_for c.args.lines.now c.index-i.result _ c.in_ok-heard.heard c.in_ok-order.order (stores c.in_ok-order.order) c.hear_into.new.line (c.args.at.number - 1)
          refl c.in_ok-heard.ensures.fields (sym c.order.ensures ∙ same) c.index-i.ensures.at;
    }
