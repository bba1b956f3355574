use Rattle.std.proofs.Common.{rules}
use Rattle.orders.proofs.Hands.{handed}
use Rattle.orders.proofs.hearing.steps.next_word.Goals as goal

pub returns-clause-word : goal.returns-clause-word
returns-clause-word c = search (rules, handed)
