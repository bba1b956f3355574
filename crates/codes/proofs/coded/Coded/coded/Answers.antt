use Rattle.std.proofs.Common.{sym, ◌∙◌, rules}
use borrow.Author.Tests.{tests}
use Rattle.std.specs.Prelude.{◌==◌}
use Rattle.std.proofs.lemmas.Iterator.Search.{find_from_yields_List}
use Rattle.std.proofs.lemmas.Iterator.Adapters.{option_map_id}
use Rattle.std.proofs.lemmas.Iterator.Consumers.{YieldsList-from_copied}
use Rattle.std.proofs.lemmas.Iterator.{YieldsList-from_slice}
use Rattle.codes.proofs.Naming.{exactly}
use Rattle.codes.proofs.coded.Coded.coded.Goals as goal

pub returns-clause-exact : goal.returns-clause-exact
returns-clause-exact g c =
    let code = g.Self.Coded.code in
    let found = find_from_yields_List (λ it. code it == c.args.number) _ _ c.find.result c.find.ensures.ran (YieldsList-from_copied (YieldsList-from_slice g.Self.Coded.all (search rules))) (λ x b q k. search (rules, tests)) in
    exactly code g.Self.Coded.all c.args.number c.find.result g.met.Self.Coded.found (sym (option_map_id c.find.result) ∙ found)
