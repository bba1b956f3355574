use Rattle.std.proofs.Common.{◌≡◌}
use Rattle.script.proofs.source.Source.next.Given as goal

-- the bytes of a row leave the count of rows as it was
abbrev pub invariant-loop : goal.invariant-loop
invariant-loop g l = l.self.number ≡ l.initial.self.number
