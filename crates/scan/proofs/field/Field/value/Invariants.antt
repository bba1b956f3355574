use Rattle.std.proofs.Common.{◌≡◌, ◌+◌, ◌*◌, ◌^◌, ◌≤◌, drop}
use Rattle.scan.specs.Numbers.{read_on, value}
use Rattle.scan.proofs.field.Field.value.Given as goal

-- a byte is worth at most 207, so that j of them are worth at most 23 × (10 ^ j − 1)
abbrev pub invariant-loop-digit : goal.invariant-loop-digit
invariant-loop-digit l = (read_on l.n (drop l.digit-index l.last) ≡ value l.last) × (l.n + 23 ≤ 23 * 10 ^ l.digit-index)
