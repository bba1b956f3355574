use Rattle.std.proofs.Common.{◌≡◌, ◌<◌, length, drop}
use Rattle.scan.specs.Numbers.{digits, read_on, value}
use Rattle.scan.proofs.number.number.Given as goal

abbrev pub invariant-loop-digit : goal.invariant-loop-digit
invariant-loop-digit l =
    (read_on l.n (drop l.digit-index l.word) ≡ value l.word)
    × (digits (drop l.digit-index l.word) ≡ digits l.word)
    × (0 < length l.word)
