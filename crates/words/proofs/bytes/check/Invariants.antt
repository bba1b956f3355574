use Rattle.std.proofs.Common.{◌≡◌, length}
use Rattle.words.specs.Checking.{first_bad}
use Rattle.words.proofs.bytes.check.Given as goal

-- what is left to look at tells what the whole does
abbrev pub invariant-loop : goal.invariant-loop
invariant-loop l =
    (first_bad (length l.reader.rest.now) l.reader.length l.reader.rest.now ≡ first_bad (length l.fn.reader.rest.now) l.fn.reader.length l.fn.reader.rest.now)
    × (l.reader.length ≡ l.fn.reader.length)

-- each word takes a byte at least
abbrev pub decreases-loop : goal.decreases-loop
decreases-loop l = length l.reader.rest.now
