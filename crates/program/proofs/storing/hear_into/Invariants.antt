use Rattle.std.proofs.Common.{◌≡◌, false, length}
use Rattle.words.specs.Listing.{words}
use Rattle.orders.specs.Lines.{heard_of}
use Rattle.orders.proofs.Hands.{to_the_end}
use Rattle.program.proofs.storing.hear_into.Given as goal

-- what is heard in all is what the whole line says, and the line has what was heard so far
abbrev pub invariant-loop-hearing : goal.invariant-loop-hearing
invariant-loop-hearing l =
    (to_the_end l.settings.resolution l.hearing ≡ heard_of l.settings.resolution false (words l.reader.length l.reader.rest.now))
    × (l.line ≡ l.hearing.heard.fields)

-- each word takes a byte at least
abbrev pub decreases-loop-hearing : goal.decreases-loop-hearing
decreases-loop-hearing l = length l.hearing.reader.rest.now
