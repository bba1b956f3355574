use Rattle.std.proofs.Common.{◌≡◌, length}
use Rattle.words.specs.Listing.{words}
use Rattle.orders.specs.Lines.{heard_of}
use Rattle.orders.proofs.Hands.{to_the_end}
use Rattle.orders.proofs.telling.told.Given as goal

-- what is heard in all is what the whole line says
abbrev pub invariant-loop : goal.invariant-loop
invariant-loop l = to_the_end l.settings.resolution l.hearing ≡ heard_of l.settings.resolution l.bang (words l.reader.length l.reader.rest.now)

-- each word takes a byte at least
abbrev pub decreases-loop : goal.decreases-loop
decreases-loop l = length l.hearing.reader.rest.now
