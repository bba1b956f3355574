use Rattle.std.proofs.Common.{◌≡◌, length}
use Rattle.words.specs.Listing.{words}
use Rattle.orders.specs.Lines.{named}
use Rattle.orders.proofs.hearing.steps.names_line.Given as goal

-- the words that are left tell what all of them do
abbrev pub invariant-loop-word : goal.invariant-loop-word
invariant-loop-word l =
    (named (words l.reader.length l.reader.rest.now) ≡ named (words l.fn.reader.length l.fn.reader.rest.now))
    × (l.reader.length ≡ l.fn.reader.length)

-- each word takes a byte at least
abbrev pub decreases-loop-word : goal.decreases-loop-word
decreases-loop-word l = length l.reader.rest.now
