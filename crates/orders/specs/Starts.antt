-- A line whose bytes were looked at.
use Rattle.std.specs.Prelude.{◌≡◌, ℕ, true, false, List, length, Ok, Err, Result}
use Rattle.words.specs.Listing.{words}
use Rattle.orders.specs.Lines.{and_then, heard_of}
use Rattle.orders.specs.Orders.{order, wordless, reading}
use Rattle.orders.specs.declared.start.Start.{Start}
use Rattle.orders.specs.declared.start.Start.TheVariants.{Order, Words}
use Rattle.orders.specs.declared.fault.WordFault.{WordFault}

-- it is read already, or what its words say is what it orders
abbrev pub Opened : ℕ → List ℕ → Result Start WordFault → Type 0
Opened R bs (Err e) = reading R bs ≡ Err e
Opened R bs (Ok (Order o)) = (reading R bs ≡ Ok o) × (wordless o ≡ true)
Opened R bs (Ok (Words reader)) =
    (reader.rest.now ≡ bs) × (reader.length ≡ length bs) × (reading R bs ≡ and_then (heard_of R false (words (length bs) bs)) (λ h. Ok (order h)))
