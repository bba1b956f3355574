-- Number, place and layer of what an order is refused for.
use Rattle.std.specs.Prelude.{ℕ}
use Rattle.orders.specs.Faults as words
use Rattle.orders.specs.declared.fault.Layer.{Layer}
use Rattle.program.specs.declared.fault.OrderFault.{OrderFault}
use Rattle.program.specs.declared.fault.OrderFault.TheVariants.{Word, Memory, Busy}

abbrev pub number_of : OrderFault → ℕ
number_of (Word e) = words.number_of e
number_of Memory = 14
number_of Busy = 9

abbrev pub place_of : OrderFault → ℕ
place_of (Word e) = words.place_of e
place_of Memory = 0
place_of Busy = 0

abbrev pub layer_of : OrderFault → Layer
layer_of e = words.layer_numbered (number_of e)
