-- The widths of a program line's fields.
use Rattle.std.specs.Prelude.{ℕ, ◌^◌, ◌<◌, ℤ, Some, None, Ok, Err, Option, Result, unsigned_abs}
use Rattle.orders.specs.declared.heard.Fields.{Fields}
use Rattle.orders.specs.declared.order.Order.{Order}
use Rattle.orders.specs.declared.order.Order.TheVariants.{Clear, Hold, Stop, Transfer, Point, Store, Set, Act}
use Rattle.orders.specs.declared.fault.WordFault.{WordFault}

-- X has eight digits, F seven
abbrev pub XFits : Option ℤ → Type 0
XFits None = Unit {0}
XFits (Some x) = unsigned_abs x < 10 ^ 8

abbrev pub FeedFits : Option ℕ → Type 0
FeedFits None = Unit {0}
FeedFits (Some f) = f < 10 ^ 7

abbrev pub InWidths : Fields → Type 0
InWidths f = XFits f.x × FeedFits f.feed

-- fields that are to be stored are in their widths
abbrev pub Narrow : Result Order WordFault → Type 0
Narrow (Err e) = Unit {0}
Narrow (Ok Clear) = Unit {0}
Narrow (Ok Hold) = Unit {0}
Narrow (Ok Stop) = Unit {0}
Narrow (Ok (Transfer c)) = Unit {0}
Narrow (Ok (Point n)) = Unit {0}
Narrow (Ok (Store l f)) = InWidths f
Narrow (Ok (Set s)) = Unit {0}
Narrow (Ok (Act l c)) = Unit {0}
