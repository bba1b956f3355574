-- What a host line does to the program memory.
use Rattle.std.specs.Prelude.{◌≡◌, ℕ, ◌-◌, ◌≤◌, Bool, true, false, cond, ◌&&◌, List, length, Some, None, Ok, Err, Option, Result, ◌==◌, slice_set}
use Rattle.words.specs.Listing.{words}
use Rattle.orders.specs.Lines.{heard_of}
use Rattle.orders.specs.Orders.{reading}
use Rattle.orders.specs.declared.heard.Fields.{Fields}
use Rattle.orders.specs.declared.heard.Heard.{Heard}
use Rattle.orders.specs.declared.order.Order.{Order}
use Rattle.orders.specs.declared.order.Order.TheVariants.{Clear, Hold, Stop, Transfer, Point, Store, Set, Act}
use Rattle.orders.specs.declared.fault.WordFault.{WordFault}
use Rattle.program.specs.declared.fault.OrderFault.{OrderFault}
use Rattle.program.specs.declared.fault.OrderFault.TheVariants.{Word, Memory, Busy}

-- a line with no field
abbrev pub unprogrammed : Fields
unprogrammed = record { code = None; x = None; feed = None }

-- the line that an order is about: the one that it names, or the pointer's
abbrev pub named_or : Option ℕ → ℕ → ℕ
named_or (Some n) p = n
named_or None p = p

abbrev pub line_of : Order → ℕ → ℕ
line_of Clear p = p
line_of Hold p = p
line_of Stop p = p
line_of (Transfer c) p = p
line_of (Point n) p = n
line_of (Store l f) p = named_or l p
line_of (Set s) p = p
line_of (Act l c) p = named_or l p

-- what a busy board never does; of the H codes it is not told here
abbrev pub waits : Order → Bool
waits Clear = false
waits Hold = false
waits Stop = false
waits (Transfer c) = false
waits (Point n) = true
waits (Store l f) = true
waits (Set s) = true
waits (Act l c) = false

abbrev pub judged : Bool → Result Order WordFault → Result Order OrderFault
judged busy (Err e) = Err (Word e)
judged busy (Ok o) = cond (busy && waits o) (Err Busy) (Ok o)

-- the order of a line, or its refusal: the memory is looked at first, the board last
abbrev pub taken : ℕ → Bool → List Fields → List ℕ → Result Order OrderFault
taken R busy lines bs = cond (length lines == 400) (judged busy (reading R bs)) (Err Memory)

-- fields replace the line at this index whole; nothing else changes a line
abbrev pub stored_at : ℕ → Result Order OrderFault → List Fields → List Fields
stored_at i (Err e) lines = lines
stored_at i (Ok Clear) lines = lines
stored_at i (Ok Hold) lines = lines
stored_at i (Ok Stop) lines = lines
stored_at i (Ok (Transfer c)) lines = lines
stored_at i (Ok (Point n)) lines = lines
stored_at i (Ok (Store l f)) lines = slice_set lines i f
stored_at i (Ok (Set s)) lines = lines
stored_at i (Ok (Act l c)) lines = lines

abbrev pub stored : Result Order OrderFault → ℕ → List Fields → List Fields
stored (Err e) p lines = lines
stored (Ok o) p lines = stored_at (line_of o p - 1) (Ok o) lines

abbrev pub stores : Order → Bool
stores Clear = false
stores Hold = false
stores Stop = false
stores (Transfer c) = false
stores (Point n) = false
stores (Store l f) = true
stores (Set s) = false
stores (Act l c) = false

-- what is put back of a line after an order: nothing where that stores the line
abbrev pub put_back : Order → Fields → Option Fields
put_back o f = cond (stores o) None (Some f)

-- r is the number given, where that is a line's, or the pointer's where none is given
abbrev pub NumberedOr : Option ℕ → ℕ → ℕ → Type 0
NumberedOr (Some n) p r = 1 ≤ n → n ≤ 400 → r ≡ n
NumberedOr None p r = r ≡ p

-- r is the line that accepted words name, or the pointer's
abbrev pub Aims : ℕ → ℕ → List ℕ → ℕ → ℕ → Type 0
Aims R n bs p r = (g : Heard) → heard_of R false (words n bs) ≡ Ok g → r ≡ named_or g.line p

-- the orders that may name a line
abbrev pub addressed : Order → Bool
addressed Clear = false
addressed Hold = false
addressed Stop = false
addressed (Transfer c) = false
addressed (Point n) = true
addressed (Store l f) = true
addressed (Set s) = false
addressed (Act l c) = true
