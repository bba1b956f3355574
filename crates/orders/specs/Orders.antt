-- The order that a line gives, or what is wrong with it.
use Rattle.std.specs.Prelude.{ℕ, Bool, true, false, cond, ◌&&◌, List, length, drop, Some, None, Ok, Err, Option, Result, ◌==◌, nat_lt, slice_index}
use Rattle.codes.specs.declared.host.HostCode.{HostCode}
use Rattle.scan.specs.Runs.{past}
use Rattle.words.specs.Bytes.{blank}
use Rattle.words.specs.Checking.{first_bad}
use Rattle.words.specs.Listing.{words}
use Rattle.words.specs.declared.word.ByteFault.TheVariants.{TooLong, Blank, OpensNone}
use Rattle.orders.specs.Meanings.{any_field}
use Rattle.orders.specs.Lines.{and_then, heard_of}
use Rattle.orders.specs.declared.heard.Heard.{Heard}
use Rattle.orders.specs.declared.heard.Fields.{Fields}
use Rattle.orders.specs.declared.heard.Setting.{Setting}
use Rattle.orders.specs.declared.fault.WordFault.{WordFault}
use Rattle.orders.specs.declared.fault.WordFault.TheVariants.{Byte, NoCode}
use Rattle.orders.specs.declared.order.Order.{Order}
use Rattle.orders.specs.declared.order.Order.TheVariants.{Clear, Hold, Stop, Transfer, Point, Store, Set, Act}

-- an N alone sets the pointer; fields are stored at the line named, or at the pointer's
abbrev pub stored : Option ℕ → Fields → Order
stored (Some n) f = cond (any_field f) (Store (Some n) f) (Point n)
stored None f = Store None f

abbrev pub done : Option HostCode → Option ℕ → Fields → Order
done (Some c) l f = Act l c
done None l f = stored l f

abbrev pub set_or_done : Option Setting → Heard → Order
set_or_done (Some s) h = Set s
set_or_done None h = done h.host h.line h.fields

abbrev pub order : Heard → Order
order h = set_or_done h.setting h

-- behind `!`: where there is no word at all, the `!` is wrong
abbrev pub asked : Option HostCode → Result Order WordFault
asked (Some c) = Ok (Transfer c)
asked None = Err (NoCode 1)

abbrev pub transfer : Heard → Result Order WordFault
transfer h = asked h.host

-- what a line of no words, or of one transfer, orders
abbrev pub wordless : Order → Bool
wordless Clear = true
wordless Hold = true
wordless Stop = true
wordless (Transfer c) = true
wordless (Point n) = false
wordless (Store l f) = false
wordless (Set s) = false
wordless (Act l c) = false

-- a byte that opens no word is looked for first, in the whole line
abbrev pub unless_bad : Option ℕ → Result Order WordFault → Result Order WordFault
unless_bad None r = r
unless_bad (Some p) r = Err (Byte (OpensNone p))

-- the line has n bytes; rest is all of it, or what stands behind `!`
abbrev pub of_words : ℕ → ℕ → List ℕ → Result Order WordFault
of_words R n rest = unless_bad (first_bad (length rest) n rest) (and_then (heard_of R false (words n rest)) (λ h. Ok (order h)))

abbrev pub of_transfer : ℕ → ℕ → List ℕ → Result Order WordFault
of_transfer R n rest = unless_bad (first_bad (length rest) n rest) (and_then (heard_of R true (words n rest)) transfer)

-- `*`, `$` or `#` and nothing else
abbrev pub alone : ℕ → List ℕ → Bool
alone b bs = length bs == 1 && slice_index bs 0 == b

-- R is the axis's resolution
abbrev pub reading : ℕ → List ℕ → Result Order WordFault
reading R bs =
    cond (nat_lt 80 (length bs)) (Err (Byte TooLong))
    (cond (length (past blank bs) == 0) (Err (Byte Blank))
    (cond (alone 42 bs) (Ok Clear)
    (cond (alone 36 bs) (Ok Hold)
    (cond (alone 35 bs) (Ok Stop)
    (cond (slice_index bs 0 == 33) (of_transfer R (length bs) (drop 1 bs))
    (of_words R (length bs) bs))))))
