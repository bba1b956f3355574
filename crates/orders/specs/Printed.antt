-- Orders, settings and fields, as they are printed.
use Rattle.std.specs.Prelude.{ℕ, ℤ, cond, Bool, List, [], ◌++◌, ◌-◌, ◌^◌, codes, Option, Some, None}
use Rattle.std.specs.Fmt.{decimal, signed_decimal, styled_decimal, styled_signed_decimal, format_spec}
use Rattle.std.specs.Int.{is_negative}
use Rattle.codes.specs.Host.{code}
use Rattle.codes.specs.declared.program.ProgramCode.{ProgramCode}
use Rattle.codes.specs.Program
use Rattle.settings.specs.Parameters
use Rattle.settings.specs.declared.parameter.Parameter.TheVariants.{HomeDirection}
use Rattle.orders.specs.declared.heard.Fields.{Fields}
use Rattle.orders.specs.declared.heard.Setting.{Setting}
use Rattle.orders.specs.declared.order.Order.{Order}
use Rattle.orders.specs.declared.order.Order.TheVariants.{Clear, Hold, Stop, Transfer, Point, Store, Set, Act}

-- a code, filled up with a zero to two digits
abbrev pub two_digits : ℕ → List ℕ
two_digits c = styled_decimal (format_spec 32 0 4 2 (2 ^ 64 - 1)) c

-- a number with its sign, + too
abbrev pub with_sign : ℤ → List ℕ
with_sign n = styled_signed_decimal (format_spec 32 0 1 0 (2 ^ 64 - 1)) n

-- of the home direction the sign alone
abbrev pub printed_number : Bool → ℤ → List ℕ
printed_number sign_alone n = cond sign_alone (cond (is_negative n) (codes "-") (codes "+")) (signed_decimal n)

abbrev pub printed_setting : Setting → List ℕ
printed_setting s = codes "set L" ++ two_digits (Parameters.code s.parameter) ++ codes " to "
    ++ printed_number (Parameters.same s.parameter HomeDirection) s.number

abbrev pub printed_code : Option ProgramCode → List ℕ
printed_code None = []
printed_code (Some c) = codes " G" ++ two_digits (Program.code c)

abbrev pub printed_x : Option ℤ → List ℕ
printed_x None = []
printed_x (Some x) = codes " X" ++ with_sign x

abbrev pub printed_feed : Option ℕ → List ℕ
printed_feed None = []
printed_feed (Some feed) = codes " F" ++ decimal feed

-- a blank before each field
abbrev pub printed_fields : Fields → List ℕ
printed_fields f = printed_code f.code ++ printed_x f.x ++ printed_feed f.feed

-- the line that the pointer is set to first
abbrev pub printed_line : Option ℕ → List ℕ
printed_line None = []
printed_line (Some n) = codes " with line " ++ decimal n

abbrev pub printed_order : Order → List ℕ
printed_order Clear = codes "clear"
printed_order Hold = codes "hold"
printed_order Stop = codes "stop"
printed_order (Transfer c) = codes "transfer H" ++ two_digits (code c)
printed_order (Point n) = codes "set the pointer to line " ++ decimal n
printed_order (Store (Some n) f) = codes "store at line " ++ decimal n ++ codes ":" ++ printed_fields f
printed_order (Store None f) = codes "store at the pointer's line:" ++ printed_fields f
printed_order (Set s) = printed_setting s
printed_order (Act l c) = codes "do H" ++ two_digits (code c) ++ printed_line l
