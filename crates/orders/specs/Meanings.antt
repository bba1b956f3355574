-- What is wrong with a word, and what it says.
use Rattle.std.specs.Prelude.{ℕ, Bool, false, cond, not, ◌&&◌, ◌||◌, length, ℤ, pos, neg_ℤ, is_some, is_none, Some, None, Ok, Err, Option, Result, ◌==◌, nat_le}
use Rattle.codes.specs.Host.{transfers}
use Rattle.codes.specs.declared.host.HostCode.{HostCode}
use Rattle.scan.specs.Fields.{kept}
use Rattle.scan.specs.Numbers.{value}
use Rattle.scan.specs.declared.field.Field.TheVariants.{Line, Code, Number, Feed}
use Rattle.settings.specs.Parameters.{fits}
use Rattle.settings.specs.declared.parameter.Parameter.{Parameter}
use Rattle.words.specs.Words.{Spelled}
use Rattle.words.specs.declared.word.Sign.{Sign}
use Rattle.words.specs.declared.word.Sign.TheVariants.{Plus, Minus}
use Rattle.orders.specs.Tables.{program_coded, host_coded, parameter_coded}
use Rattle.orders.specs.declared.heard.Heard.{Heard}
use Rattle.orders.specs.declared.heard.Fields.{Fields}
use Rattle.orders.specs.declared.heard.Setting.{Setting}
use Rattle.orders.specs.declared.fault.WordFault.{WordFault}
use Rattle.orders.specs.declared.fault.WordFault.TheVariants.{Missing, Foreign, NoCode, OutOfRange}

-- the letters
abbrev pub is_n : Spelled → Bool
is_n w = w.letter == 78

abbrev pub is_g : Spelled → Bool
is_g w = w.letter == 71

abbrev pub is_x : Spelled → Bool
is_x w = w.letter == 88

abbrev pub is_f : Spelled → Bool
is_f w = w.letter == 70

abbrev pub is_l : Spelled → Bool
is_l w = w.letter == 76

abbrev pub is_h : Spelled → Bool
is_h w = w.letter == 72

-- a number by its sign; −0 is +0
abbrev pub signed : Option Sign → ℕ → ℤ
signed None n = pos n
signed (Some Plus) n = pos n
signed (Some Minus) n = neg_ℤ (pos n)

-- the numbers that a word's digits give: too many digits lose the first
abbrev pub line_number : Spelled → ℕ
line_number w = value (kept Line w.digits)

abbrev pub code_number : Spelled → ℕ
code_number w = value (kept Code w.digits)

abbrev pub parameter_number : Spelled → ℕ
parameter_number w = value (kept Code w.code)

abbrev pub number : Spelled → ℤ
number w = signed w.sign (value (kept Number w.digits))

abbrev pub feed : Spelled → ℕ
feed w = value (kept Feed w.digits)

-- L08, the home direction: it has a sign, and digits behind that are passed over
abbrev pub home : Spelled → Bool
home w = parameter_number w == 8

-- what a parameter is given: a home direction 1 or −1, any other its number
abbrev pub data_of : Spelled → ℤ
data_of w = cond (home w) (signed w.sign 1) (number w)

-- 5: digits missing, of L its code or its data; of the home direction the sign
abbrev pub missing : Spelled → Bool
missing w =
    cond (is_l w) (length w.code == 0 || cond (home w) (is_none w.sign) (length w.digits == 0)) (length w.digits == 0)

abbrev pub any_field : Fields → Bool
any_field f = is_some f.code || (is_some f.x || is_some f.feed)

-- whether the line has had a word of this letter
abbrev pub repeated : Heard → Spelled → Bool
repeated h w =
    (is_n w && is_some h.line) || ((is_g w && is_some h.fields.code) || ((is_x w && is_some h.fields.x) || (is_f w && is_some h.fields.feed)))

-- 6: repeated; beside L any word; beside H any but one N before it; before the line's N, where it names one
abbrev pub foreign : Bool → Heard → Spelled → Bool
foreign named h w =
    repeated h w
    || ((is_some h.setting || is_some h.host)
    || ((is_l w && (is_some h.line || any_field h.fields))
    || ((is_h w && any_field h.fields)
    || (not (is_n w) && (named && not (is_some h.line))))))

abbrev pub is_transfer : Option HostCode → Bool
is_transfer None = false
is_transfer (Some c) = transfers c

-- 7: a code that there is not; behind `!`, any word that is no transfer
abbrev pub unnamed : Bool → Spelled → Bool
unnamed bang w =
    cond bang (not (is_h w && is_transfer (host_coded (code_number w))))
    ((is_g w && not (is_some (program_coded (code_number w))))
    || ((is_h w && not (is_some (host_coded (code_number w)))) || (is_l w && not (is_some (parameter_coded (parameter_number w))))))

abbrev pub takes : ℕ → Option Parameter → ℤ → Bool
takes R None v = false
takes R (Some p) v = fits R p v

-- 8: program lines are 1 to 400; a parameter has its range, by the axis's resolution R
abbrev pub outside : ℕ → Spelled → Bool
outside R w =
    (is_n w && not (nat_le 1 (line_number w) && nat_le (line_number w) 400))
    || (is_l w && not (takes R (parameter_coded (parameter_number w)) (data_of w)))

abbrev pub setting : Option Parameter → ℤ → Option Setting
setting None v = None
setting (Some p) v = Some (record { parameter = p; number = v })

-- before the first word
abbrev pub nothing : Heard
nothing = record { line = None; fields = record { code = None; x = None; feed = None }; setting = None; host = None }

-- what was heard, with this word
abbrev pub hear : Heard → Spelled → Heard
hear h w = record {
  line = cond (is_n w) (Some (line_number w)) h.line;
  fields = record {
    code = cond (is_g w) (program_coded (code_number w)) h.fields.code;
    x = cond (is_x w) (Some (number w)) h.fields.x;
    feed = cond (is_f w) (Some (feed w)) h.fields.feed;
  };
  setting = cond (is_l w) (setting (parameter_coded (parameter_number w)) (data_of w)) h.setting;
  host = cond (is_h w) (host_coded (code_number w)) h.host;
}

-- one word, with h heard before it, in a line that names a program line or not, behind `!` or not
abbrev pub meaning : ℕ → Bool → Bool → Heard → Spelled → Result Heard WordFault
meaning R named bang h w =
    cond (missing w) (Err (Missing w.place))
    (cond (foreign named h w) (Err (Foreign w.place))
    (cond (unnamed bang w) (Err (NoCode w.place))
    (cond (outside R w) (Err (OutOfRange w.place))
    (Ok (hear h w)))))
