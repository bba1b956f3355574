-- The bytes of each answer.
use Rattle.std.specs.Prelude.{ℕ, zero, suc, ◌+◌, ◌/◌, ◌%◌, ◌^◌, Bool, false, cond, List, [], ◌∷◌, ◌++◌, ℤ, pos, negsuc, Some, None, Option, ◌==◌, unsigned_abs}
use Rattle.codes.specs.Program as program
use Rattle.codes.specs.declared.program.ProgramCode.{ProgramCode}
use Rattle.orders.specs.declared.heard.Fields.{Fields}
use Rattle.settings.specs.Parameters as parameters
use Rattle.settings.specs.declared.parameter.Parameter.{Parameter}
use Rattle.reply.specs.declared.answer.Answer.{Answer}
use Rattle.reply.specs.declared.answer.Answer.TheVariants.{Nothing, ProgramLine, Pointer, Parameter as Value, Unlisted, Position, Status, Outputs, Inputs}

-- the digit of m that counts p, as a byte
abbrev pub digit_of : ℕ → ℕ → ℕ
digit_of m p = 48 + m / p % 10

-- the last k digits of m, zeros in front
abbrev pub padded : ℕ → ℕ → List ℕ
padded zero m = []
padded (suc k) m = digit_of m (10 ^ k) ∷ padded k m

-- 0 has +
abbrev pub sign_of : ℤ → ℕ
sign_of (pos n) = 43
sign_of (negsuc n) = 45

abbrev pub bit : Bool → ℕ
bit b = cond b 49 48

-- carriage return and line feed
abbrev pub end : List ℕ
end = 13 ∷ 10 ∷ []

-- the fields of a program line; an absent one is blanks of its width
abbrev pub code_text : Option ProgramCode → List ℕ
code_text None = 32 ∷ 32 ∷ 32 ∷ []
code_text (Some c) = 71 ∷ padded 2 (program.code c)

abbrev pub x_text : Option ℤ → List ℕ
x_text None = 32 ∷ 32 ∷ 32 ∷ 32 ∷ 32 ∷ 32 ∷ 32 ∷ 32 ∷ 32 ∷ 32 ∷ []
x_text (Some x) = 88 ∷ sign_of x ∷ padded 8 (unsigned_abs x)

abbrev pub feed_text : Option ℕ → List ℕ
feed_text None = 32 ∷ 32 ∷ 32 ∷ 32 ∷ 32 ∷ 32 ∷ 32 ∷ 32 ∷ []
feed_text (Some f) = 70 ∷ padded 7 f

-- a program line without its end: what a host sends to store it again
abbrev pub line_text : ℕ → Fields → List ℕ
line_text n f = (78 ∷ padded 3 n) ++ 32 ∷ (code_text f.code ++ 32 ∷ (x_text f.x ++ 32 ∷ feed_text f.feed))

-- L, the code, a blank, then eight digits, with a sign where the parameter has one; of the home direction the sign alone
abbrev pub named_text : ℕ → List ℕ
named_text c = (76 ∷ padded 2 c) ++ 32 ∷ []

abbrev pub value_text : Bool → ℤ → List ℕ
value_text signed v = cond signed (sign_of v ∷ padded 8 (unsigned_abs v)) (padded 8 (unsigned_abs v))

abbrev pub coded_text : ℕ → Bool → ℤ → List ℕ
coded_text c signed v = named_text c ++ (value_text signed v ++ end)

abbrev pub home_text : ℕ → ℤ → List ℕ
home_text c v = named_text c ++ (sign_of v ∷ end)

abbrev pub home : Parameter → Bool
home p = parameters.code p == 8

abbrev pub parameter_text : Parameter → ℤ → List ℕ
parameter_text p v = cond (home p) (home_text (parameters.code p) v) (coded_text (parameters.code p) (parameters.signed p) v)

-- eight digits, 0 or 1
abbrev pub flags_text : Bool → Bool → Bool → Bool → Bool → Bool → Bool → Bool → List ℕ
flags_text a b c d e f g h = bit a ∷ bit b ∷ bit c ∷ bit d ∷ bit e ∷ bit f ∷ bit g ∷ bit h ∷ end

abbrev pub text : Answer → List ℕ
text Nothing = []
text (ProgramLine n f) = line_text n f ++ end
text (Pointer n) = (78 ∷ padded 3 n) ++ end
text (Value p v) = parameter_text p v
text Unlisted = end
text (Position c) = (sign_of c ∷ padded 9 (unsigned_abs c)) ++ end
-- from the left: program, move in being, absolute, windings off, two zeros, high speed, jog
text (Status p m a w h j) = flags_text p m a w false false h j
-- 8 to 1, of which two are there
text (Outputs s f) = flags_text false false false false false false s f
-- 8 to 1, of which four are there
text (Inputs f t s o) = flags_text false false false false f t s o
