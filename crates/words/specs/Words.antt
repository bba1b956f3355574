-- The words of a line.
use Rattle.std.specs.Prelude.{ℕ, Bool, cond, ◌||◌, List, [], drop, ◌==◌, slice_index, Some, None, Option}
use Rattle.words.specs.Bytes.{blank}
use Rattle.scan.specs.Numbers.{digit}
use Rattle.scan.specs.Runs.{span, past}
use Rattle.words.specs.declared.word.Sign.{Sign}
use Rattle.words.specs.declared.word.Sign.TheVariants.{Plus, Minus}
use Rattle.words.specs.declared.word.Word.{Word}
use Rattle.words.specs.declared.word.Word.TheVariants.{N, G, X, F, L, H}

-- the sign at the front, if there is one, and what stands behind it
abbrev pub sign_at : List ℕ → Option Sign
sign_at bs = cond (slice_index bs 0 == 43) (Some Plus) (cond (slice_index bs 0 == 45) (Some Minus) None)

abbrev pub after_sign : List ℕ → List ℕ
after_sign bs = cond (slice_index bs 0 == 43 || slice_index bs 0 == 45) (drop 1 bs) bs

-- a word as its letter's byte, its place, the digits of L's code, its sign and its digits
pub record Spelled : Type 0 where
  pub letter : ℕ
  pub place : ℕ
  pub code : List ℕ
  pub sign : Option Sign
  pub digits : List ℕ

abbrev pub spelled : Word → Spelled
spelled (N p ds) = record { letter = 78; place = p; code = []; sign = None; digits = ds.bytes.now }
spelled (G p ds) = record { letter = 71; place = p; code = []; sign = None; digits = ds.bytes.now }
spelled (X p s ds) = record { letter = 88; place = p; code = []; sign = s; digits = ds.bytes.now }
spelled (F p ds) = record { letter = 70; place = p; code = []; sign = None; digits = ds.bytes.now }
spelled (L p c s ds) = record { letter = 76; place = p; code = c.bytes.now; sign = s; digits = ds.bytes.now }
spelled (H p ds) = record { letter = 72; place = p; code = []; sign = None; digits = ds.bytes.now }

abbrev pub takes_sign : ℕ → Bool
takes_sign c = c == 88 || c == 76

-- behind the letter c: the digits of L's code, and where the sign or the digits of the number may stand
abbrev pub code_of : ℕ → List ℕ → List ℕ
code_of c bs = cond (c == 76) (span digit bs) []

abbrev pub number_at : ℕ → List ℕ → List ℕ
number_at c bs = cond (c == 76) (past blank (past digit bs)) bs

abbrev pub sign_of : ℕ → List ℕ → Option Sign
sign_of c bs = cond (takes_sign c) (sign_at (number_at c bs)) None

abbrev pub digits_at : ℕ → List ℕ → List ℕ
digits_at c bs = cond (takes_sign c) (after_sign (number_at c bs)) (number_at c bs)

-- the word of the letter c at the place p, with bs behind the letter; and what stands behind the word
abbrev pub word_of : ℕ → ℕ → List ℕ → Spelled
word_of p c bs = record { letter = c; place = p; code = code_of c bs; sign = sign_of c bs; digits = span digit (digits_at c bs) }

abbrev pub behind : ℕ → List ℕ → List ℕ
behind c bs = past digit (digits_at c bs)
