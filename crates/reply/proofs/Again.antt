-- The text of a program line, read word by word.
use Rattle.std.proofs.Common.{◌≡◌, ℕ, zero, suc, ◌-◌, true, List, [], ◌∷◌, ◌++◌, length, ℤ, pos, negsuc, nat_abs, Some, None, Option, refl, ap, ◌∙◌}
use Rattle.codes.specs.Program.{code}
use Rattle.codes.specs.declared.program.ProgramCode.{ProgramCode}
use Rattle.scan.specs.Numbers.{digit, digits}
use Rattle.scan.specs.Runs.{span, past}
use Rattle.words.specs.Bytes.{blank, letter}
use Rattle.words.specs.Words.{Spelled, word_of, behind}
use Rattle.words.specs.Checking.{first_bad}
use Rattle.words.specs.Listing.{listed}
use Rattle.words.specs.declared.word.Sign.{Sign}
use Rattle.words.specs.declared.word.Sign.TheVariants.{Plus, Minus}
use Rattle.orders.proofs.Spacing.{words_here, goes_on, words_from, bad_from}
use Rattle.orders.proofs.Widening.{past_on}
use Rattle.reply.specs.Texts.{padded, sign_of, code_text, x_text, feed_text}
use Rattle.reply.proofs.Padding.{padded_digits, span_blank, past_digits, span_end, past_end}

-- these words, and no byte that opens none
pub record Reads (k n : ℕ) (bs : List ℕ) (ws : List Spelled) : Type 0 where
  pub words : listed k n bs ≡ ws
  pub good : first_bad k n bs ≡ None

abbrev pub word : ℕ → ℕ → Option Sign → List ℕ → Spelled
word c p s ds = record { letter = c; place = p; code = []; sign = s; digits = ds }

-- a word: its letter c, what stands behind that, and there the digits ds with after behind them
module _ (k n c : ℕ) (s : Option Sign) (zs digits_on ds after : List ℕ) (ws : List Spelled) (opens : letter c ≡ true) (starts : past blank (c ∷ zs) ≡ c ∷ zs) where
  one_word : word_of (n - length zs) c zs ≡ word c (n - length zs) s (span digit digits_on) → behind c zs ≡ past digit digits_on → span digit digits_on ≡ ds → past digit digits_on ≡ after → Reads k n after ws
      → Reads (suc k) n (c ∷ zs) (word c (n - length zs) s ds ∷ ws)
  one_word is rest spans passes on = record {
    words = ap (words_from k n) starts ∙ words_here k n c zs opens ∙ ap (λ w. w ∷ listed k n (behind c zs)) (is ∙ ap (word c (n - length zs) s) spans)
        ∙ ap (λ bs. word c (n - length zs) s ds ∷ listed k n bs) (rest ∙ passes)
        ∙ ap (λ (vs : List Spelled). word c (n - length zs) s ds ∷ vs) on.words;
    good = ap (bad_from k n) starts ∙ goes_on k n c zs opens ∙ ap (first_bad k n) (rest ∙ passes) ∙ on.good;
  }

-- before a blank
module _ (k n : ℕ) (ds rest : List ℕ) (ws : List Spelled) (all : digits ds ≡ true) (on : Reads k n (32 ∷ rest) ws) where
  abbrev tail : List ℕ
  tail = ds ++ 32 ∷ rest

  n_word : Reads (suc k) n (78 ∷ tail) (word 78 (n - length tail) None ds ∷ ws)
  n_word = one_word k n 78 None tail tail ds (32 ∷ rest) ws refl refl refl refl (span_blank ds rest all) (past_digits ds rest all) on

  g_word : Reads (suc k) n (71 ∷ tail) (word 71 (n - length tail) None ds ∷ ws)
  g_word = one_word k n 71 None tail tail ds (32 ∷ rest) ws refl refl refl refl (span_blank ds rest all) (past_digits ds rest all) on

  plus_word : Reads (suc k) n (88 ∷ 43 ∷ tail) (word 88 (n - length (43 ∷ tail)) (Some Plus) ds ∷ ws)
  plus_word = one_word k n 88 (Some Plus) (43 ∷ tail) tail ds (32 ∷ rest) ws refl refl refl refl (span_blank ds rest all) (past_digits ds rest all) on

  minus_word : Reads (suc k) n (88 ∷ 45 ∷ tail) (word 88 (n - length (45 ∷ tail)) (Some Minus) ds ∷ ws)
  minus_word = one_word k n 88 (Some Minus) (45 ∷ tail) tail ds (32 ∷ rest) ws refl refl refl refl (span_blank ds rest all) (past_digits ds rest all) on

-- blanks in front change nothing
abbrev blanks : ℕ → List ℕ → List ℕ
blanks zero bs = bs
blanks (suc j) bs = 32 ∷ blanks j bs

blanks_first : (j k n : ℕ) (bs : List ℕ) (ws : List Spelled) → Reads (suc k) n bs ws → Reads (suc k) n (blanks j bs) ws
blanks_first zero k n bs ws r = r
blanks_first (suc j) k n bs ws r =
    let on = blanks_first j k n bs ws r in
    record {
      words = ap (words_from k n) (past_on blank 32 (blanks j bs) refl) ∙ on.words;
      good = ap (bad_from k n) (past_on blank 32 (blanks j bs) refl) ∙ on.good;
    }

nothing_left : (k n : ℕ) → Reads k n [] []
nothing_left zero n = record { words = refl; good = refl }
nothing_left (suc k) n = record { words = refl; good = refl }

-- the last word
f_word : (k n : ℕ) (ds : List ℕ) → digits ds ≡ true → Reads (suc k) n (70 ∷ ds) (word 70 (n - length ds) None ds ∷ [])
f_word k n ds all = one_word k n 70 None ds ds ds [] [] refl refl refl refl (span_end ds all) (past_end ds all) (nothing_left k n)

abbrev pub sign_word : ℤ → Option Sign
sign_word (pos n) = Some Plus
sign_word (negsuc n) = Some Minus

-- the words of each part, with what stands behind it
abbrev pub feed_words : ℕ → Option ℕ → List Spelled
feed_words n None = []
feed_words n (Some f) = word 70 (n - length (padded 7 f)) None (padded 7 f) ∷ []

feed_reads : (k n : ℕ) (f : Option ℕ) → Reads (suc k) n (feed_text f) (feed_words n f)
feed_reads k n None = blanks_first 8 k n [] [] (record { words = refl; good = refl })
feed_reads k n (Some f) = f_word k n (padded 7 f) (padded_digits 7 f)

abbrev pub x_words : ℕ → Option ℤ → List ℕ → List Spelled
x_words n None rest = []
x_words n (Some x) rest = word 88 (n - length (sign_of x ∷ (padded 8 (nat_abs x) ++ 32 ∷ rest))) (sign_word x) (padded 8 (nat_abs x)) ∷ []

x_reads : (k n : ℕ) (x : Option ℤ) (f : Option ℕ) → Reads (suc (suc k)) n (x_text x ++ 32 ∷ feed_text f) (x_words n x (feed_text f) ++ feed_words n f)
x_reads k n None f = blanks_first 11 (suc k) n (feed_text f) (feed_words n f) (feed_reads (suc k) n f)
x_reads k n (Some (pos m)) f = plus_word (suc k) n (padded 8 m) (feed_text f) (feed_words n f) (padded_digits 8 m) (blanks_first 1 k n (feed_text f) (feed_words n f) (feed_reads k n f))
x_reads k n (Some (negsuc m)) f =
    minus_word (suc k) n (padded 8 (suc m)) (feed_text f) (feed_words n f) (padded_digits 8 (suc m)) (blanks_first 1 k n (feed_text f) (feed_words n f) (feed_reads k n f))

abbrev pub code_words : ℕ → Option ProgramCode → List ℕ → List Spelled
code_words n None rest = []
code_words n (Some c) rest = word 71 (n - length (padded 2 (code c) ++ 32 ∷ rest)) None (padded 2 (code c)) ∷ []

code_reads : (k n : ℕ) (g : Option ProgramCode) (x : Option ℤ) (f : Option ℕ)
    → Reads (suc (suc (suc k))) n (code_text g ++ 32 ∷ (x_text x ++ 32 ∷ feed_text f)) (code_words n g (x_text x ++ 32 ∷ feed_text f) ++ (x_words n x (feed_text f) ++ feed_words n f))
code_reads k n None x f = blanks_first 4 (suc (suc k)) n (x_text x ++ 32 ∷ feed_text f) (x_words n x (feed_text f) ++ feed_words n f) (x_reads (suc k) n x f)
code_reads k n (Some c) x f =
    g_word (suc (suc k)) n (padded 2 (code c)) (x_text x ++ 32 ∷ feed_text f) (x_words n x (feed_text f) ++ feed_words n f) (padded_digits 2 (code c))
    (blanks_first 1 (suc k) n (x_text x ++ 32 ∷ feed_text f) (x_words n x (feed_text f) ++ feed_words n f) (x_reads k n x f))

pub line_reads : (k n m : ℕ) (g : Option ProgramCode) (x : Option ℤ) (f : Option ℕ)
    → Reads (suc (suc (suc (suc k)))) n (78 ∷ (padded 3 m ++ 32 ∷ (code_text g ++ 32 ∷ (x_text x ++ 32 ∷ feed_text f))))
    (word 78 (n - length (padded 3 m ++ 32 ∷ (code_text g ++ 32 ∷ (x_text x ++ 32 ∷ feed_text f)))) None (padded 3 m)
    ∷ (code_words n g (x_text x ++ 32 ∷ feed_text f) ++ (x_words n x (feed_text f) ++ feed_words n f)))
line_reads k n m g x f =
    n_word (suc (suc (suc k))) n (padded 3 m) (code_text g ++ 32 ∷ (x_text x ++ 32 ∷ feed_text f)) _ (padded_digits 3 m)
    (blanks_first 1 (suc (suc k)) n (code_text g ++ 32 ∷ (x_text x ++ 32 ∷ feed_text f)) _ (code_reads k n g x f))
