-- One blank more, word by word.
use Rattle.std.proofs.Common.{◌≡◌, ℕ, zero, suc, ◌-◌, ◌≤◌, Bool, true, false, cond, eqb, List, [], ◌∷◌, length, get_or, drop, is_some, Some, None, Option, sym, refl, ap, ◌∙◌, arith}
use Rattle.std.proofs.lemmas.List.{nil_from_length}
use Rattle.scan.specs.Runs.{past}
use Rattle.scan.specs.Numbers.{digit}
use Rattle.words.specs.Bytes.{blank, letter}
use Rattle.words.specs.Words.{Spelled, after_sign, takes_sign, code_of, number_at, sign_of, digits_at, word_of, behind}
use Rattle.words.specs.Checking.{first_bad}
use Rattle.words.specs.Listing.{listed}
use Rattle.words.specs.declared.word.Sign.{Sign}
use Rattle.orders.specs.Laws.{Wider}
use Rattle.words.proofs.Scans.{some_there, at_end}
use Rattle.words.proofs.Lengths.{shorter, behind_shorter}
use Rattle.words.proofs.Lists.{no_more}
use Rattle.orders.proofs.Widening.{Tight, split, tight, wider_tight, wider_past, same_span, same_sign, wider_behind_sign}

-- a word without its place
abbrev pub bare : Spelled → Spelled
bare w = record { letter = w.letter; place = 0; code = w.code; sign = w.sign; digits = w.digits }

abbrev pub bares : List Spelled → List Spelled
bares [] = []
bares (w ∷ ws) = bare w ∷ bares ws

module _ (c : ℕ) (xs ys : List ℕ) (w : Wider xs ys) where
  wider_number : Wider (number_at c xs) (number_at c ys)
  wider_number = by (eqb c 76)
    where
      by : (k : Bool) → Wider (cond k (past blank (past digit xs)) xs) (cond k (past blank (past digit ys)) ys)
      by true = wider_tight (past blank (past digit xs)) (past blank (past digit ys)) (tight (past digit xs) (past digit ys) (wider_past xs ys w))
      by false = w

  wider_digits : Wider (digits_at c xs) (digits_at c ys)
  wider_digits = by (takes_sign c)
    where
      by : (k : Bool) → Wider (cond k (after_sign (number_at c xs)) (number_at c xs)) (cond k (after_sign (number_at c ys)) (number_at c ys))
      by true = wider_behind_sign (number_at c xs) (number_at c ys) wider_number
      by false = wider_number

  pub wider_behind : Wider (behind c xs) (behind c ys)
  wider_behind = wider_past (digits_at c xs) (digits_at c ys) wider_digits

  same_code : code_of c ys ≡ code_of c xs
  same_code = ap (λ ds. cond (eqb c 76) ds []) (same_span xs ys w)

  same_sign_of : sign_of c ys ≡ sign_of c xs
  same_sign_of = ap (λ (s : Option Sign). cond (takes_sign c) s None) (same_sign (number_at c xs) (number_at c ys) wider_number)

  -- the same word, but for its place
  pub same_word : (p q : ℕ) → bare (word_of q c ys) ≡ bare (word_of p c xs)
  same_word p q = rw (same_code, same_sign_of, same_span (digits_at c xs) (digits_at c ys) wider_digits)

-- the words from the first of zs, which no blank opens
abbrev pub words_from : ℕ → ℕ → List ℕ → List Spelled
words_from k n zs =
    cond (eqb (length zs) 0) [] (cond (letter (get_or zs 0 0)) (word_of (n - length (drop 1 zs)) (get_or zs 0 0) (drop 1 zs) ∷ listed k n (behind (get_or zs 0 0) (drop 1 zs))) [])

abbrev pub bad_from : ℕ → ℕ → List ℕ → Option ℕ
bad_from k n zs =
    cond (eqb (length zs) 0) None (cond (letter (get_or zs 0 0)) (first_bad k n (behind (get_or zs 0 0) (drop 1 zs))) (Some (n - length (drop 1 zs))))

some_left : (c : ℕ) (zs : List ℕ) → eqb (length (c ∷ zs)) 0 ≡ false
some_left c zs = some_there (suc (length zs)) (omega arith)

pub words_here : (k n c : ℕ) (zs : List ℕ) → letter c ≡ true → words_from k n (c ∷ zs) ≡ word_of (n - length zs) c zs ∷ listed k n (behind c zs)
words_here k n c zs t = rw (some_left c zs, t)

no_words_here : (k n c : ℕ) (zs : List ℕ) → letter c ≡ false → words_from k n (c ∷ zs) ≡ []
no_words_here k n c zs f = rw (some_left c zs, f)

pub goes_on : (k n c : ℕ) (zs : List ℕ) → letter c ≡ true → bad_from k n (c ∷ zs) ≡ first_bad k n (behind c zs)
goes_on k n c zs t = rw (some_left c zs, t)

pub bad_here : (k n c : ℕ) (zs : List ℕ) → letter c ≡ false → bad_from k n (c ∷ zs) ≡ Some (n - length zs)
bad_here k n c zs f = rw (some_left c zs, f)

tight_left : (zs ws : List ℕ) → Tight zs ws → zs ≡ [] → ws ≡ []
tight_left zs [] t e = refl
tight_left [] (w ∷ ws) t e = elim t [ ]
tight_left (z ∷ zs) (w ∷ ws) t e = absurd (let n : suc (length zs) ≡ 0 = ap length e in omega arith)

tight_right : (zs ws : List ℕ) → Tight zs ws → ws ≡ [] → zs ≡ []
tight_right [] ws t e = refl
tight_right (z ∷ zs) [] t e = elim t [ ]
tight_right (z ∷ zs) (w ∷ ws) t e = absurd (let n : suc (length ws) ≡ 0 = ap length e in omega arith)

behind_less : (k c : ℕ) (zs : List ℕ) → length (c ∷ zs) ≤ suc k → length (past blank (behind c zs)) ≤ k
behind_less k c zs h = omega (arith, shorter blank (behind c zs), behind_shorter c zs)

same_from : (k l n m : ℕ) (zs ws : List ℕ)
    → ((xs ys : List ℕ) → Tight (past blank xs) (past blank ys) → length (past blank xs) ≤ k → length (past blank ys) ≤ l → bares (listed l m ys) ≡ bares (listed k n xs))
    → Tight zs ws → length zs ≤ suc k → length ws ≤ suc l → bares (words_from l m ws) ≡ bares (words_from k n zs)
same_from k l n m [] [] on t h g = refl
same_from k l n m [] (w ∷ ws) on t h g = elim t [ ]
same_from k l n m (z ∷ zs) [] on t h g = elim t [ ]
same_from k l n m (z ∷ zs) (w ∷ ws) on t h g =
    split (letter z)
    (λ is. ap (λ c. bares (words_from l m (c ∷ ws))) (sym t.0) ∙ ap bares (words_here l m z ws is)
    ∙ ap (λ (b : Spelled). b ∷ bares (listed l m (behind z ws))) (same_word z zs ws t.1 (n - length zs) (m - length ws))
    ∙ ap (λ (bs : List Spelled). bare (word_of (n - length zs) z zs) ∷ bs)
    (on (behind z zs) (behind z ws) (tight (behind z zs) (behind z ws) (wider_behind z zs ws t.1)) (behind_less k z zs h) (behind_less l z ws g))
    ∙ sym (ap bares (words_here k n z zs is)))
    (λ no. ap (λ c. bares (words_from l m (c ∷ ws))) (sym t.0) ∙ ap bares (no_words_here l m z ws no) ∙ sym (ap bares (no_words_here k n z zs no)))

pub same_words : (k l n m : ℕ) (xs ys : List ℕ) → Tight (past blank xs) (past blank ys) → length (past blank xs) ≤ k → length (past blank ys) ≤ l
    → bares (listed l m ys) ≡ bares (listed k n xs)
same_words zero l n m xs ys t h g = ap bares (no_more l m ys (tight_left (past blank xs) (past blank ys) t (nil_from_length (past blank xs) (omega arith))))
same_words (suc k) zero n m xs ys t h g = sym (ap bares (no_more (suc k) n xs (tight_right (past blank xs) (past blank ys) t (nil_from_length (past blank ys) (omega arith)))))
same_words (suc k) (suc l) n m xs ys t h g = same_from k l n m (past blank xs) (past blank ys) (same_words k l n m) t h g

same_bad_from : (k l n m : ℕ) (zs ws : List ℕ)
    → ((xs ys : List ℕ) → Tight (past blank xs) (past blank ys) → length (past blank xs) ≤ k → length (past blank ys) ≤ l → is_some (first_bad l m ys) ≡ is_some (first_bad k n xs))
    → Tight zs ws → length zs ≤ suc k → length ws ≤ suc l → is_some (bad_from l m ws) ≡ is_some (bad_from k n zs)
same_bad_from k l n m [] [] on t h g = refl
same_bad_from k l n m [] (w ∷ ws) on t h g = elim t [ ]
same_bad_from k l n m (z ∷ zs) [] on t h g = elim t [ ]
same_bad_from k l n m (z ∷ zs) (w ∷ ws) on t h g =
    split (letter z)
    (λ is. ap (λ c. is_some (bad_from l m (c ∷ ws))) (sym t.0) ∙ ap is_some (goes_on l m z ws is)
    ∙ on (behind z zs) (behind z ws) (tight (behind z zs) (behind z ws) (wider_behind z zs ws t.1)) (behind_less k z zs h) (behind_less l z ws g)
    ∙ sym (ap is_some (goes_on k n z zs is)))
    (λ no. ap (λ c. is_some (bad_from l m (c ∷ ws))) (sym t.0) ∙ ap is_some (bad_here l m z ws no) ∙ sym (ap is_some (bad_here k n z zs no)))

pub same_bad : (k l n m : ℕ) (xs ys : List ℕ) → Tight (past blank xs) (past blank ys) → length (past blank xs) ≤ k → length (past blank ys) ≤ l
    → is_some (first_bad l m ys) ≡ is_some (first_bad k n xs)
same_bad zero l n m xs ys t h g = ap is_some (at_end l m ys (tight_left (past blank xs) (past blank ys) t (nil_from_length (past blank xs) (omega arith))))
same_bad (suc k) zero n m xs ys t h g = sym (ap is_some (at_end (suc k) n xs (tight_right (past blank xs) (past blank ys) t (nil_from_length (past blank ys) (omega arith)))))
same_bad (suc k) (suc l) n m xs ys t h g = same_bad_from k l n m (past blank xs) (past blank ys) (same_bad k l n m) t h g
