-- The law of the first byte that opens no word.
use Rattle.std.proofs.Common.{◌≡◌, ℕ, zero, suc, ◌+◌, ◌-◌, ◌<◌, ◌≤◌, true, false, List, [], ◌∷◌, length, get_or, take, drop, Some, None, sym, refl, ap, ◌∙◌, arith, length-drop, get_or-drop, drop-drop}
use Rattle.scan.specs.Runs.{run, past}
use Rattle.words.specs.Bytes.{blank, letter}
use Rattle.words.specs.Words.{behind}
use Rattle.words.specs.Checking.{first_bad}
use Rattle.std.proofs.lemmas.Option.{none-some, same_Some}
use Rattle.orders.proofs.Widening.{split, past_on, past_at}
use Rattle.words.proofs.Scans.{at_end}
use Rattle.orders.proofs.Spacing.{bad_from, goes_on, bad_here}
use Rattle.words.proofs.Lengths.{shorter, behind_shorter}
use Rattle.orders.proofs.Cutting.{cut, past_cutter, behind_cutter}

-- the byte at this index of bs opens no word, and cut before it bs has none that does not
pub record Found (n : ℕ) (bs : List ℕ) (p : ℕ) : Type 0 where
  pub at : ℕ
  pub inside : at < length bs
  pub place : p + length bs ≡ n + at + 1
  pub no_blank : blank (get_or bs at 0) ≡ false
  pub no_letter : letter (get_or bs at 0) ≡ false
  pub before : (l m : ℕ) → first_bad l m (take at bs) ≡ None

no_blank_first : (bs : List ℕ) (z : ℕ) (zs : List ℕ) → past blank bs ≡ z ∷ zs → blank z ≡ false
no_blank_first [] z zs e = absurd (let n : 0 ≡ suc (length zs) = ap length e in omega arith)
no_blank_first (b ∷ bs) z zs e =
    split (blank b)
    (λ t. no_blank_first bs z zs (sym (past_on blank b bs t) ∙ e))
    (λ f. ap blank (sym (ap (λ xs. get_or xs 0 0) (sym (past_at blank b bs f) ∙ e))) ∙ f)

module _ (k n : ℕ) (bs : List ℕ) (p : ℕ) (fits : length bs ≤ n) where
  -- here
  at_once : (z : ℕ) (zs : List ℕ) → past blank bs ≡ z ∷ zs → letter z ≡ false → n - length zs ≡ p → Found n bs p
  at_once z zs e opens is =
      let r = run blank bs in
      let rest : length bs - r ≡ suc (length zs) = sym (length-drop r bs) ∙ ap length e in
      let first : get_or bs r 0 ≡ z = (let i : r + 0 ≡ r = omega arith in sym (ap (λ j. get_or bs j 0) i) ∙ sym (get_or-drop r bs 0 0) ∙ ap (λ xs. get_or xs 0 0) e) in
      record {
        at = r;
        inside = omega arith;
        place = omega arith;
        no_blank = ap blank first ∙ no_blank_first bs z zs e;
        no_letter = ap letter first ∙ opens;
        before = λ l m. at_end l m (take r bs) (let i : r + 0 ≡ r = omega arith in sym (ap (λ j. past blank (take j bs)) i) ∙ cut (past_cutter blank) 0 bs);
      }

  -- behind a word
  later : (z : ℕ) (zs : List ℕ) → past blank bs ≡ z ∷ zs → letter z ≡ true → Found n (behind z zs) p → Found n bs p
  later z zs e is f =
      let r = run blank bs in
      let c = behind_cutter z in
      let u = r + 1 + c.used zs in
      let rest : length bs - r ≡ suc (length zs) = sym (length-drop r bs) ∙ ap length e in
      let body : zs ≡ drop (r + 1) bs = sym (ap (drop 1) e) ∙ drop-drop 1 r bs in
      let after : behind z zs ≡ drop u bs = c.is zs ∙ ap (drop (c.used zs)) body ∙ drop-drop (c.used zs) (r + 1) bs in
      let len : length (behind z zs) ≡ length bs - u = ap length after ∙ length-drop u bs in
      let byte : get_or bs (u + f.at) 0 ≡ get_or (behind z zs) f.at 0 = sym (get_or-drop u bs f.at 0) ∙ sym (ap (λ xs. get_or xs f.at 0) after) in
      let inner = f.inside in
      let spot = f.place in
      record {
        at = u + f.at;
        inside = omega arith;
        place = omega arith;
        no_blank = ap blank byte ∙ f.no_blank;
        no_letter = ap letter byte ∙ f.no_letter;
        before = cut_before z zs e is f;
      }
    where
      cut_before : (z : ℕ) (zs : List ℕ) → past blank bs ≡ z ∷ zs → letter z ≡ true → (f : Found n (behind z zs) p)
          → (l m : ℕ) → first_bad l m (take (run blank bs + 1 + (behind_cutter z).used zs + f.at) bs) ≡ None
      cut_before z zs e is f zero m = refl
      cut_before z zs e is f (suc l) m =
          let r = run blank bs in
          let c = behind_cutter z in
          let i : r + 1 + c.used zs + f.at ≡ r + suc (c.used zs + f.at) = omega arith in
          let left : past blank (take (r + 1 + c.used zs + f.at) bs) ≡ z ∷ take (c.used zs + f.at) zs =
          ap (λ j. past blank (take j bs)) i ∙ cut (past_cutter blank) (suc (c.used zs + f.at)) bs ∙ ap (take (suc (c.used zs + f.at))) e
          in
          ap (bad_from l m) left ∙ goes_on l m z (take (c.used zs + f.at) zs) is ∙ ap (first_bad l m) (cut c f.at zs) ∙ f.before l m

found_from : (k n : ℕ) (bs : List ℕ) (p : ℕ) → length bs ≤ n → ((xs : List ℕ) → length xs ≤ n → first_bad k n xs ≡ Some p → Found n xs p)
    → (zs : List ℕ) → past blank bs ≡ zs → bad_from k n zs ≡ Some p → Found n bs p
found_from k n bs p fits on [] e is = absurd (none-some p is)
found_from k n bs p fits on (z ∷ zs) e is =
    split (letter z)
    (λ t.
    let short : length zs ≤ length bs = (let h = shorter blank bs in let l : length (past blank bs) ≡ suc (length zs) = ap length e in omega arith) in
    later k n bs p fits z zs e t (on (behind z zs) (let h = behind_shorter z zs in omega arith) (sym (goes_on k n z zs t) ∙ is)))
    (λ f. at_once k n bs p fits z zs e f (same_Some (n - length zs) p (sym (bad_here k n z zs f) ∙ is)))

pub found : (k n : ℕ) (bs : List ℕ) (p : ℕ) → length bs ≤ n → first_bad k n bs ≡ Some p → Found n bs p
found zero n bs p fits is = absurd (none-some p is)
found (suc k) n bs p fits is = found_from k n bs p fits (λ xs h e. found k n xs p h e) (past blank bs) refl is
