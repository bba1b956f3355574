-- One word more of the search for a byte that opens none.
use Rattle.std.proofs.Common.{◌≡◌, ℕ, zero, suc, ◌-◌, ◌<◌, ◌≤◌, true, false, cond, eqb, List, [], length, Some, None, Ok, Option, is_some, inl, inr, sym, refl, ap, ◌∙◌, rules, arith}
use Rattle.std.proofs.lemmas.Bool.{cases_lt}
use Rattle.std.proofs.lemmas.Bool.Decides.{nat_tests}
use Rattle.std.proofs.lemmas.List.{nil_from_length}
use Rattle.words.specs.Bytes.{blank, letter}
use Rattle.scan.specs.Runs.{past}
use Rattle.words.specs.Words.{behind}
use Rattle.words.specs.Reading.{Reads, opening, body, place_in}
use Rattle.words.specs.Checking.{first_bad}
use Rattle.words.specs.declared.word.Word.{Word}
use Rattle.words.proofs.Lengths.{shorter, word_taken}

pub at_end : (k n : ℕ) (bs : List ℕ) → past blank bs ≡ [] → first_bad k n bs ≡ None
at_end zero n bs e = refl
at_end (suc k) n bs e = ap (λ (xs : List ℕ). cond (eqb (length xs) 0) None (cond (letter (opening bs)) (first_bad k n (behind (opening bs) (body bs))) (Some (place_in n bs)))) e

pub some_there : (m : ℕ) → 0 < m → eqb m 0 ≡ false
some_there m h = grind (arith, nat_tests)

pub none_left : (bs : List ℕ) → length bs ≤ 0 → past blank bs ≡ []
none_left bs h = nil_from_length (past blank bs) (omega (arith, shorter blank bs))

-- to look at more words than there are bytes changes nothing
pub enough : (k m n : ℕ) (bs : List ℕ) → length bs ≤ k → length bs ≤ m → first_bad k n bs ≡ first_bad m n bs
enough zero m n bs h l = sym (at_end m n bs (none_left bs h))
enough (suc k) zero n bs h l = at_end (suc k) n bs (none_left bs l)
enough (suc k) (suc m) n bs h l =
    elim (cases_lt 0 (length (past blank bs))) [
      | inl some ↦
          let less = word_taken bs (behind (opening bs) (body bs)) some refl in
          ap (λ r. cond (eqb (length (past blank bs)) 0) None (cond (letter (opening bs)) r (Some (place_in n bs))))
          (enough k m n (behind (opening bs) (body bs)) (omega arith) (omega arith))
      | inr none ↦
          let e = nil_from_length (past blank bs) (omega arith) in
          at_end (suc k) n bs e ∙ sym (at_end (suc m) n bs e)
    ]

module _ (n : ℕ) (bs : List ℕ) (some : 0 < length (past blank bs)) where
  pub past_word : (after : List ℕ) → letter (opening bs) ≡ true → after ≡ behind (opening bs) (body bs)
      → first_bad (length after) n after ≡ first_bad (length bs) n bs
  past_word after opens e =
      let less = word_taken bs after some e in
      enough (length after) (length bs - 1) n after (omega arith) (omega arith) ∙ one (length bs) (omega arith)
    where
      one : (k : ℕ) → 0 < k → first_bad (k - 1) n after ≡ first_bad k n bs
      one zero h = absurd (omega arith)
      one (suc k) h = let less : suc k - 1 ≡ k = omega arith in rw (some_there (length (past blank bs)) some, opens, less, e)

  pub at_bad : letter (opening bs) ≡ false → first_bad (length bs) n bs ≡ Some (place_in n bs)
  at_bad opens = let left = shorter blank bs in by (length bs) (omega arith)
    where
      by : (k : ℕ) → 0 < k → first_bad k n bs ≡ Some (place_in n bs)
      by zero h = absurd (omega arith)
      by (suc k) h = rw (some_there (length (past blank bs)) some, opens)

-- what is read of a line says where the search stands
pub past_some : (n : ℕ) (bs after : List ℕ) (o : Option Word) → Reads n bs after (Ok o) → is_some o ≡ true
    → first_bad (length after) n after ≡ first_bad (length bs) n bs
past_some n bs after (Some w) r some = past_word n bs r.0 after r.1 r.3
past_some n bs after None r some = absurd (grind rules)

pub none_bad : (n : ℕ) (bs after : List ℕ) (o : Option Word) → Reads n bs after (Ok o) → is_some o ≡ false → first_bad (length bs) n bs ≡ None
none_bad n bs after None r none = search (rules, at_end)
none_bad n bs after (Some w) r none = absurd (grind rules)
