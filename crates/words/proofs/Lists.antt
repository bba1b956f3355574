-- The list of a line's words: more words than bytes change nothing.
use Rattle.std.proofs.Common.{◌≡◌, ℕ, zero, suc, ◌≤◌, cond, eqb, List, [], ◌∷◌, length, inl, inr, sym, refl, ap, ◌∙◌, arith}
use Rattle.std.proofs.lemmas.Bool.{cases_lt}
use Rattle.std.proofs.lemmas.List.{nil_from_length}
use Rattle.scan.specs.Runs.{past}
use Rattle.words.specs.Bytes.{blank, letter}
use Rattle.words.specs.Words.{word_of, behind}
use Rattle.words.specs.Reading.{opening, body, place_in}
use Rattle.words.specs.Listing.{listed}
use Rattle.words.proofs.Lengths.{word_taken}
use Rattle.words.proofs.Scans.{none_left}

pub no_more : (k n : ℕ) (bs : List ℕ) → past blank bs ≡ [] → listed k n bs ≡ []
no_more zero n bs e = refl
no_more (suc k) n bs e =
    ap (λ (xs : List ℕ). cond (eqb (length xs) 0) [] (cond (letter (opening bs)) (word_of (place_in n bs) (opening bs) (body bs) ∷ listed k n (behind (opening bs) (body bs))) [])) e

pub all_listed : (k m n : ℕ) (bs : List ℕ) → length bs ≤ k → length bs ≤ m → listed k n bs ≡ listed m n bs
all_listed zero m n bs h l = sym (no_more m n bs (none_left bs h))
all_listed (suc k) zero n bs h l = no_more (suc k) n bs (none_left bs l)
all_listed (suc k) (suc m) n bs h l =
    elim (cases_lt 0 (length (past blank bs))) [
      | inl some ↦
          let less = word_taken bs (behind (opening bs) (body bs)) some refl in
          ap (λ ws. cond (eqb (length (past blank bs)) 0) [] (cond (letter (opening bs)) (word_of (place_in n bs) (opening bs) (body bs) ∷ ws) []))
          (all_listed k m n (behind (opening bs) (body bs)) (omega arith) (omega arith))
      | inr none ↦
          let e = nil_from_length (past blank bs) (omega arith) in
          no_more (suc k) n bs e ∙ sym (no_more (suc m) n bs e)
    ]
