-- The law of the first byte that opens no word, for a whole line.
use Rattle.std.proofs.Common.{◌≡◌, ℕ, zero, suc, ◌-◌, Bool, true, false, cond, eqb, ltb, ◌⊎◌, List, [], ◌∷◌, length, get_or, take, drop, Some, None, Ok, Err, Option, Result, sym, refl, ap, ◌∙◌, inl, inr, arith}
use Rattle.codes.specs.declared.host.HostCode.{HostCode}
use Rattle.scan.specs.Runs.{past}
use Rattle.words.specs.Bytes.{blank, letter}
use Rattle.words.specs.Words.{Spelled}
use Rattle.words.specs.Checking.{first_bad}
use Rattle.words.specs.Listing.{words}
use Rattle.words.specs.declared.word.ByteFault.TheVariants.{TooLong, Blank, OpensNone}
use Rattle.orders.specs.Meanings.{missing, foreign, unnamed, outside, hear, nothing, meaning}
use Rattle.orders.specs.Lines.{named, and_then, heard_on, heard_of}
use Rattle.orders.specs.Orders.{order, asked, transfer, alone, unless_bad, of_words, of_transfer, reading}
use Rattle.orders.specs.Laws.{OpensNoneAt, FirstByteLaw}
use Rattle.orders.specs.declared.heard.Heard.{Heard}
use Rattle.orders.specs.declared.order.Order.{Order}
use Rattle.orders.specs.declared.order.Order.TheVariants.{Clear, Hold, Stop}
use Rattle.orders.specs.declared.fault.WordFault.{WordFault}
use Rattle.orders.specs.declared.fault.WordFault.TheVariants.{Byte, Missing, Foreign, NoCode, OutOfRange}
use Rattle.std.proofs.lemmas.Bool.{eqb-true, eqb-false}
use Rattle.std.proofs.lemmas.Option.{none-some}
use Rattle.orders.proofs.Outcomes.{judged}
use Rattle.orders.proofs.Widening.{split}
use Rattle.orders.proofs.FirstByte.{Found, found}

-- the place of a 4
abbrev four : {T : Type 0} → Result T WordFault → Option ℕ
four (Ok x) = None
four (Err (Byte TooLong)) = None
four (Err (Byte Blank)) = None
four (Err (Byte (OpensNone p))) = Some p
four (Err (Missing p)) = None
four (Err (Foreign p)) = None
four (Err (NoCode p)) = None
four (Err (OutOfRange p)) = None

-- words are never refused 4
never_four : (a b c d : Bool) (g : Heard) (p : ℕ) → four (judged a b c d g p) ≡ None
never_four true b c d g p = refl
never_four false true c d g p = refl
never_four false false true d g p = refl
never_four false false false true g p = refl
never_four false false false false g p = refl

four_err : (A B : Type 0) (e : WordFault) → four {T = A} (Err e) ≡ None → four {T = B} (Err e) ≡ None
four_err A B (Byte TooLong) h = refl
four_err A B (Byte Blank) h = refl
four_err A B (Byte (OpensNone p)) h = absurd (none-some p (sym h))
four_err A B (Missing p) h = refl
four_err A B (Foreign p) h = refl
four_err A B (NoCode p) h = refl
four_err A B (OutOfRange p) h = refl

four_then : {A B : Type 0} (m : Result A WordFault) (f : A → Result B WordFault) → four m ≡ None → ((x : A) → four (f x) ≡ None) → four (and_then m f) ≡ None
four_then (Ok x) f h g = g x
four_then {A = A} {B = B} (Err e) f h g = four_err A B e h

heard_four : (R : ℕ) (line bang : Bool) (h : Heard) (ws : List Spelled) → four (heard_on R line bang h ws) ≡ None
heard_four R line bang h [] = refl
heard_four R line bang h (w ∷ ws) =
    four_then (meaning R line bang h w) (λ g. heard_on R line bang g ws)
    (never_four (missing w) (foreign line h w) (unnamed bang w) (outside R w) (hear h w) w.place) (λ g. heard_four R line bang g ws)

asked_four : (o : Option HostCode) → four (asked o) ≡ None
asked_four None = refl
asked_four (Some c) = refl

unless_four : (o : Option ℕ) (r : Result Order WordFault) → four r ≡ None → four (unless_bad o r) ≡ o
unless_four None r h = h
unless_four (Some p) r h = refl

words_four : (R n : ℕ) (bs : List ℕ) → four (of_words R n bs) ≡ first_bad (length bs) n bs
words_four R n bs =
    unless_four (first_bad (length bs) n bs) (and_then (heard_of R false (words n bs)) (λ h. Ok (order h)))
    (four_then (heard_of R false (words n bs)) (λ h. Ok (order h)) (heard_four R (named (words n bs)) false nothing (words n bs)) (λ g. refl))

transfer_four : (R n : ℕ) (bs : List ℕ) → four (of_transfer R n bs) ≡ first_bad (length bs) n bs
transfer_four R n bs =
    unless_four (first_bad (length bs) n bs) (and_then (heard_of R true (words n bs)) transfer)
    (four_then (heard_of R true (words n bs)) transfer (heard_four R (named (words n bs)) true nothing (words n bs)) (λ g. asked_four g.host))

-- a choice whose first way is no 4
passes : (k : Bool) (p : ℕ) (x y : Result Order WordFault) → four x ≡ None → four (cond k x y) ≡ Some p → four y ≡ Some p
passes true p x y h e = absurd (none-some p (sym h ∙ e))
passes false p x y h e = e

abbrev Where : List ℕ → ℕ → Type 0
Where bs p = ((get_or bs 0 0 ≡ 33) × (first_bad (length (drop 1 bs)) (length bs) (drop 1 bs) ≡ Some p)) ⊎ ((get_or bs 0 0 ≡ 33 → ⊥) × (first_bad (length bs) (length bs) bs ≡ Some p))

inverse : (R : ℕ) (bs : List ℕ) (p : ℕ) → four (reading R bs) ≡ Some p → Where bs p
inverse R bs p e =
    let last : four (cond (eqb (get_or bs 0 0) 33) (of_transfer R (length bs) (drop 1 bs)) (of_words R (length bs) bs)) ≡ Some p =
    passes (alone 35 bs) p (Ok Stop) _ refl (passes (alone 36 bs) p (Ok Hold) _ refl (passes (alone 42 bs) p (Ok Clear) _ refl
    (passes (eqb (length (past blank bs)) 0) p (Err (Byte Blank)) _ refl (passes (ltb 80 (length bs)) p (Err (Byte TooLong)) _ refl e))))
    in
    split (eqb (get_or bs 0 0) 33)
    (λ t. inl (eqb-true (get_or bs 0 0) 33 t, sym (transfer_four R (length bs) (drop 1 bs)) ∙ sym (ap (λ k. four (cond k (of_transfer R (length bs) (drop 1 bs)) (of_words R (length bs) bs))) t) ∙ last))
    (λ f. inr (eqb-false (get_or bs 0 0) 33 f, sym (words_four R (length bs) bs) ∙ sym (ap (λ k. four (cond k (of_transfer R (length bs) (drop 1 bs)) (of_words R (length bs) bs))) f) ∙ last))

take_first : (m b : ℕ) (bs : List ℕ) → get_or (take m (b ∷ bs)) 0 0 ≡ 33 → b ≡ 33
take_first zero b bs e = absurd (omega arith)
take_first (suc m) b bs e = e

in_words : (R b : ℕ) (bs : List ℕ) (p : ℕ) → (b ≡ 33 → ⊥) → Found (length (b ∷ bs)) (b ∷ bs) p → OpensNoneAt R (b ∷ bs) p
in_words R b bs p other f =
    let spot = f.place in
    let i : p - 1 ≡ f.at = omega arith in
    let inner = f.inside in
    record {
      there = (omega arith, omega arith);
      no_blank = ap (λ j. blank (get_or (b ∷ bs) j 0)) i ∙ f.no_blank;
      no_letter = ap (λ j. letter (get_or (b ∷ bs) j 0)) i ∙ f.no_letter;
      first = λ q e. none_so (p - 1) i q (ap four e);
    }
  where
    none_so : (j : ℕ) → j ≡ f.at → (q : ℕ) → four (reading R (take j (b ∷ bs))) ≡ Some q → ⊥
    none_so j i q e =
        elim (inverse R (take j (b ∷ bs)) q e) [
          | inl v ↦ other (take_first j b bs v.0)
          | inr v ↦ none-some q (sym (ap (λ m. first_bad (length (take j (b ∷ bs))) (length (take j (b ∷ bs))) (take m (b ∷ bs))) i ∙ f.before _ _) ∙ v.1)
        ]

behind_bang : (R b : ℕ) (bs : List ℕ) (p : ℕ) → b ≡ 33 → Found (length (b ∷ bs)) bs p → OpensNoneAt R (b ∷ bs) p
behind_bang R b bs p is f =
    let spot = f.place in
    let i : p - 1 ≡ suc f.at = omega arith in
    let inner = f.inside in
    record {
      there = (omega arith, omega arith);
      no_blank = ap (λ j. blank (get_or (b ∷ bs) j 0)) i ∙ f.no_blank;
      no_letter = ap (λ j. letter (get_or (b ∷ bs) j 0)) i ∙ f.no_letter;
      first = λ q e. none_so (p - 1) i q (ap four e);
    }
  where
    none_so : (j : ℕ) → j ≡ suc f.at → (q : ℕ) → four (reading R (take j (b ∷ bs))) ≡ Some q → ⊥
    none_so j i q e =
        let cut : four (reading R (b ∷ take f.at bs)) ≡ Some q = sym (ap (λ m. four (reading R (take m (b ∷ bs)))) i) ∙ e in
        elim (inverse R (b ∷ take f.at bs) q cut) [
          | inl v ↦ none-some q (sym (f.before _ _) ∙ v.1)
          | inr v ↦ v.0 is
        ]

pub first_byte_law : (R : ℕ) (bs : List ℕ) → FirstByteLaw R bs
first_byte_law R [] p e = absurd (none-some p (ap four e))
first_byte_law R (b ∷ bs) p e =
    elim (inverse R (b ∷ bs) p (ap four e)) [
      | inl v ↦ behind_bang R b bs p v.0 (found (length bs) (length (b ∷ bs)) bs p (omega arith) v.1)
      | inr v ↦ in_words R b bs p v.0 (found (length (b ∷ bs)) (length (b ∷ bs)) (b ∷ bs) p (omega arith) v.1)
    ]
