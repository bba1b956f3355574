-- The law of blanks.
use Rattle.std.proofs.Common.{◌≡◌, ℕ, suc, ◌<◌, ◌≤◌, Bool, true, false, cond, eqb, List, [], ◌∷◌, length, get_or, drop, Err, Result, sym, refl, ap, ◌∙◌, inl, inr, arith}
use Rattle.std.proofs.lemmas.Bool.{le-ltb, ne_eqb, and_right}
use Rattle.std.proofs.lemmas.Bool.Decides.{nat_tests}
use Rattle.scan.specs.Runs.{past}
use Rattle.words.specs.Bytes.{blank}
use Rattle.words.specs.declared.word.ByteFault.TheVariants.{Blank}
use Rattle.orders.specs.Orders.{alone, of_words, of_transfer, reading}
use Rattle.orders.specs.Laws.{unplaced, Wider, Plain, BlankLaw}
use Rattle.orders.specs.declared.order.Order.{Order}
use Rattle.orders.specs.declared.fault.WordFault.{WordFault}
use Rattle.orders.specs.declared.fault.WordFault.TheVariants.{Byte}
use Rattle.orders.proofs.Widening.{Tight, tight, blank_more, past_on}
use Rattle.orders.proofs.Unplaced.{same_order, same_transfer}

elsewhere : (b : ℕ) (bs : List ℕ) → (get_or bs 0 0 ≡ b → ⊥) → alone b bs ≡ false
elsewhere b bs h = and_right (eqb (length bs) 1) (eqb (get_or bs 0 0) b) (ne_eqb (get_or bs 0 0) b h)

-- blank, behind `!`, or words
abbrev by_front : ℕ → Bool → Bool → List ℕ → Result Order WordFault
by_front R none bang bs = cond none (Err (Byte Blank)) (cond bang (of_transfer R (length bs) (drop 1 bs)) (of_words R (length bs) bs))

plain : (R : ℕ) (bs : List ℕ) → length bs ≤ 80 → Plain bs → reading R bs ≡ by_front R (eqb (length (past blank bs)) 0) (eqb (get_or bs 0 0) 33) bs
plain R bs h p = rw (le-ltb 80 (length bs) h, elsewhere 42 bs p.0, elsewhere 36 bs p.1, elsewhere 35 bs p.2)

tight_empty : (xs ys : List ℕ) → Tight xs ys → eqb (length ys) 0 ≡ eqb (length xs) 0
tight_empty [] [] t = refl
tight_empty [] (y ∷ ys) t = elim t [ ]
tight_empty (x ∷ xs) [] t = elim t [ ]
tight_empty (x ∷ xs) (y ∷ ys) t = ne_eqb (suc (length ys)) 0 (λ e. omega arith) ∙ sym (ne_eqb (suc (length xs)) 0 (λ e. omega arith))

wider_length : (xs ys : List ℕ) → Wider xs ys → length ys ≤ suc (length xs)
wider_length [] ys (inl e) = let n : length ys ≡ 0 = ap length e in omega arith
wider_length [] ys (inr e) = let n : length ys ≡ 1 = ap length e in omega arith
wider_length (x ∷ xs) [] w = elim w [ ]
wider_length (x ∷ xs) (y ∷ ys) w =
    elim w.1 [ inl v ↦ let h = wider_length xs ys v in omega arith | inr v ↦ let n : length ys ≡ suc (length xs) = ap length v.1 in omega arith ]

same_front : (R b : ℕ) (bs cs : List ℕ) (none bang : Bool) → eqb b 33 ≡ bang → Wider (b ∷ bs) (b ∷ cs)
    → unplaced (by_front R none bang (b ∷ cs)) ≡ unplaced (by_front R none bang (b ∷ bs))
same_front R b bs cs true bang e w = refl
same_front R b bs cs false true e w =
    same_transfer R (suc (length bs)) (suc (length cs)) bs cs
    (elim w.1 [ inl v ↦ tight bs cs v | inr v ↦ absurd (let z = v.0 in grind (arith, nat_tests)) ])
same_front R b bs cs false false e w = same_order R (suc (length bs)) (suc (length cs)) (b ∷ bs) (b ∷ cs) (tight (b ∷ bs) (b ∷ cs) w)

widened : (R : ℕ) (bs cs : List ℕ) → Plain bs → length bs < 80 → Wider bs cs → unplaced (reading R cs) ≡ unplaced (reading R bs)
widened R [] cs p h (inl e) = ap (λ (xs : List ℕ). unplaced (reading R xs)) e
widened R [] cs p h (inr e) = ap (λ (xs : List ℕ). unplaced (reading R xs)) e
widened R (b ∷ bs) [] p h w = elim w [ ]
widened R (b ∷ bs) (c ∷ cs) p h w =
    let v : Wider (b ∷ bs) (b ∷ cs) = (refl, w.1) in
    let few : length (b ∷ cs) ≤ 80 = (let l = wider_length (b ∷ bs) (b ∷ cs) v in omega arith) in
    ap (λ x. unplaced (reading R (x ∷ cs))) (sym w.0)
    ∙ ap (unplaced {T = Order}) (plain R (b ∷ cs) few p)
    ∙ ap (λ k. unplaced (by_front R k (eqb b 33) (b ∷ cs))) (tight_empty (past blank (b ∷ bs)) (past blank (b ∷ cs)) (tight (b ∷ bs) (b ∷ cs) v))
    ∙ same_front R b bs cs (eqb (length (past blank (b ∷ bs))) 0) (eqb b 33) refl v
    ∙ sym (ap (unplaced {T = Order}) (plain R (b ∷ bs) (omega arith) p))

fronted : (R : ℕ) (bs : List ℕ) → Plain bs → length bs < 80 → (get_or bs 0 0 ≡ 33 → ⊥) → unplaced (reading R (32 ∷ bs)) ≡ unplaced (reading R bs)
fronted R bs p h bang =
    ap (unplaced {T = Order}) (plain R (32 ∷ bs) (omega arith) ((λ e. omega arith), (λ e. omega arith), (λ e. omega arith)))
    ∙ ap (λ zs. unplaced (by_front R (eqb (length zs) 0) false (32 ∷ bs))) (past_on blank 32 bs refl)
    ∙ by (eqb (length (past blank bs)) 0)
    ∙ ap (λ k. unplaced (by_front R (eqb (length (past blank bs)) 0) k bs)) (sym (ne_eqb (get_or bs 0 0) 33 bang))
    ∙ sym (ap (unplaced {T = Order}) (plain R bs (omega arith) p))
  where
    by : (none : Bool) → unplaced (by_front R none false (32 ∷ bs)) ≡ unplaced (by_front R none false bs)
    by true = refl
    by false = same_order R (length bs) (suc (length bs)) bs (32 ∷ bs) (blank_more bs)

pub blank_law : (R : ℕ) (bs : List ℕ) → BlankLaw R bs
blank_law R bs p h = ((λ cs w. widened R bs cs p h w), (λ bang. fronted R bs p h bang))
