-- A line cut behind what was read of it reads the same so far.
use Rattle.std.proofs.Common.{◌≡◌, ℕ, zero, suc, ◌+◌, Bool, true, false, cond, ◌||◌, eqb, List, [], ◌∷◌, get_or, take, drop, sym, refl, ap, ◌∙◌, arith, drop-drop}
use Rattle.std.proofs.lemmas.List.{drop-take}
use Rattle.scan.specs.Runs.{run, past}
use Rattle.scan.specs.Numbers.{digit}
use Rattle.words.specs.Bytes.{blank}
use Rattle.words.specs.Words.{after_sign, takes_sign, number_at, digits_at, behind}
use Rattle.orders.proofs.Widening.{split, longer}

-- f drops so many bytes at the front, and looks at no more of them than the one behind
pub record Cutter (f : List ℕ → List ℕ) : Type 0 where
  pub used : List ℕ → ℕ
  pub is : (xs : List ℕ) → f xs ≡ drop (used xs) xs
  pub near : (m : ℕ) (xs : List ℕ) → used (take (used xs + m) xs) ≡ used xs

pub cut : {f : List ℕ → List ℕ} (c : Cutter f) (m : ℕ) (xs : List ℕ) → f (take (c.used xs + m) xs) ≡ take m (f xs)
cut c m xs =
    c.is (take (c.used xs + m) xs) ∙ ap (λ u. drop u (take (c.used xs + m) xs)) (c.near m xs) ∙ drop-take (c.used xs) m xs
    ∙ ap (take m) (sym (c.is xs))

take_none : (m : ℕ) → take {A = ℕ} m [] ≡ []
take_none zero = refl
take_none (suc m) = refl

none_used : (kind : ℕ → Bool) (x : ℕ) (m : ℕ) (xs : List ℕ) → kind x ≡ false → run kind (take m (x ∷ xs)) ≡ 0
none_used kind x zero xs f = refl
none_used kind x (suc m) xs f = longer kind x (take m xs) f

pub run_near : (kind : ℕ → Bool) (m : ℕ) (xs : List ℕ) → run kind (take (run kind xs + m) xs) ≡ run kind xs
run_near kind m [] = ap (run kind) (take_none (0 + m))
run_near kind m (x ∷ xs) =
    split (kind x)
    (λ t.
    let e : run kind (x ∷ xs) ≡ suc (run kind xs) = longer kind x xs t in
    let s : run kind (x ∷ xs) + m ≡ suc (run kind xs + m) = omega arith in
    ap (λ j. run kind (take j (x ∷ xs))) s ∙ longer kind x (take (run kind xs + m) xs) t ∙ ap suc (run_near kind m xs) ∙ sym e)
    (λ f.
    let e : run kind (x ∷ xs) ≡ 0 = longer kind x xs f in
    none_used kind x (run kind (x ∷ xs) + m) xs f ∙ sym e)

abbrev pub past_cutter : (kind : ℕ → Bool) → Cutter (past kind)
past_cutter kind = record { used = run kind; is = λ xs. refl; near = run_near kind }

same : Cutter (λ xs. xs)
same = record { used = λ xs. 0; is = λ xs. refl; near = λ m xs. refl }

abbrev sign_used : List ℕ → ℕ
sign_used xs = cond (eqb (get_or xs 0 0) 43 || eqb (get_or xs 0 0) 45) 1 0

by_sign : (k : Bool) (xs : List ℕ) → cond k (drop 1 xs) xs ≡ drop (cond k 1 0) xs
by_sign true xs = refl
by_sign false xs = refl

sign_near : (m : ℕ) (xs : List ℕ) → sign_used (take (sign_used xs + m) xs) ≡ sign_used xs
sign_near m [] = ap sign_used (take_none (0 + m))
sign_near m (x ∷ xs) = there (eqb x 43 || eqb x 45) refl m
  where
    there : (k : Bool) → (eqb x 43 || eqb x 45) ≡ k → (m : ℕ) → sign_used (take (cond k 1 0 + m) (x ∷ xs)) ≡ cond k 1 0
    there true e m = let s : 1 + m ≡ suc m = omega arith in ap (λ j. sign_used (take j (x ∷ xs))) s ∙ ap (λ k. cond k 1 0) e
    there false e zero = refl
    there false e (suc m) = let s : 0 + suc m ≡ suc m = omega arith in ap (λ j. sign_used (take j (x ∷ xs))) s ∙ ap (λ k. cond k 1 0) e

sign_cutter : Cutter after_sign
sign_cutter = record { used = sign_used; is = λ xs. by_sign (eqb (get_or xs 0 0) 43 || eqb (get_or xs 0 0) 45) xs; near = sign_near }

-- one cut behind another
also : {f g : List ℕ → List ℕ} → Cutter f → Cutter g → Cutter (λ xs. g (f xs))
also {f = f} {g = g} c d = record {
  used = λ xs. c.used xs + d.used (f xs);
  is = λ xs. d.is (f xs) ∙ ap (drop (d.used (f xs))) (c.is xs) ∙ drop-drop (d.used (f xs)) (c.used xs) xs;
  near = near_both;
}
  where
    near_both : (m : ℕ) (xs : List ℕ) → c.used (take (c.used xs + d.used (f xs) + m) xs) + d.used (f (take (c.used xs + d.used (f xs) + m) xs)) ≡ c.used xs + d.used (f xs)
    near_both m xs =
        let s : c.used xs + d.used (f xs) + m ≡ c.used xs + (d.used (f xs) + m) = omega arith in
        ap (λ j. c.used (take j xs) + d.used (f (take j xs))) s
        ∙ ap (λ u. u + d.used (f (take (c.used xs + (d.used (f xs) + m)) xs))) (c.near (d.used (f xs) + m) xs)
        ∙ ap (λ ys. c.used xs + d.used ys) (cut c (d.used (f xs) + m) xs)
        ∙ ap (λ u. c.used xs + u) (d.near m (f xs))

either : (k : Bool) {f g : List ℕ → List ℕ} → Cutter f → Cutter g → Cutter (λ xs. cond k (f xs) (g xs))
either true c d = c
either false c d = d

number_cutter : (c : ℕ) → Cutter (number_at c)
number_cutter c = either (eqb c 76) (also (past_cutter digit) (past_cutter blank)) same

digits_cutter : (c : ℕ) → Cutter (digits_at c)
digits_cutter c = either (takes_sign c) (also (number_cutter c) sign_cutter) (number_cutter c)

pub behind_cutter : (c : ℕ) → Cutter (behind c)
behind_cutter c = also (digits_cutter c) (past_cutter digit)
