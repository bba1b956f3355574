-- One blank more leaves the words as they are.
use Rattle.std.proofs.Common.{◌≡◌, ℕ, suc, ◌+◌, Bool, true, false, cond, ◌||◌, eqb, ◌⊎◌, List, [], ◌∷◌, take, drop, Some, None, sym, refl, ap, ◌∙◌, subst, inl, inr, arith}
use Rattle.std.proofs.lemmas.Bool.Decides.{nat_tests}
use Rattle.scan.specs.Runs.{run, span, past}
use Rattle.scan.specs.Numbers.{digit}
use Rattle.words.specs.Bytes.{blank}
use Rattle.words.specs.Words.{sign_at, after_sign}
use Rattle.words.specs.declared.word.Sign.TheVariants.{Plus, Minus}
use Rattle.orders.specs.Laws.{Wider}

pub wider_same : (xs : List ℕ) → Wider xs xs
wider_same [] = inl refl
wider_same (x ∷ xs) = (refl, inl (wider_same xs))

-- both are empty, or the first bytes are the same and what stands behind is wider
abbrev pub Tight : List ℕ → List ℕ → Type 0
Tight [] [] = Unit {0}
Tight [] (y ∷ ys) = ⊥
Tight (x ∷ xs) [] = ⊥
Tight (x ∷ xs) (y ∷ ys) = (x ≡ y) × Wider xs ys

pub tight_same : (xs : List ℕ) → Tight xs xs
tight_same [] = tt
tight_same (x ∷ xs) = (refl, wider_same xs)

is_blank : (x : ℕ) → blank x ≡ true → x ≡ 32
is_blank x h = grind (arith, nat_tests)

is_digit : (x : ℕ) → digit x ≡ true → x ≡ 32 → ⊥
is_digit x h e = grind (arith, nat_tests)

-- by a test, and what it found
pub split : {P : Type 0} (b : Bool) → (b ≡ true → P) → (b ≡ false → P) → P
split true f g = f refl
split false f g = g refl

module _ (kind : ℕ → Bool) (x : ℕ) (xs : List ℕ) where
  pub longer : {b : Bool} → kind x ≡ b → run kind (x ∷ xs) ≡ cond b (suc (run kind xs)) 0
  longer {b = b} e = let s : 1 + run kind xs ≡ suc (run kind xs) = omega arith in ap (λ k. cond k (1 + run kind xs) 0) e ∙ ap (λ n. cond b n 0) s

  pub past_on : kind x ≡ true → past kind (x ∷ xs) ≡ past kind xs
  past_on e = ap (λ k. drop k (x ∷ xs)) (longer e)

  pub past_at : kind x ≡ false → past kind (x ∷ xs) ≡ x ∷ xs
  past_at e = ap (λ k. drop k (x ∷ xs)) (longer e)

  pub span_on : kind x ≡ true → span kind (x ∷ xs) ≡ x ∷ span kind xs
  span_on e = ap (λ k. take k (x ∷ xs)) (longer e)

  pub span_at : kind x ≡ false → span kind (x ∷ xs) ≡ []
  span_at e = ap (λ k. take k (x ∷ xs)) (longer e)

both : (P : List ℕ → List ℕ → Type 0) {xs ys zs ws : List ℕ} → xs ≡ zs → ys ≡ ws → P zs ws → P xs ys
both P {ys = ys} {zs = zs} e f h = subst (λ xs. P xs ys) (sym e) (subst (λ ws. P zs ws) (sym f) h)

past_first : (x y : ℕ) (xs ys : List ℕ) → x ≡ y → blank x ≡ false → Wider xs ys ⊎ ((x ≡ 32) × (ys ≡ 32 ∷ xs)) → Tight (past blank (x ∷ xs)) (past blank (y ∷ ys))
past_first x y xs ys e f (inl w) = both Tight (past_at blank x xs f) (past_at blank y ys (ap blank (sym e) ∙ f)) (e, w)
past_first x y xs ys e f (inr w) = let z : ⊥ = grind (arith, nat_tests) in elim z [ ]

-- one blank more at the front
pub blank_more : (xs : List ℕ) → Tight (past blank xs) (past blank (32 ∷ xs))
blank_more xs = subst (Tight (past blank xs)) (sym (past_on blank 32 xs refl)) (tight_same (past blank xs))

-- past the blanks at the front
pub tight : (xs ys : List ℕ) → Wider xs ys → Tight (past blank xs) (past blank ys)
tight [] ys (inl e) = subst (λ zs. Tight [] (past blank zs)) (sym e) tt
tight [] ys (inr e) = subst (λ zs. Tight [] (past blank zs)) (sym e) tt
tight (x ∷ xs) [] w = elim w [ ]
tight (x ∷ xs) (y ∷ ys) w =
    split (blank x)
    (λ t. both Tight (past_on blank x xs t) (past_on blank y ys (ap blank (sym w.0) ∙ t))
    (elim w.1 [ inl v ↦ tight xs ys v | inr v ↦ subst (λ zs. Tight (past blank xs) (past blank zs)) (sym v.1) (blank_more xs) ]))
    (λ f. past_first x y xs ys w.0 f w.1)

-- past the digits at the front
pub wider_past : (xs ys : List ℕ) → Wider xs ys → Wider (past digit xs) (past digit ys)
wider_past [] ys (inl e) = subst (λ zs. Wider [] (past digit zs)) (sym e) (inl refl)
wider_past [] ys (inr e) = subst (λ zs. Wider [] (past digit zs)) (sym e) (inr refl)
wider_past (x ∷ xs) [] w = elim w [ ]
wider_past (x ∷ xs) (y ∷ ys) w =
    split (digit x)
    (λ t. both Wider (past_on digit x xs t) (past_on digit y ys (ap digit (sym w.0) ∙ t))
    (elim w.1 [ inl v ↦ wider_past xs ys v | inr v ↦ absurd (is_digit x t v.0) ]))
    (λ f. both Wider (past_at digit x xs f) (past_at digit y ys (ap digit (sym w.0) ∙ f)) w)

pub same_span : (xs ys : List ℕ) → Wider xs ys → span digit ys ≡ span digit xs
same_span [] ys (inl e) = ap (span digit) e
same_span [] ys (inr e) = ap (span digit) e
same_span (x ∷ xs) [] w = elim w [ ]
same_span (x ∷ xs) (y ∷ ys) w =
    split (digit x)
    (λ t. span_on digit y ys (ap digit (sym w.0) ∙ t)
    ∙ ap (λ b. b ∷ span digit ys) (sym w.0)
    ∙ ap (λ bs. x ∷ bs) (elim w.1 [ inl v ↦ same_span xs ys v | inr v ↦ absurd (is_digit x t v.0) ])
    ∙ sym (span_on digit x xs t))
    (λ f. span_at digit y ys (ap digit (sym w.0) ∙ f) ∙ sym (span_at digit x xs f))

-- the sign at the front
pub same_sign : (xs ys : List ℕ) → Wider xs ys → sign_at ys ≡ sign_at xs
same_sign [] ys (inl e) = ap sign_at e
same_sign [] ys (inr e) = ap sign_at e
same_sign (x ∷ xs) [] w = elim w [ ]
same_sign (x ∷ xs) (y ∷ ys) w = ap (λ b. cond (eqb b 43) (Some Plus) (cond (eqb b 45) (Some Minus) None)) (sym w.0)

no_sign : (x : ℕ) → (eqb x 43 || eqb x 45) ≡ true → x ≡ 32 → ⊥
no_sign x h e = grind (arith, nat_tests)

pub wider_behind_sign : (xs ys : List ℕ) → Wider xs ys → Wider (after_sign xs) (after_sign ys)
wider_behind_sign [] ys (inl e) = subst (λ zs. Wider [] (after_sign zs)) (sym e) (inl refl)
wider_behind_sign [] ys (inr e) = subst (λ zs. Wider [] (after_sign zs)) (sym e) (inr refl)
wider_behind_sign (x ∷ xs) [] w = elim w [ ]
wider_behind_sign (x ∷ xs) (y ∷ ys) w =
    split (eqb x 43 || eqb x 45)
    (λ t. both Wider (ap (λ k. cond k xs (x ∷ xs)) t) (ap (λ k. cond k ys (y ∷ ys)) (ap (λ b. eqb b 43 || eqb b 45) (sym w.0) ∙ t))
    (elim w.1 [ inl v ↦ v | inr v ↦ absurd (no_sign x t v.0) ]))
    (λ f. both Wider (ap (λ k. cond k xs (x ∷ xs)) f) (ap (λ k. cond k ys (y ∷ ys)) (ap (λ b. eqb b 43 || eqb b 45) (sym w.0) ∙ f)) w)

pub wider_tight : (xs ys : List ℕ) → Tight xs ys → Wider xs ys
wider_tight [] [] w = inl refl
wider_tight [] (y ∷ ys) w = elim w [ ]
wider_tight (x ∷ xs) [] w = elim w [ ]
wider_tight (x ∷ xs) (y ∷ ys) w = (w.0, inl w.1)
