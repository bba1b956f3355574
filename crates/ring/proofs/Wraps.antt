-- How a ring's contents change by a write behind them and by a step of their start.
use Rattle.std.proofs.Common.{◌≡◌, ℕ, suc, ◌+◌, ◌-◌, ◌%◌, ◌<◌, ◌≤◌, ◌⊎◌, List, [], ◌∷◌, ◌++◌, length, get_or, take, drop, set, sym, ap, ◌∙◌, inl, inr, arith}
use Rattle.std.proofs.lemmas.List.{length-set, length-drop, length-append, drop-append-le, take-append-le, drop-set-add, drop-set-lt, take_more_set, set-append_right, drop_more, get_or_append_left, drop_at}
use Rattle.std.proofs.lemmas.Bool.Decides.{leb_tells}
use Rattle.std.proofs.Math.Nat.{mod-eq_of_lt, mod-eq-sub-mod}
use Rattle.ring.specs.Contents.{contents}

-- the write falls before the slice's end
straight : {X : Type 0} (xs : List X) (s n : ℕ) (y : X) → s + n < length xs
    → contents (set xs (s + n) y) s (n + 1) ≡ contents xs s n ++ y ∷ []
straight xs s n y h =
    ap (take (n + 1)) (drop-append-le s (set xs (s + n) y) _ (simp length-set (omega arith)) ∙ ap (λ zs. zs ++ set xs (s + n) y) (drop-set-add s xs n y))
    ∙ take-append-le (n + 1) (set (drop s xs) n y) _ (simp (length-set, length-drop) (omega arith))
    ∙ take_more_set (drop s xs) n y (simp length-drop (omega arith))
    ∙ ap (λ zs. zs ++ y ∷ []) (sym (ap (take n) (drop-append-le s xs xs (omega arith)) ∙ take-append-le n (drop s xs) xs (simp length-drop (omega arith))))

-- the write falls past the slice's end, and so at its start
wrapped : {X : Type 0} (xs : List X) (s n i : ℕ) (y : X) → n < length xs → s ≤ length xs → i + length xs ≡ s + n
    → contents (set xs i y) s (n + 1) ≡ contents xs s n ++ y ∷ []
wrapped xs s n i y hn hs e =
    ap (take (n + 1)) (drop-append-le s (set xs i y) _ (simp length-set (omega arith)) ∙ ap (λ zs. zs ++ set xs i y) (drop-set-lt s xs i y (omega arith)))
    ∙ ap (take (n + 1)) (ap (λ k. drop s xs ++ set xs k y) at ∙ sym (set-append_right (drop s xs) xs (length xs - s) n y (length-drop s xs) (omega arith)))
    ∙ take_more_set (drop s xs ++ xs) n y (simp (length-append, length-drop) (omega arith))
    ∙ ap (λ zs. take n zs ++ y ∷ []) (sym (drop-append-le s xs xs hs))
  where
    at : i ≡ n - (length xs - s)
    at = omega arith

-- the cell k behind the start is before the slice's end, or follows it from its start
turn : (s k n : ℕ) → s < n → k ≤ n → (s + k < n) × ((s + k) % n ≡ s + k) ⊎ (n ≤ s + k) × ((s + k) % n + n ≡ s + k)
turn s k n hs hk =
    elim (leb_tells (suc (s + k)) n) [
      | inl t ↦ inl (omega (arith, t.1), mod-eq_of_lt (omega (arith, t.1)))
      | inr t ↦
          let past : n ≤ s + k = omega (arith, t.1) in
          let less : (s + k - n) % n ≡ s + k - n = mod-eq_of_lt (omega arith) in
          inr (past, omega (arith, mod-eq-sub-mod past, less))
    ]

pub pushed : {X : Type 0} (xs : List X) (s n i : ℕ) (y : X) → n < length xs → s < length xs → i ≡ (s + n) % length xs
    → contents (set xs i y) s (n + 1) ≡ contents xs s n ++ y ∷ []
pushed xs s n i y hn hs e =
    elim (turn s n (length xs) hs (omega arith)) [
      | inl t ↦ rw (e ∙ t.1) (straight xs s n y t.0)
      | inr t ↦ wrapped xs s n i y hn (omega arith) (omega (arith, e, t.1))
    ]

-- the first of the contents
first : {X : Type 0} (xs : List X) (s m : ℕ) (d : X) → s < length xs
    → contents xs s (suc m) ≡ get_or xs s d ∷ take m (drop (s + 1) (xs ++ xs))
first xs s m d hs =
    ap (take (suc m)) (drop_more (xs ++ xs) s d (simp length-append (omega arith)))
    ∙ ap (λ x. x ∷ take m (drop (s + 1) (xs ++ xs))) (get_or_append_left xs xs d s hs)

rest : {X : Type 0} (xs : List X) (s m : ℕ) → m ≤ length xs → s < length xs → take m (drop (s + 1) (xs ++ xs)) ≡ contents xs ((s + 1) % length xs) m
rest xs s m h hs =
    elim (turn s 1 (length xs) hs (omega arith)) [
      | inl t ↦ ap (λ k. take m (drop k (xs ++ xs))) (sym t.1)
      | inr t ↦
          let ends : length xs ≡ s + 1 = omega (arith, t.0) in
          let begins : (s + 1) % length xs ≡ 0 = omega (arith, t.1) in
          ap (take m) (drop_at xs xs (s + 1) ends) ∙ sym (take-append-le m xs xs h) ∙ ap (λ k. contents xs k m) (sym begins)
    ]

pub popped : {X : Type 0} (xs : List X) (s t n : ℕ) (d : X) → 0 < n → n ≤ length xs → s < length xs → t ≡ (s + 1) % length xs
    → contents xs s n ≡ get_or xs s d ∷ contents xs t (n - 1)
popped xs s t n d hn hl hs e =
    let more : n ≡ suc (n - 1) = omega arith in
    ap (λ k. contents xs s k) more ∙ first xs s (n - 1) d hs ∙ ap (λ zs. get_or xs s d ∷ zs) (rest xs s (n - 1) (omega arith) hs ∙ ap (λ k. contents xs k (n - 1)) (sym e))
