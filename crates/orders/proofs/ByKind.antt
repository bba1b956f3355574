-- The reading of a line, by its kind.
use Rattle.std.proofs.Common.{◌≡◌, ℕ, suc, false, ◌&&◌, eqb, List, [], ◌∷◌, length, get_or, drop, sym, refl, ap, arith}
use Rattle.std.proofs.lemmas.Bool.{le-ltb, ne_eqb}
use Rattle.std.proofs.lemmas.Bool.Decides.{nat_tests}
use Rattle.scan.specs.Runs.{past}
use Rattle.words.specs.Bytes.{blank}
use Rattle.words.proofs.Scans.{some_there}
use Rattle.words.specs.Kinds.{Readable}
use Rattle.orders.specs.Orders.{alone, of_words, of_transfer, reading}

not_alone : (b : ℕ) (bs : List ℕ) → (bs ≡ b ∷ [] → ⊥) → alone b bs ≡ false
not_alone b [] h = refl
not_alone b (x ∷ []) h = ne_eqb x b (λ e. h (ap (λ z. z ∷ []) e))
not_alone b (x ∷ y ∷ zs) h =
    let more : eqb (suc (suc (length zs))) 1 ≡ false = grind (arith, nat_tests) in
    ap (λ k. k && eqb x b) more

else_where : (b : ℕ) (bs : List ℕ) → get_or bs 0 0 ≡ 33 → (33 ≡ b → ⊥) → alone b bs ≡ false
else_where b bs e h = grind (arith, nat_tests)

module _ (R : ℕ) (bs : List ℕ) (readable : Readable bs) where
  pub behind_bang : (rest : List ℕ) → bs ≡ 33 ∷ rest → of_transfer R (length bs) rest ≡ reading R bs
  behind_bang rest e =
      let first : get_or bs 0 0 ≡ 33 = ap (λ xs. get_or xs 0 0) e in
      let behind : rest ≡ drop 1 bs = sym (ap (drop 1) e) in
      rw (
        le-ltb 80 (length bs) readable.0,
        some_there (length (past blank bs)) readable.1,
        else_where 42 bs first (λ z. omega arith),
        else_where 36 bs first (λ z. omega arith),
        else_where 35 bs first (λ z. omega arith),
        first,
        behind,
      )

  pub in_words : (get_or bs 0 0 ≡ 33 → ⊥) → (bs ≡ 42 ∷ [] → ⊥) → (bs ≡ 36 ∷ [] → ⊥) → (bs ≡ 35 ∷ [] → ⊥) → of_words R (length bs) bs ≡ reading R bs
  in_words bang clear hold stop =
      rw (
        le-ltb 80 (length bs) readable.0,
        some_there (length (past blank bs)) readable.1,
        not_alone 42 bs clear,
        not_alone 36 bs hold,
        not_alone 35 bs stop,
        ne_eqb (get_or bs 0 0) 33 bang,
      )
