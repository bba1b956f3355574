-- The line that accepted words are about is named by the first of them, or by none.
use Rattle.std.proofs.Common.{◌≡◌, ℕ, suc, ◌≤◌, Bool, true, false, cond, not, ◌&&◌, ◌||◌, eqb, leb, ◌⊎◌, List, [], ◌∷◌, length, take, is_some, Some, None, Ok, Err, Option, Result, sym, refl, ap, ◌∙◌, inl, inr, arith}
use Rattle.std.proofs.lemmas.Bool.Decides.{nat_tests}
use Rattle.std.proofs.lemmas.Bool.{or_parts, both_ways}
use Rattle.std.proofs.lemmas.Option.{none-some, same_Some}
use Rattle.scan.specs.Runs.{past}
use Rattle.words.specs.Bytes.{blank, letter}
use Rattle.words.specs.Words.{Spelled, word_of, behind}
use Rattle.words.specs.Reading.{opening, body, place_in}
use Rattle.words.specs.Listing.{listed}
use Rattle.orders.specs.Meanings.{is_n, is_l, is_h, any_field, line_number, missing, repeated, foreign, unnamed, outside, hear, nothing, meaning}
use Rattle.orders.specs.Lines.{named, and_then, heard_on}
use Rattle.orders.specs.declared.heard.Heard.{Heard}
use Rattle.orders.specs.declared.fault.WordFault.{WordFault}
use Rattle.orders.specs.declared.fault.WordFault.TheVariants.{Missing, Foreign, NoCode, OutOfRange}
use Rattle.orders.proofs.Outcomes.{refused, judged}
use Rattle.orders.proofs.Widening.{split}

-- an accepted word was neither foreign nor out of range
accepted : (a b c d : Bool) (g h : Heard) (p : ℕ) → judged a b c d g p ≡ Ok h → (b ≡ false) × (d ≡ false) × (g ≡ h)
accepted true b c d g h p e = absurd (refused (Missing p) h e)
accepted false true c d g h p e = absurd (refused (Foreign p) h e)
accepted false false true d g h p e = absurd (refused (NoCode p) h e)
accepted false false false true g h p e = absurd (refused (OutOfRange p) h e)
accepted false false false false g h p e = (refl, refl, ap (λ r. elim r [ Ok x ↦ x | Err y ↦ g ]) e)

module _ (R : ℕ) (line : Bool) where
  heard_word : (h g : Heard) (w : Spelled) → meaning R line false h w ≡ Ok g → (foreign line h w ≡ false) × (outside R w ≡ false) × (hear h w ≡ g)
  heard_word h g w e = accepted (missing w) (foreign line h w) (unnamed false w) (outside R w) (hear h w) g w.place e

  then_on : (m : Result Heard WordFault) (f : Heard → Result Heard WordFault) (g : Heard) → and_then m f ≡ Ok g → (h : Heard) × ((m ≡ Ok h) × (f h ≡ Ok g))
  then_on (Ok h) f g e = (h, (refl, e))
  then_on (Err x) f g e = absurd (refused x g e)

-- of two facts that one refuses
not_both : (a b : Bool) → (a && b) ≡ false → a ≡ true → b ≡ false
not_both true b e t = e
not_both false b e t = absurd (let z : ◌≡◌ {A = ℕ} 0 1 = cc in omega arith)

in_range : (m n : ℕ) → m ≡ n → not (leb 1 m && leb m 400) ≡ false → (1 ≤ n) × (n ≤ 400)
in_range m n e h = (grind (arith, nat_tests), grind (arith, nat_tests))

module _ (R : ℕ) (line : Bool) where
  -- a line once named stays named, and where no word is N none is
  keeps : (h g : Heard) (ws : List Spelled) → (is_some h.line ≡ true) ⊎ (named ws ≡ false) → heard_on R line false h ws ≡ Ok g → g.line ≡ h.line
  keeps h g [] why e = ap (λ r. elim r [ Ok x ↦ x.line | Err y ↦ h.line ]) (sym e)
  keeps h g (w ∷ ws) why e =
      let one = then_on R line (meaning R line false h w) (λ k. heard_on R line false k ws) g e in
      let word = heard_word R line h one.0 w one.1.0 in
      let here : one.0.line ≡ h.line =
      split (is_n w)
      (λ t. elim why [
        | inl s ↦ absurd (both_ways (is_some h.line) (not_both (is_n w) (is_some h.line) (or_parts (is_n w && is_some h.line) _ (or_parts (repeated h w) _ word.0).0).0 t) s)
        | inr n ↦ absurd (both_ways (is_n w) (or_parts (is_n w) (named ws) n).0 t)
      ])
      (λ f. sym (ap (λ (k : Heard). k.line) word.2) ∙ ap (λ b. cond b (Some (line_number w)) h.line) f)
      in
      keeps one.0 g ws (elim why [ inl s ↦ inl (ap is_some here ∙ s) | inr n ↦ inr (or_parts (is_n w) (named ws) n).1 ]) one.1.1 ∙ here

-- a word that is no N, accepted where no line is named yet, stands in a line without N
unnamed_line : (line : Bool) (h : Heard) (w : Spelled) → h.line ≡ None → is_n w ≡ false → foreign line h w ≡ false → line ≡ false
unnamed_line line h w none f e =
    let last : (not (is_n w) && (line && not (is_some h.line))) ≡ false =
    (or_parts (is_h w && any_field h.fields) _
    (or_parts (is_l w && (is_some h.line || any_field h.fields)) _ (or_parts (is_some h.setting || is_some h.host) _ (or_parts (repeated h w) _ e).1).1).1).1
    in
    let free : (line && not (is_some h.line)) ≡ false = not_both (not (is_n w)) (line && not (is_some h.line)) last (ap not f) in
    by line (sym (ap (λ (o : Option ℕ). line && not (is_some o)) none) ∙ free)
  where
    by : (l : Bool) → (l && true) ≡ false → l ≡ false
    by true e = e
    by false e = refl

module _ (R : ℕ) (line : Bool) where
  -- what the first word names is what all of them do
  pub first_names : (ws : List Spelled) (h g : Heard) → line ≡ named ws → heard_on R line false nothing (take 1 ws) ≡ Ok h → heard_on R line false nothing ws ≡ Ok g → g.line ≡ h.line
  first_names [] h g n e f = ap (λ r. elim r [ Ok x ↦ x.line | Err y ↦ h.line ]) (sym f ∙ e)
  first_names (w ∷ ws) h g n e f =
      let one = then_on R line (meaning R line false nothing w) (λ k. Ok k) h e in
      let all = then_on R line (meaning R line false nothing w) (λ k. heard_on R line false k ws) g f in
      let word = heard_word R line nothing all.0 w all.1.0 in
      let same : h.line ≡ all.0.line = ap (λ r. elim r [ Ok x ↦ x.line | Err y ↦ h.line ]) (sym one.1.1 ∙ sym one.1.0 ∙ all.1.0) in
      keeps R line all.0 g ws
      (split (is_n w)
      (λ t. inl (sym (ap (λ (k : Heard). is_some k.line) word.2) ∙ ap (λ b. is_some (cond b (Some (line_number w)) nothing.line)) t))
      (λ o. inr (or_parts (is_n w) (named ws) (sym n ∙ unnamed_line line nothing w refl o word.0)).1))
      all.1.1
      ∙ sym same

  -- and it names a line that there is
  pub names_one : (ws : List Spelled) (h : Heard) (n : ℕ) → heard_on R line false nothing (take 1 ws) ≡ Ok h → h.line ≡ Some n → (1 ≤ n) × (n ≤ 400)
  names_one [] h n e s = absurd (none-some n (ap (λ r. elim r [ Ok x ↦ x.line | Err y ↦ None ]) e ∙ s))
  names_one (w ∷ ws) h n e s =
      let one = then_on R line (meaning R line false nothing w) (λ k. Ok k) h e in
      let word = heard_word R line nothing one.0 w one.1.0 in
      let same : one.0.line ≡ Some n = ap (λ r. elim r [ Ok x ↦ x.line | Err y ↦ h.line ]) one.1.1 ∙ s in
      let here : cond (is_n w) (Some (line_number w)) None ≡ Some n = ap (λ (k : Heard). k.line) word.2 ∙ same in
      split (is_n w)
      (λ t. in_range (line_number w) n (same_Some (line_number w) n (sym (ap (λ b. cond b (Some (line_number w)) None) t) ∙ here))
      (not_both (is_n w) (not (leb 1 (line_number w) && leb (line_number w) 400)) (or_parts _ _ word.1).0 t))
      (λ f. absurd (none-some n (sym (ap (λ b. cond b (Some (line_number w)) None) f) ∙ here)))

-- the first word by itself
one_of : (a b : Bool) (w : Spelled) (ws : List Spelled) → cond a [] (cond b (w ∷ []) []) ≡ take 1 (cond a [] (cond b (w ∷ ws) []))
one_of true b w ws = refl
one_of false true w ws = refl
one_of false false w ws = refl

pub first_of : (k n : ℕ) (bs : List ℕ) → listed 1 n bs ≡ take 1 (listed (suc k) n bs)
first_of k n bs =
    one_of (eqb (length (past blank bs)) 0) (letter (opening bs)) (word_of (place_in n bs) (opening bs) (body bs)) (listed k n (behind (opening bs) (body bs)))
