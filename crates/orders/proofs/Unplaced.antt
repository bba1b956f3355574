-- What is wrong with a line does not depend on where its words stand.
use Rattle.std.proofs.Common.{◌≡◌, ℕ, Bool, true, false, ◌||◌, List, [], ◌∷◌, length, is_some, Some, None, Ok, Err, Option, Result, sym, refl, ap, ◌∙◌, arith}
use Rattle.scan.specs.Runs.{past}
use Rattle.words.specs.Bytes.{blank}
use Rattle.words.specs.Words.{Spelled}
use Rattle.words.specs.Checking.{first_bad}
use Rattle.words.specs.Listing.{words}
use Rattle.orders.specs.Meanings.{is_n, missing, foreign, unnamed, outside, hear, nothing, meaning}
use Rattle.orders.specs.Lines.{named, and_then, heard_on, heard_of}
use Rattle.orders.specs.Orders.{order, transfer, unless_bad, of_words, of_transfer}
use Rattle.orders.specs.Laws.{unplaced}
use Rattle.orders.specs.declared.heard.Heard.{Heard}
use Rattle.orders.specs.declared.order.Order.{Order}
use Rattle.orders.specs.declared.fault.WordFault.{WordFault}
use Rattle.orders.proofs.Outcomes.{judged}
use Rattle.orders.proofs.Widening.{Tight}
use Rattle.orders.proofs.Spacing.{bare, bares, same_words, same_bad}
use Rattle.words.proofs.Lengths.{shorter}

judged_bare : (a b c d : Bool) (g : Heard) (p : ℕ) → judged a b c d g 0 ≡ unplaced (judged a b c d g p)
judged_bare true b c d g p = refl
judged_bare false true c d g p = refl
judged_bare false false true d g p = refl
judged_bare false false false true g p = refl
judged_bare false false false false g p = refl

on_bare : {A B : Type 0} (m : Result A WordFault) (f g : A → Result B WordFault) → ((x : A) → g x ≡ unplaced (f x)) → and_then (unplaced m) g ≡ unplaced (and_then m f)
on_bare (Ok x) f g h = h x
on_bare (Err e) f g h = refl

module _ (R : ℕ) (line bang : Bool) where
  word_bare : (h : Heard) (w : Spelled) → meaning R line bang h (bare w) ≡ unplaced (meaning R line bang h w)
  word_bare h w = judged_bare (missing w) (foreign line h w) (unnamed bang w) (outside R w) (hear h w) w.place

  heard_bare : (h : Heard) (ws : List Spelled) → heard_on R line bang h (bares ws) ≡ unplaced (heard_on R line bang h ws)
  heard_bare h [] = refl
  heard_bare h (w ∷ ws) =
      ap (λ (m : Result Heard WordFault). and_then m (λ g. heard_on R line bang g (bares ws))) (word_bare h w)
      ∙ on_bare (meaning R line bang h w) (λ g. heard_on R line bang g ws) (λ g. heard_on R line bang g (bares ws)) (λ g. heard_bare g ws)

named_bare : (ws : List Spelled) → named (bares ws) ≡ named ws
named_bare [] = refl
named_bare (w ∷ ws) = ap (λ b. is_n w || b) (named_bare ws)

told_bare : (R : ℕ) (bang : Bool) (f : Heard → Result Order WordFault) (ws : List Spelled)
    → and_then (heard_of R bang (bares ws)) (λ g. unplaced (f g)) ≡ unplaced (and_then (heard_of R bang ws) f)
told_bare R bang f ws =
    ap (λ b. and_then (heard_on R b bang nothing (bares ws)) (λ g. unplaced (f g))) (named_bare ws)
    ∙ ap (λ (m : Result Heard WordFault). and_then m (λ g. unplaced (f g))) (heard_bare R (named ws) bang nothing ws)
    ∙ on_bare (heard_of R bang ws) f (λ g. unplaced (f g)) (λ g. refl)

same_told : (R : ℕ) (bang : Bool) (f : Heard → Result Order WordFault) (ws vs : List Spelled) → bares vs ≡ bares ws
    → unplaced (and_then (heard_of R bang vs) f) ≡ unplaced (and_then (heard_of R bang ws) f)
same_told R bang f ws vs e =
    sym (told_bare R bang f vs) ∙ ap (λ (us : List Spelled). and_then (heard_of R bang us) (λ g. unplaced (f g))) e ∙ told_bare R bang f ws

same_unless : (o p : Option ℕ) (r s : Result Order WordFault) → is_some p ≡ is_some o → unplaced s ≡ unplaced r → unplaced (unless_bad p s) ≡ unplaced (unless_bad o r)
same_unless None None r s h e = e
same_unless (Some x) (Some y) r s h e = refl
same_unless None (Some y) r s h e = absurd (let z : ◌≡◌ {A = ℕ} 0 1 = cc in omega arith)
same_unless (Some x) None r s h e = absurd (let z : ◌≡◌ {A = ℕ} 0 1 = cc in omega arith)

module _ (R n m : ℕ) (xs ys : List ℕ) (t : Tight (past blank xs) (past blank ys)) where
  same_read : (bang : Bool) (f : Heard → Result Order WordFault)
      → unplaced (unless_bad (first_bad (length ys) m ys) (and_then (heard_of R bang (words m ys)) f))
      ≡ unplaced (unless_bad (first_bad (length xs) n xs) (and_then (heard_of R bang (words n xs)) f))
  same_read bang f =
      same_unless (first_bad (length xs) n xs) (first_bad (length ys) m ys) (and_then (heard_of R bang (words n xs)) f) (and_then (heard_of R bang (words m ys)) f)
      (same_bad (length xs) (length ys) n m xs ys t (shorter blank xs) (shorter blank ys))
      (same_told R bang f (words n xs) (words m ys) (same_words (length xs) (length ys) n m xs ys t (shorter blank xs) (shorter blank ys)))

  pub same_order : unplaced (of_words R m ys) ≡ unplaced (of_words R n xs)
  same_order = same_read false (λ h. Ok (order h))

  pub same_transfer : unplaced (of_transfer R m ys) ≡ unplaced (of_transfer R n xs)
  same_transfer = same_read true transfer
