-- The line that a host line is about, from its first word.
use Rattle.std.proofs.Common.{◌≡◌, ℕ, suc, ◌≤◌, Bool, true, false, List, [], ◌∷◌, length, take, Some, None, Ok, Err, Option, Result, sym, refl, ap, ◌∙◌}
use Rattle.words.specs.Listing.{listed, words}
use Rattle.orders.specs.Meanings.{nothing}
use Rattle.orders.specs.Lines.{named, heard_on}
use Rattle.orders.specs.Hearings.{Begins, in_all, Hears}
use Rattle.orders.specs.declared.heard.Heard.{Heard}
use Rattle.orders.specs.declared.hearing.Hearing.{Hearing}
use Rattle.orders.specs.declared.fault.WordFault.{WordFault}
use Rattle.orders.proofs.Outcomes.{refused}
use Rattle.orders.proofs.Naming.{first_names, names_one, first_of}
use Rattle.program.specs.Memories.{named_or, NumberedOr, Aims}

first_alone : (n : ℕ) (bs : List ℕ) → listed 1 n bs ≡ take 1 (words n bs)
first_alone n [] = refl
first_alone n (b ∷ bs) = first_of (length bs) n (b ∷ bs)

-- numbered as the first word says, all of them say the same
by_number : (o : Option ℕ) (p r : ℕ) → ((m : ℕ) → o ≡ Some m → (1 ≤ m) × (m ≤ 400)) → NumberedOr o p r → r ≡ named_or o p
by_number (Some n) p r range is = let here = range n refl in is here.0 here.1
by_number None p r range is = is

module _ (R n : ℕ) (bs : List ℕ) (before after : Hearing) (begins : Begins bs n false before) where
  start : (k : ℕ) → in_all R k before ≡ heard_on R (named (words n bs)) false nothing (listed k n bs)
  start k = rw (begins.line, begins.behind, begins.silent, begins.length, begins.rest)

  first_word : (b : Bool) → Hears R before after (Ok b) → heard_on R (named (words n bs)) false nothing (take 1 (words n bs)) ≡ Ok after.heard
  first_word true h = ap (heard_on R (named (words n bs)) false nothing) (sym (first_alone n bs)) ∙ sym (start 1) ∙ sym (h.1 0)
  first_word false h = ap (heard_on R (named (words n bs)) false nothing) (sym (first_alone n bs)) ∙ sym (start 1) ∙ h.1 1 ∙ ap Ok (sym h.0)

  pub aims : (b : Bool) (p r : ℕ) → Hears R before after (Ok b) → NumberedOr after.heard.line p r → Aims R n bs p r
  aims b p r h is g e =
      by_number after.heard.line p r (λ m s. names_one R (named (words n bs)) (words n bs) after.heard m (first_word b h) s) is
      ∙ ap (λ (o : Option ℕ). named_or o p) (sym (first_names R (named (words n bs)) (words n bs) after.heard g refl (first_word b h) e))

pub aims_nowhere : (R n : ℕ) (bs : List ℕ) (before after : Hearing) → Begins bs n false before → (x : WordFault) (p : ℕ) → Hears R before after (Err x) → Aims R n bs p p
aims_nowhere R n [] before after begins x p h g e = ap (λ (r : Result Heard WordFault). named_or (elim r [ Ok y ↦ y.line | Err z ↦ None ]) p) e
aims_nowhere R n (b ∷ bs) before after begins x p h g e = absurd (refused x g (sym (h (length bs)) ∙ start R n (b ∷ bs) before after begins (suc (length bs)) ∙ e))
