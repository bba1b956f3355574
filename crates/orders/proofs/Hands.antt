-- Reading the next word takes the first one of the list of words.
use Rattle.std.proofs.Common.{◌≡◌, ℕ, zero, suc, ◌<◌, ◌≤◌, true, false, List, [], ◌∷◌, length, Some, None, Ok, Err, Option, Result, refl, ap, ◌∙◌, sym, arith}
use Rattle.std.specs.Result.{result_unwrap_or}
use Rattle.scan.specs.Runs.{past}
use Rattle.words.specs.Bytes.{blank, letter}
use Rattle.words.specs.Words.{Spelled, spelled, word_of, behind}
use Rattle.words.specs.Reading.{opening, body, place_in, Reads}
use Rattle.words.specs.Listing.{listed, words}
use Rattle.words.specs.declared.word.Word.{Word}
use Rattle.words.specs.declared.word.ByteFault.{ByteFault}
use Rattle.words.proofs.Lengths.{word_taken}
use Rattle.words.proofs.Lists.{no_more, all_listed}
use Rattle.words.proofs.Scans.{some_there}
use Rattle.orders.specs.Lines.{heard_on, Handed}
use Rattle.orders.specs.Hearings.{in_all, Hears}
use Rattle.orders.specs.declared.heard.Heard.{Heard}
use Rattle.orders.specs.declared.hearing.Hearing.{Hearing}
use Rattle.orders.specs.declared.fault.WordFault.{WordFault}

at_bad : (k n : ℕ) (bs : List ℕ) → 0 < length (past blank bs) → letter (opening bs) ≡ false → listed k n bs ≡ []
at_bad zero n bs some opens = refl
at_bad (suc k) n bs some opens = rw (some_there (length (past blank bs)) some, opens)

one_word : (k n : ℕ) (bs after : List ℕ) (w : Spelled) → 0 < length (past blank bs) → letter (opening bs) ≡ true → w ≡ word_of (place_in n bs) (opening bs) (body bs) → after ≡ behind (opening bs) (body bs)
    → listed (suc k) n bs ≡ w ∷ listed k n after
one_word k n bs after w some opens spelt e = rw (some_there (length (past blank bs)) some, opens, spelt, e)

pub handed : (n : ℕ) (bs after : List ℕ) (r : Result (Option Word) ByteFault) → Reads n bs after r → Handed n bs after (result_unwrap_or r None)
handed n bs after (Ok None) r = λ k. no_more k n bs r.0
handed n bs after (Ok (Some w)) r = (word_taken bs after r.0 r.3, λ k. one_word k n bs after (spelled w) r.0 r.1 r.2 r.3)
handed n bs after (Err e) r = λ k. at_bad k n bs r.0 r.1

-- the words of what is left are the one that was handed and those that are left then
pub first_left : (n : ℕ) (bs after : List ℕ) (w : Word) → Handed n bs after (Some w) → words n bs ≡ spelled w ∷ words n after
first_left n bs after w h =
    let less = h.0 in
    all_listed (length bs) (suc (length bs)) n bs (omega arith) (omega arith) ∙ h.1 (length bs)
    ∙ ap (λ ws. spelled w ∷ ws) (all_listed (length bs) (length after) n after (omega arith) (omega arith))

-- all that is heard to the end, with what was
abbrev pub to_the_end : ℕ → Hearing → Result Heard WordFault
to_the_end R h = in_all R (length h.reader.rest.now) h

module _ (R : ℕ) (before after : Hearing) where
  in_full : (k : ℕ) (h : Hearing) → length h.reader.rest.now ≤ k → in_all R k h ≡ to_the_end R h
  in_full k h l = ap (heard_on R h.named h.bang h.heard) (all_listed k (length h.reader.rest.now) h.reader.length h.reader.rest.now l (omega arith))

  pub goes_on : Hears R before after (Ok true) → to_the_end R after ≡ to_the_end R before
  goes_on h =
      let k = length before.reader.rest.now in
      let less = h.0 in
      sym (in_full k after (omega arith)) ∙ h.1 k ∙ in_full (suc k) before (omega arith)

  pub ends : Hears R before after (Ok false) → Ok after.heard ≡ to_the_end R before
  ends h = ap Ok h.0 ∙ sym (h.1 (length before.reader.rest.now))

  pub breaks : (e : WordFault) → Hears R before after (Err e) → Err e ≡ to_the_end R before
  breaks e h = let k = length before.reader.rest.now in sym (h k) ∙ in_full (suc k) before (omega arith)
