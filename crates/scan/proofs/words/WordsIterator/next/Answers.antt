use Rattle.std.proofs.Common.{◌≡◌, ℕ, ◌+◌, false, not, List, [], length, get_or, drop, inl, inr, ap, arith, rules}
use Rattle.std.proofs.lemmas.Bool.{cases_lt}
use Rattle.std.proofs.lemmas.List.{drop_all}
use Rattle.std.proofs.lemmas.List.Sums.{prefix_len_stops, prefix_len-drop_yes}
use Rattle.std.proofs.lemmas.List.Folds.{length-prefix_len}
use Rattle.scan.specs.Cuts.{blank, visible, trimmed, first_word}
use Rattle.scan.specs.Runs.{run}
use Rattle.scan.proofs.words.WordsIterator.next.Goals as goal

-- where the next word has no byte, only blanks are left
only_blanks : (bs : List ℕ) → length (first_word bs) ≡ 0 → trimmed bs ≡ []
only_blanks bs none =
    let r = run blank bs in
    elim (cases_lt r (length bs)) [
      | inl h ↦
          let stop : blank (get_or bs r 0) ≡ false = prefix_len_stops blank bs 0 h in
          let one : run visible (trimmed bs) ≡ 1 + run visible (drop (r + 1) bs) = prefix_len-drop_yes visible bs r 0 h (ap not stop) in
          let l : length (first_word bs) ≡ run visible (trimmed bs) = length-prefix_len visible (trimmed bs) in
          absurd (omega (arith, none, one, l))
      | inr h ↦ drop_all r bs h
    ]

pub returns-clause-steps : goal.returns-clause-steps
returns-clause-steps c = (search (rules, only_blanks), search rules)
