-- The legs in order, and those that are left after the first n.
use Rattle.std.proofs.Common.{◌≡◌, ℕ, ◌+◌, ◌*◌, ◌<◌, ◌≤◌, Bool, false, ◌||◌, List, [], ◌∷◌, length, get_or, drop, map, ℤ, pos, neg_ℤ, ◌+ℤ◌, ◌≤ℤ◌, Some, None, Option, Iter, sym, ap, ◌∙◌, arith, w64, to_z, of_z, SFits}
use Rattle.std.specs.List.{flat_map}
use Rattle.std.specs.Option.{option_to_list}
use Rattle.std.specs.Iterator.Adapters.{copied_source, flatten_source, flatten_front, flatten_back, flatten_done, flatten_steps, once_item, once_steps}
use Rattle.std.specs.Slice.Iter.{iter_rest}
use Rattle.std.specs.declared.iter.Copied.{Copied}
use Rattle.std.specs.declared.iter.Flatten.{Flatten}
use Rattle.std.specs.declared.iter.Once.{Once}
use Rattle.std.proofs.iter.Yields.{copies, fronts}
use Rattle.std.proofs.lemmas.Int.{ints, to_z-of_z}
use Rattle.std.proofs.lemmas.Iterator.{YieldsList, YieldsList-from_slice}
use Rattle.std.proofs.lemmas.Iterator.Adapters.{YieldsList-from_flatten, YieldsList-from_once}
use Rattle.std.proofs.lemmas.Iterator.Consumers.{YieldsList-at, YieldsList-from_copied}
use Rattle.std.proofs.lemmas.List.{at_drop_more}
use Rattle.plan.specs.Limits.{any_leg}
use Rattle.plan.specs.declared.leg.Leg.{Leg}
use Rattle.plan.specs.declared.route.Legs.{Legs}

abbrev places : Legs → List (Option Leg)
places l = Some l.first ∷ l.second ∷ l.third ∷ []

abbrev pub walked : Legs → List Leg
walked l = flat_map option_to_list (places l)

-- what `iter().copied().flatten()` gives of the three places
pub gives : (l : Legs) {s : Iter (Option Leg)} {t : Copied (Iter (Option Leg))} {u v : Flatten (Copied (Iter (Option Leg))) (Once Leg)} (becomes : Option Leg → Once Leg → Type 0)
    → ((x : Option Leg) (j : Once Leg) → becomes x j → once_item j ≡ x)
    → iter_rest s ≡ places l → copied_source t ≡ s
    → flatten_source u ≡ t → flatten_front u ≡ None → flatten_back u ≡ None → flatten_done u ≡ false → v ≡ u
    → YieldsList (flatten_steps (copies fronts) becomes once_steps) (λ x. x) v (walked l)
gives l becomes once slice copied flat front back done same =
    let by_value = YieldsList-from_copied (YieldsList-at copied (YieldsList-from_slice _ slice)) in
    YieldsList-at same (YieldsList-from_flatten becomes once_steps (λ x. x) option_to_list (λ x j b. YieldsList-from_once x (once x j b)) (YieldsList-at flat by_value) front back done)

abbrev pub any_left : (ℤ → ℤ → Bool) → ℤ → List Leg → Bool
any_left test end legs = any_leg test end (map (λ (l : Leg). l.pulses) legs)

-- where n legs at most may lead
abbrev pub IsNear : ℕ → ℤ → Type 0
IsNear n end = (neg_ℤ (pos (2147483648 + 8589934592 * n)) ≤ℤ end) × (end ≤ℤ pos (2147483648 + 8589934592 * n))

-- one leg more
pub record Goes (test : ℤ → ℤ → Bool) (l : Legs) (n : ℕ) (end : ℤ) (leg : Leg) : Type 0 where
  pub left : any_left test end (drop n (walked l)) ≡ (test leg.pulses (end +ℤ leg.pulses) || any_left test (end +ℤ leg.pulses) (drop (n + 1) (walked l)))
  pub near : IsNear (n + 1) (end +ℤ leg.pulses)
  pub small : SFits w64 (end +ℤ leg.pulses)
  pub fits : to_z w64 (of_z w64 (end +ℤ leg.pulses)) ≡ end +ℤ leg.pulses

module _ (first : Leg) where
  abbrev of : Option Leg → Option Leg → Legs
  of second third = record { first = first; second = second; third = third }

  few : (second third : Option Leg) → length (walked (of second third)) ≤ 3
  few None None = omega arith
  few None (Some n) = omega arith
  few (Some m) None = omega arith
  few (Some m) (Some n) = omega arith

pub goes : (test : ℤ → ℤ → Bool) (l : Legs) (n : ℕ) (end : ℤ) (leg : Leg) → IsNear n end → (n < length (walked l)) × (leg ≡ get_or (walked l) n leg) → Goes test l n end leg
goes test l n end leg near turn =
    let count : n + 1 ≤ 3 = omega (arith, turn.0, few l.first l.second l.third) in
    let further : IsNear (n + 1) (end +ℤ leg.pulses) = (omega (arith, ints, near.0, near.1, leg.least, leg.most), omega (arith, ints, near.0, near.1, leg.least, leg.most)) in
    let small : SFits w64 (end +ℤ leg.pulses) = omega (arith, ints, further.0, further.1) in
    record {
      left = at_drop_more (any_left test end) (walked l) n leg turn.0 ∙ ap (λ (m : Leg). any_left test end (m ∷ drop (n + 1) (walked l))) (sym turn.1);
      near = further;
      small = small;
      fits = to_z-of_z w64 _ small;
    }
