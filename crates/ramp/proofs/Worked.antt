-- The laws of ramps, and the worked cases.
use Rattle.std.proofs.Common.{◌≡◌, ℕ, suc, ◌+◌, ◌*◌, ◌≤◌, min, Bool, true, false, cond, ltb, List, ◌∷◌, sym, refl, ap, ◌∙◌, le_refl, mul-le-mul, arith}
use Rattle.std.proofs.lemmas.Bool.Decides.{nat_tests}
use Rattle.ramp.specs.Roots.{root}
use Rattle.ramp.specs.Rates.{rate_at, reached, lift, in_range}
use Rattle.ramp.specs.Levels.{going, going_on}
use Rattle.ramp.specs.Laws.{RateLaws, LevelLaws, WorkedCases}
use Rattle.ramp.specs.declared.mode.SpeedMode.{SpeedMode}
use Rattle.ramp.specs.declared.mode.SpeedMode.TheVariants.{Low, High}
use Rattle.ramp.proofs.Squares.{below_root, root_low, root_high, root_is}
use Rattle.ramp.proofs.Climbs.{root_some, reached_some}
use Rattle.ramp.proofs.Profiles.{fading_count}

root_mono : (a b : ℕ) → a ≤ b → root a ≤ root b
root_mono a b h = below_root (root a) (root b) b (omega (arith, root_low a)) (root_high b)

reached_mono : (L A s t : ℕ) → s ≤ t → reached L A s ≤ reached L A t
reached_mono L A s t h =
    let m : 2 * A * (s + lift L) ≤ 2 * A * (t + lift L) = mul-le-mul {n₁ = 2 * A} {m₁ = s + lift L} {n₂ = 2 * A} {m₂ = t + lift L} (le_refl _) (omega arith) in omega arith

some_of : (b : Bool) (V r : ℕ) → 1 ≤ V → 1 ≤ r → 1 ≤ cond b (min V r) V
some_of true V r v h = omega arith
some_of false V r v h = v

capped_of : (b : Bool) (V r : ℕ) → cond b (min V r) V ≤ V
capped_of true V r = omega arith
capped_of false V r = le_refl V

rises_of : (b : Bool) (V r q : ℕ) → r ≤ q → cond b (min V r) V ≤ cond b (min V q) V
rises_of true V r q h = omega arith
rises_of false V r q h = le_refl V

some_rate : (m : SpeedMode) (L A V s : ℕ) → in_range m L A V ≡ true → 1 ≤ rate_at m L A V s
some_rate Low L A V s h = grind (arith, nat_tests)
some_rate High L A V s h =
    let v : 1 ≤ V = grind (arith, nat_tests) in
    let a : 1 ≤ A = grind (arith, nat_tests) in
    some_of (ltb L V) V _ v (root_some (reached L A s) (reached_some L A s a))

rising : (m : SpeedMode) (L A V s t : ℕ) → s ≤ t → rate_at m L A V s ≤ rate_at m L A V t
rising Low L A V s t h = le_refl L
rising High L A V s t h = rises_of (ltb L V) V _ _ (root_mono _ _ (reached_mono L A s t h))

pub rate_laws : RateLaws
rate_laws = record { some = some_rate; capped = λ L A V s. capped_of (ltb L V) V _; rises = rising }

pub level_laws : LevelLaws
level_laws =
    record {
      below_left = λ C p r h. omega arith;
      under_ceiling = λ C p r. omega arith;
      up_one = λ C p r. omega arith;
      down_one = λ C p r c h. omega arith;
      last = λ C p. omega arith;
      fading_count = fading_count;
    }

-- one level of a row, and the rest
row : (C p n v : ℕ) (rest : List ℕ) → going C p (suc n) ≡ v → going_on C v n ≡ rest → going_on C p (suc n) ≡ v ∷ rest
row C p n v rest e r = ap (λ x. x ∷ going_on C x n) e ∙ ap (λ x. v ∷ x) r

pub worked_cases : WorkedCases
worked_cases =
    record {
      ceiling = refl;
      first = ap (min 1000) (sym (root_is 90000 300 (omega arith) (omega arith)));
      second = ap (min 1000) (sym (root_is 92000 303 (omega arith) (omega arith)));
      top = ap (min 1000) (sym (root_is 1000000 1000 (omega arith) (omega arith)));
      wait = refl;
      standstill = ap (min 1000) (sym (root_is 2000 44 (omega arith) (omega arith)));
      five = λ C h. ap (λ x. 0 ∷ x) (row C 0 3 1 _ (omega arith) (row C 1 2 2 _ (omega arith) (row C 2 1 1 _ (omega arith) (row C 1 0 0 _ (omega arith) refl))));
      four = λ C h. ap (λ x. 0 ∷ x) (row C 0 2 1 _ (omega arith) (row C 1 1 1 _ (omega arith) (row C 1 0 0 _ (omega arith) refl)));
      two = λ C. ap (λ x. 0 ∷ x) (row C 0 0 0 _ (omega arith) refl);
    }
