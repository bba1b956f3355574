-- What a fence does to the test of a pulse and to the ends.
use Rattle.std.proofs.Common.{◌≡◌, ℕ, Bool, ◌&&◌, ℤ, pos, ◌+ℤ◌, ◌-ℤ◌, neg_ℤ, arith}
use Rattle.std.specs.Int.Signed.{le_z}
use Rattle.std.proofs.lemmas.Int.{ints}
use Rattle.axis.specs.Pulses.{takes, within}
use Rattle.axis.specs.Steps.{step}
use Rattle.axis.specs.declared.direction.Direction.{Direction}
use Rattle.layers.specs.Fences.{low_end, high_end}

low_test : (low place net s : ℤ) (down : ℕ) → le_z (low_end low place net down) (place +ℤ s) ≡ (le_z (neg_ℤ (pos down)) (net +ℤ s) && le_z low (place +ℤ s))
low_test low place net s down = grind (arith, ints)

high_test : (high place net s : ℤ) (up : ℕ) → le_z (place +ℤ s) (high_end high place net up) ≡ (le_z (net +ℤ s) (pos up) && le_z (place +ℤ s) high)
high_test high place net s up = grind (arith, ints)

regroup : (on a b c d : Bool) → (on && ((a && b) && (c && d))) ≡ ((a && c) && (on && (b && d)))
regroup on a b c d = grind arith

-- a pulse is taken where the span allows it and the axis below takes it
pub fenced : (on : Bool) (low high place net : ℤ) (down up : ℕ) (way : Direction)
    → takes on (low_end low place net down) (high_end high place net up) place way ≡ (within (neg_ℤ (pos down)) (pos up) (net +ℤ step way) && takes on low high place way)
fenced on low high place net down up way =
    rw (low_test low place net (step way) down, high_test high place net (step way) up)
    (regroup on (le_z (neg_ℤ (pos down)) (net +ℤ step way)) (le_z low (place +ℤ step way)) (le_z (net +ℤ step way) (pos up)) (le_z (place +ℤ step way) high))

-- place and net count move together, so the ends stay
pub same_base : (p n s : ℤ) → (p +ℤ s) -ℤ (n +ℤ s) ≡ p -ℤ n
same_base p n s = omega (arith, ints)
