-- What rows of pulses come to.
use Rattle.std.proofs.Common.{◌≡◌, ℕ, ◌<◌, Bool, true, false, ℤ, pos, ◌+ℤ◌, ◌*ℤ◌, ◌≤ℤ◌, ap, ◌∙◌, arith}
use Rattle.std.proofs.lemmas.Int.{ints}
use Rattle.axis.specs.Steps.{step, opposite}
use Rattle.axis.specs.Pulses.{takes}
use Rattle.axis.specs.Stands.{Stand, moved, reach, along, taken}
use Rattle.axis.specs.declared.direction.Direction.{Direction}
use Rattle.axis.specs.declared.direction.Direction.TheVariants.{Clockwise, Counterclockwise}

-- s is where a row of pulses began, t where it stands after k of n: a pulse is refused there only at the end of that way, or with the windings off
pub refused_at : (way : Direction) (n k : ℕ) (s t : Stand) → k < n → (s.powered ≡ false → k ≡ 0) → t.place ≡ s.place +ℤ pos k *ℤ step way → t.low ≡ s.low → t.high ≡ s.high
    → t.powered ≡ s.powered → t.low ≤ℤ t.place → t.place ≤ℤ t.high → false ≡ taken way t → pos k ≡ reach way n s
refused_at way n k s t few none place low high powered least most refused =
    let e : false ≡ takes s.powered s.low s.high (s.place +ℤ pos k *ℤ step way) way = rw (← place, ← low, ← high, ← powered) refused in
    by_power s.powered way s.low s.high s.place n k few none (rw (← place, ← low) least) (rw (← place, ← high) most) e
  where
    by_power : (on : Bool) (way : Direction) (lo hi z : ℤ) (n k : ℕ) → k < n → (on ≡ false → k ≡ 0) → lo ≤ℤ (z +ℤ pos k *ℤ step way) → (z +ℤ pos k *ℤ step way) ≤ℤ hi
        → false ≡ takes on lo hi (z +ℤ pos k *ℤ step way) way → pos k ≡ reach way n (record { place = z; low = lo; high = hi; powered = on })
    by_power true Clockwise lo hi z n k few none least most refused = grind (arith, ints)
    by_power true Counterclockwise lo hi z n k few none least most refused = grind (arith, ints)
    by_power false way lo hi z n k few none least most refused = grind arith

-- as many back as were taken out are all taken
all_back : (on : Bool) (way : Direction) (lo hi z : ℤ) (n k b : ℕ) → lo ≤ℤ z → z ≤ℤ hi → pos k ≡ reach way n (record { place = z; low = lo; high = hi; powered = on })
    → pos b ≡ reach (opposite way) k (record { place = z +ℤ pos k *ℤ step way; low = lo; high = hi; powered = on }) → b ≡ k
all_back true Clockwise lo hi z n k b least most out back = grind (arith, ints)
all_back true Counterclockwise lo hi z n k b least most out back = grind (arith, ints)
all_back false way lo hi z n k b least most out back = cc

there_and_back : (way : Direction) (z : ℤ) (k : ℕ) → (z +ℤ pos k *ℤ step way) +ℤ pos k *ℤ step (opposite way) ≡ z
there_and_back Clockwise z k = omega (arith, ints)
there_and_back Counterclockwise z k = omega (arith, ints)

-- s is where it stood, t where it stood after the way out, u after the way back
pub back_home : (way back : Direction) (n k b : ℕ) (s t u : Stand) → s.low ≤ℤ s.place → s.place ≤ℤ s.high → pos k ≡ reach way n s
    → t ≡ along way k s → pos b ≡ reach back k t → u ≡ along back b t → back ≡ opposite way → u ≡ s
back_home way back n k b s t u least most out at counted there turned =
    let all : b ≡ k = all_back s.powered way s.low s.high s.place n k b least most out (rw (at, turned) at counted) in
    there ∙ rw (at, all, turned) (ap (moved s) (there_and_back way s.place k))
