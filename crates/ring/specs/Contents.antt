-- A ring as the list of what it holds, the oldest first.
use Rattle.std.specs.Prelude.{ℕ, List, ◌++◌, length, take, drop}
use Rattle.ring.specs.declared.Ring.{Ring}

-- the n elements from the place s on, where the first place follows the last
abbrev pub contents : {X : Type 0} → List X → ℕ → ℕ → List X
contents xs s n = take n (drop s (xs ++ xs))

abbrev pub held : {X : Type 0} → Ring X → List X
held r = contents r.cells.now r.start r.len

-- how many elements there is memory for
abbrev pub room : {X : Type 0} → Ring X → ℕ
room r = length r.cells.now
