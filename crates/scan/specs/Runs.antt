-- Runs of bytes of one kind at the front of a list.
use Rattle.std.specs.Prelude.{ℕ, Bool, List, take, drop}
use Rattle.std.specs.List.{prefix_len}

-- how many bytes of a kind stand at the front
abbrev pub run : (ℕ → Bool) → List ℕ → ℕ
run kind bs = prefix_len kind bs

-- those bytes, and what stands behind them
abbrev pub span : (ℕ → Bool) → List ℕ → List ℕ
span kind bs = take (run kind bs) bs

abbrev pub past : (ℕ → Bool) → List ℕ → List ℕ
past kind bs = drop (run kind bs) bs
