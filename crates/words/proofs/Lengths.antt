-- What stands behind a word is shorter.
use Rattle.std.proofs.Common.{◌≡◌, ℕ, ◌<◌, ◌≤◌, Bool, true, false, cond, eqb, List, length, drop, ap, le_trans, le_refl, arith, length-drop}
use Rattle.scan.specs.Numbers.{digit}
use Rattle.scan.specs.Runs.{run, past}
use Rattle.words.specs.Bytes.{blank}
use Rattle.words.specs.Words.{after_sign, takes_sign, number_at, digits_at, behind}
use Rattle.words.specs.Reading.{opening, body}

pub shorter : (kind : ℕ → Bool) (xs : List ℕ) → length (past kind xs) ≤ length xs
shorter kind xs = omega (arith, length-drop (run kind xs) xs)

either : (k : Bool) (m : ℕ) (xs ys : List ℕ) → length xs ≤ m → length ys ≤ m → length (cond k xs ys) ≤ m
either true m xs ys h l = h
either false m xs ys h l = l

number_shorter : (c : ℕ) (xs : List ℕ) → length (number_at c xs) ≤ length xs
number_shorter c xs = either (eqb c 76) (length xs) (past blank (past digit xs)) xs (le_trans (shorter blank (past digit xs)) (shorter digit xs)) (le_refl (length xs))

sign_shorter : (xs : List ℕ) → length (after_sign xs) ≤ length xs
sign_shorter xs = either _ (length xs) (drop 1 xs) xs (omega (arith, length-drop 1 xs)) (le_refl (length xs))

digits_shorter : (c : ℕ) (xs : List ℕ) → length (digits_at c xs) ≤ length xs
digits_shorter c xs =
    either (takes_sign c) (length xs) (after_sign (number_at c xs)) (number_at c xs) (le_trans (sign_shorter (number_at c xs)) (number_shorter c xs)) (number_shorter c xs)

pub behind_shorter : (c : ℕ) (xs : List ℕ) → length (behind c xs) ≤ length xs
behind_shorter c xs = le_trans (shorter digit (digits_at c xs)) (digits_shorter c xs)

-- a word takes its letter at least
pub word_taken : (bs after : List ℕ) → 0 < length (past blank bs) → after ≡ behind (opening bs) (body bs) → length after < length bs
word_taken bs after some e =
    let l : length after ≡ length (behind (opening bs) (body bs)) = ap length e in
    omega (arith, l, behind_shorter (opening bs) (body bs), length-drop 1 (past blank bs), shorter blank bs)
