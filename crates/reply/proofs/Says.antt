-- What the words of a program line's text say.
use Rattle.std.proofs.Common.{◌≡◌, ℕ, suc, ◌-◌, ◌^◌, ◌<◌, ◌≤◌, true, false, eqb, leb, List, ◌∷◌, ◌++◌, length, ℤ, pos, negsuc, neg_ℤ, nat_abs, Some, None, Ok, Option, Result, refl, ap, ◌∙◌, arith}
use Rattle.std.proofs.lemmas.Bool.Decides.{nat_tests}
use Rattle.codes.specs.Program.{code, found}
use Rattle.codes.specs.declared.program.ProgramCode.{ProgramCode}
use Rattle.codes.specs.declared.program.ProgramCode.TheVariants as G
use Rattle.scan.specs.Fields.{kept}
use Rattle.scan.specs.Numbers.{value}
use Rattle.scan.specs.declared.field.Field.TheVariants.{Line, Code, Number, Feed}
use Rattle.words.specs.declared.word.Sign.{Sign}
use Rattle.orders.specs.Meanings.{signed, nothing, meaning}
use Rattle.orders.specs.Lines.{and_then, heard_on}
use Rattle.orders.specs.declared.heard.Heard.{Heard}
use Rattle.orders.specs.declared.fault.WordFault.{WordFault}
use Rattle.reply.specs.Texts.{padded, sign_of}
use Rattle.orders.specs.Widths.{XFits, FeedFits}
use Rattle.reply.proofs.Padding.{padded_value}
use Rattle.reply.proofs.Again.{word, sign_word, code_words, x_words, feed_words}

-- a line of this number, with these fields so far
abbrev pub so_far : ℕ → Option ProgramCode → Option ℤ → Option ℕ → Heard
so_far n g x f = record { line = Some n; fields = record { code = g; x = x; feed = f }; setting = None; host = None }

at_least : (n : ℕ) → 1 ≤ n → leb 1 n ≡ true
at_least n h = grind (arith, nat_tests)

at_most : (n : ℕ) → n ≤ 400 → leb n 400 ≡ true
at_most n h = grind (arith, nat_tests)

module _ (R n p : ℕ) (ds : List ℕ) (some : eqb (length ds) 0 ≡ false) where
  n_says : value (kept Line ds) ≡ n → 1 ≤ n → n ≤ 400 → meaning R true false nothing (word 78 p None ds) ≡ Ok (so_far n None None None)
  n_says v least most = rw (some, v, at_least n least, at_most n most)

  g_says : (c : ProgramCode) → value (kept Code ds) ≡ code c → meaning R true false (so_far n None None None) (word 71 p None ds) ≡ Ok (so_far n (Some c) None None)
  g_says c v = rw (some, v, found c)

  x_says : (g : Option ProgramCode) (x : ℤ) (s : Option Sign) → signed s (value (kept Number ds)) ≡ x → meaning R true false (so_far n g None None) (word 88 p s ds) ≡ Ok (so_far n g (Some x) None)
  x_says g x s v = rw (some, v)

  f_says : (g : Option ProgramCode) (x : Option ℤ) (f : ℕ) → value (kept Feed ds) ≡ f → meaning R true false (so_far n g x None) (word 70 p None ds) ≡ Ok (so_far n g x (Some f))
  f_says g x f v = rw (some, v)

code_small : (c : ProgramCode) → code c < 10 ^ 2
code_small G.Dwell = omega arith
code_small G.Call = omega arith
code_small G.Jump = omega arith
code_small G.Branch = omega arith
code_small G.Await = omega arith
code_small G.OpenLoop = omega arith
code_small G.CloseLoop = omega arith
code_small G.HighSpeed = omega arith
code_small G.LowSpeed = omega arith
code_small G.SetParameter = omega arith
code_small G.EndRun = omega arith
code_small G.Halt = omega arith
code_small G.Return = omega arith
code_small G.SetOutputs = omega arith
code_small G.ReturnToZero = omega arith
code_small G.ZeroCounter = omega arith
code_small G.Absolute = omega arith
code_small G.Incremental = omega arith

module _ (R n m : ℕ) where
  feed_heard : (g : Option ProgramCode) (x : Option ℤ) (f : Option ℕ) → FeedFits f → heard_on R true false (so_far n g x None) (feed_words m f) ≡ Ok (so_far n g x f)
  feed_heard g x None h = refl
  feed_heard g x (Some f) h = ap (λ (r : Result Heard WordFault). and_then r (λ k. Ok k)) (f_says R n (m - length (padded 7 f)) (padded 7 f) refl g x f (padded_value 7 f h))

  x_value : (x : ℤ) → nat_abs x < 10 ^ 8 → signed (sign_word x) (value (kept Number (padded 8 (nat_abs x)))) ≡ x
  x_value (pos v) h = ap pos (padded_value 8 v h)
  x_value (negsuc v) h = ap (λ k. neg_ℤ (pos k)) (padded_value 8 (suc v) h)

  x_heard : (g : Option ProgramCode) (x : Option ℤ) (f : Option ℕ) (rest : List ℕ) → XFits x → FeedFits f
      → heard_on R true false (so_far n g None None) (x_words m x rest ++ feed_words m f) ≡ Ok (so_far n g x f)
  x_heard g None f rest h i = feed_heard g None f i
  x_heard g (Some x) f rest h i =
      ap (λ (r : Result Heard WordFault). and_then r (λ k. heard_on R true false k (feed_words m f))) (x_says R n (m - length (sign_of x ∷ (padded 8 (nat_abs x) ++ 32 ∷ rest))) (padded 8 (nat_abs x)) refl g x (sign_word x) (x_value x h))
      ∙ feed_heard g (Some x) f i

  code_heard : (g : Option ProgramCode) (x : Option ℤ) (f : Option ℕ) (rest last : List ℕ) → XFits x → FeedFits f
      → heard_on R true false (so_far n None None None) (code_words m g rest ++ (x_words m x last ++ feed_words m f)) ≡ Ok (so_far n g x f)
  code_heard None x f rest last h i = x_heard None x f last h i
  code_heard (Some c) x f rest last h i =
      ap (λ (r : Result Heard WordFault). and_then r (λ k. heard_on R true false k (x_words m x last ++ feed_words m f)))
      (g_says R n (m - length (padded 2 (code c) ++ 32 ∷ rest)) (padded 2 (code c)) refl c (padded_value 2 (code c) (code_small c)))
      ∙ x_heard (Some c) x f last h i

  pub line_heard : (p : ℕ) (g : Option ProgramCode) (x : Option ℤ) (f : Option ℕ) (rest last : List ℕ) → 1 ≤ n → n ≤ 400 → XFits x → FeedFits f
      → heard_on R true false nothing (word 78 p None (padded 3 n) ∷ (code_words m g rest ++ (x_words m x last ++ feed_words m f))) ≡ Ok (so_far n g x f)
  line_heard p g x f rest last least most h i =
      ap (λ (r : Result Heard WordFault). and_then r (λ k. heard_on R true false k (code_words m g rest ++ (x_words m x last ++ feed_words m f))))
      (n_says R n p (padded 3 n) refl (padded_value 3 n (omega arith)) least most)
      ∙ code_heard g x f rest last h i
