-- A programmed line, sent and sent back, is the same line.
use Rattle.std.proofs.Common.{◌≡◌, ℕ, Bool, true, false, cond, List, [], ◌∷◌, length, ℤ, Some, None, Ok, Option, Result, sym, refl, ap, ◌∙◌, arith}
use Rattle.codes.specs.declared.program.ProgramCode.{ProgramCode}
use Rattle.words.specs.Words.{Spelled}
use Rattle.words.specs.Checking.{first_bad}
use Rattle.words.specs.Listing.{listed}
use Rattle.orders.specs.Meanings.{any_field}
use Rattle.orders.specs.Lines.{and_then, heard_of}
use Rattle.orders.specs.Orders.{order, unless_bad, reading}
use Rattle.orders.specs.declared.heard.Fields.{Fields}
use Rattle.orders.specs.declared.heard.Heard.{Heard}
use Rattle.orders.specs.declared.order.Order.{Order}
use Rattle.orders.specs.declared.order.Order.TheVariants.{Store, Point}
use Rattle.orders.specs.declared.fault.WordFault.{WordFault}
use Rattle.orders.proofs.ByKind.{in_words}
use Rattle.reply.specs.Texts.{line_text}
use Rattle.program.specs.Memories.{judged, stored}
use Rattle.program.specs.declared.fault.OrderFault.{OrderFault}
use Rattle.program.proofs.Takes.{in_full}
use Rattle.reply.specs.RoundTrips.{Sendable, RoundTrip}
use Rattle.reply.proofs.Again.{line_reads}
use Rattle.reply.proofs.Says.{line_heard}

text_length : (n : ℕ) (g : Option ProgramCode) (x : Option ℤ) (f : Option ℕ) → length (line_text n (record { code = g; x = x; feed = f })) ≡ 28
text_length n None None None = refl
text_length n None None (Some f) = refl
text_length n None (Some x) None = refl
text_length n None (Some x) (Some f) = refl
text_length n (Some g) None None = refl
text_length n (Some g) None (Some f) = refl
text_length n (Some g) (Some x) None = refl
text_length n (Some g) (Some x) (Some f) = refl

-- with a field it is stored, and does not only set the pointer
storing : (k : Bool) (n : ℕ) (f : Fields) → k ≡ true → cond k (Store (Some n) f) (Point n) ≡ Store (Some n) f
storing k n f e = ap (λ b. cond b (Store (Some n) f) (Point n)) e

read_again : (n : ℕ) (f : Fields) → Sendable n f → (R : ℕ) → reading R (line_text n f) ≡ Ok (Store (Some n) f)
read_again n f is R =
    let bs = line_text n f in
    let len : length bs ≡ 28 = text_length n f.code f.x f.feed in
    let alone : (b : ℕ) → bs ≡ b ∷ [] → ⊥ = (λ b e. let one : length bs ≡ 1 = ap length e in omega arith) in
    let read = line_reads 24 28 n f.code f.x f.feed in
    let said = line_heard R n 28 _ f.code f.x f.feed _ _ is.least is.most is.widths.0 is.widths.1 in
    sym (in_words R bs (omega arith, omega arith) (λ e. omega arith) (alone 42) (alone 36) (alone 35))
    ∙ ap (λ k. unless_bad (first_bad k k bs) (and_then (heard_of R false (listed k k bs)) (λ h. Ok (order h)))) len
    ∙ ap (λ (o : Option ℕ). unless_bad o (and_then (heard_of R false (listed 28 28 bs)) (λ h. Ok (order h)))) read.good
    ∙ ap (λ (ws : List Spelled). and_then (heard_of R false ws) (λ h. Ok (order h))) read.words
    ∙ ap (λ (r : Result Heard WordFault). and_then r (λ h. Ok (order h))) said
    ∙ ap Ok (storing (any_field f) n f is.programmed)

pub round_trip : (n : ℕ) (f : Fields) → Sendable n f → RoundTrip n f
round_trip n f is = record {
  reads = read_again n f is;
  stores = λ R p lines full.
      ap (λ (r : Result Order OrderFault). stored r p lines)
      (in_full R false lines (line_text n f) full ∙ ap (judged false) (read_again n f is R));
}
