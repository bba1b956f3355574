-- Fields that a line orders to be stored are in their widths.
use Rattle.std.proofs.Common.{◌≡◌, ℕ, zero, suc, ◌^◌, ◌<◌, Bool, true, false, cond, eqb, ltb, List, [], ◌∷◌, length, get_or, drop, nat_abs, Some, None, Ok, Err, Option, Result, sym, refl, subst}
use Rattle.codes.specs.declared.host.HostCode.{HostCode}
use Rattle.scan.specs.Numbers.{digits, value}
use Rattle.scan.specs.Fields.{kept}
use Rattle.scan.specs.Runs.{past}
use Rattle.scan.specs.declared.field.Field.TheVariants.{Number, Feed}
use Rattle.scan.proofs.Few.{few, span_digits}
use Rattle.words.specs.Bytes.{blank, letter}
use Rattle.words.specs.Words.{Spelled, digits_at, word_of, behind}
use Rattle.words.specs.Reading.{opening, body, place_in}
use Rattle.words.specs.Checking.{first_bad}
use Rattle.words.specs.Listing.{listed, words}
use Rattle.words.specs.declared.word.Sign.{Sign}
use Rattle.words.specs.declared.word.Sign.TheVariants.{Plus, Minus}
use Rattle.orders.specs.Meanings.{is_x, is_f, signed, number, feed, any_field, missing, foreign, unnamed, outside, hear, nothing, meaning}
use Rattle.orders.specs.Lines.{named, and_then, heard_on, heard_of}
use Rattle.orders.specs.Orders.{stored, done, set_or_done, order, asked, transfer, unless_bad, alone, of_words, of_transfer, reading}
use Rattle.orders.specs.Widths.{XFits, FeedFits, InWidths, Narrow}
use Rattle.orders.specs.declared.heard.Fields.{Fields}
use Rattle.orders.specs.declared.heard.Heard.{Heard}
use Rattle.orders.specs.declared.heard.Setting.{Setting}
use Rattle.orders.specs.declared.order.Order.{Order}
use Rattle.orders.specs.declared.order.Order.TheVariants.{Clear, Hold, Stop, Store, Point}
use Rattle.orders.specs.declared.fault.WordFault.{WordFault}
use Rattle.orders.specs.declared.fault.WordFault.TheVariants.{Byte}
use Rattle.words.specs.declared.word.ByteFault.TheVariants.{TooLong, Blank}
use Rattle.orders.proofs.Outcomes.{judged}

-- the digits of every word are digits
abbrev AllDigits : List Spelled → Type 0
AllDigits [] = Unit {0}
AllDigits (w ∷ ws) = (digits w.digits ≡ true) × AllDigits ws

choose : {A : Type 0} (P : A → Type 0) (k : Bool) (x y : A) → P x → P y → P (cond k x y)
choose P true x y p q = p
choose P false x y p q = q

listed_digits : (k n : ℕ) (bs : List ℕ) → AllDigits (listed k n bs)
listed_digits zero n bs = tt
listed_digits (suc k) n bs =
    choose AllDigits (eqb (length (past blank bs)) 0) [] _ tt
    (choose AllDigits (letter (opening bs)) (word_of (place_in n bs) (opening bs) (body bs) ∷ listed k n (behind (opening bs) (body bs))) []
    (span_digits (digits_at (opening bs) (body bs)), listed_digits k n (behind (opening bs) (body bs))) tt)

size : (s : Option Sign) (n : ℕ) → nat_abs (signed s n) ≡ n
size None n = refl
size (Some Plus) n = refl
size (Some Minus) zero = refl
size (Some Minus) (suc n) = refl

-- a word keeps the fields in their widths
abbrev Kept : Heard → Type 0
Kept h = InWidths h.fields

hear_kept : (h : Heard) (w : Spelled) → digits w.digits ≡ true → Kept h → Kept (hear h w)
hear_kept h w all is = (
  choose XFits (is_x w) (Some (number w)) h.fields.x
      (subst (λ m. m < 10 ^ 8) (sym (size w.sign (value (kept Number w.digits)))) (few Number w.digits all)) is.0,
  choose FeedFits (is_f w) (Some (feed w)) h.fields.feed (few Feed w.digits all) is.1,
)

abbrev AllKept : Result Heard WordFault → Type 0
AllKept (Ok h) = Kept h
AllKept (Err e) = Unit {0}

judged_kept : (a b c d : Bool) (g : Heard) (p : ℕ) → Kept g → AllKept (judged a b c d g p)
judged_kept true b c d g p is = tt
judged_kept false true c d g p is = tt
judged_kept false false true d g p is = tt
judged_kept false false false true g p is = tt
judged_kept false false false false g p is = is

then_kept : (m : Result Heard WordFault) (f : Heard → Result Heard WordFault) → AllKept m → ((g : Heard) → Kept g → AllKept (f g)) → AllKept (and_then m f)
then_kept (Ok g) f is on = on g is
then_kept (Err e) f is on = tt

heard_kept : (R : ℕ) (line bang : Bool) (h : Heard) (ws : List Spelled) → AllDigits ws → Kept h → AllKept (heard_on R line bang h ws)
heard_kept R line bang h [] all is = is
heard_kept R line bang h (w ∷ ws) all is =
    then_kept (meaning R line bang h w) (λ g. heard_on R line bang g ws)
    (judged_kept (missing w) (foreign line h w) (unnamed bang w) (outside R w) (hear h w) w.place (hear_kept h w all.0 is))
    (λ g k. heard_kept R line bang g ws all.1 k)

-- and so does the order that is made of them
stored_narrow : (l : Option ℕ) (f : Fields) → InWidths f → Narrow (Ok (stored l f))
stored_narrow None f is = is
stored_narrow (Some n) f is = choose (λ (o : Order). Narrow (Ok o)) (any_field f) (Store (Some n) f) (Point n) is tt

done_narrow : (c : Option HostCode) (l : Option ℕ) (f : Fields) → InWidths f → Narrow (Ok (done c l f))
done_narrow (Some c) l f is = tt
done_narrow None l f is = stored_narrow l f is

order_narrow : (s : Option Setting) (h : Heard) → Kept h → Narrow (Ok (set_or_done s h))
order_narrow (Some s) h is = tt
order_narrow None h is = done_narrow h.host h.line h.fields is

ordered : (m : Result Heard WordFault) → AllKept m → Narrow (and_then m (λ h. Ok (order h)))
ordered (Ok h) is = order_narrow h.setting h is
ordered (Err e) is = tt

asked_narrow : (c : Option HostCode) → Narrow (asked c)
asked_narrow (Some c) = tt
asked_narrow None = tt

transferred : (m : Result Heard WordFault) → Narrow (and_then m transfer)
transferred (Ok h) = asked_narrow h.host
transferred (Err e) = tt

unless_narrow : (o : Option ℕ) (r : Result Order WordFault) → Narrow r → Narrow (unless_bad o r)
unless_narrow None r is = is
unless_narrow (Some p) r is = tt

pub narrow : (R : ℕ) (bs : List ℕ) → Narrow (reading R bs)
narrow R bs =
    let n = length bs in
    choose Narrow (ltb 80 n) (Err (Byte TooLong)) _ tt
    (choose Narrow (eqb (length (past blank bs)) 0) (Err (Byte Blank)) _ tt
    (choose Narrow (alone 42 bs) (Ok Clear) _ tt
    (choose Narrow (alone 36 bs) (Ok Hold) _ tt
    (choose Narrow (alone 35 bs) (Ok Stop) _ tt
    (choose Narrow (eqb (get_or bs 0 0) 33) (of_transfer R n (drop 1 bs)) (of_words R n bs)
    (unless_narrow (first_bad (length (drop 1 bs)) n (drop 1 bs)) (and_then (heard_of R true (words n (drop 1 bs))) transfer) (transferred (heard_of R true (words n (drop 1 bs)))))
    (unless_narrow (first_bad (length bs) n bs) (and_then (heard_of R false (words n bs)) (λ h. Ok (order h)))
    (ordered (heard_of R false (words n bs)) (heard_kept R (named (words n bs)) false nothing (words n bs) (listed_digits (length bs) n bs) (tt, tt)))))))))
