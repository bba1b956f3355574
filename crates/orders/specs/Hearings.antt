-- Words heard one after the other: what is left says the rest.
use Rattle.std.specs.Prelude.{◌≡◌, ℕ, suc, ◌<◌, Bool, true, false, List, length, Ok, Err, Result}
use Rattle.words.specs.Listing.{listed, words}
use Rattle.orders.specs.Meanings.{nothing}
use Rattle.orders.specs.Lines.{named, heard_on}
use Rattle.orders.specs.declared.heard.Heard.{Heard}
use Rattle.orders.specs.declared.hearing.Hearing.{Hearing}
use Rattle.orders.specs.declared.fault.WordFault.{WordFault}

pub record Begins (bs : List ℕ) (n : ℕ) (bang : Bool) (h : Hearing) : Type 0 where
  pub rest : h.reader.rest.now ≡ bs
  pub length : h.reader.length ≡ n
  pub line : h.named ≡ named (words n bs)
  pub behind : h.bang ≡ bang
  pub silent : h.heard ≡ nothing

-- all that is heard, with what was: k words more at most
abbrev pub in_all : ℕ → ℕ → Hearing → Result Heard WordFault
in_all R k h = heard_on R h.named h.bang h.heard (listed k h.reader.length h.reader.rest.now)

-- one word was heard, so that less is left, or there was none, or something was wrong with it
abbrev pub Hears : ℕ → Hearing → Hearing → Result Bool WordFault → Type 0
Hears R before after (Ok true) =
    (length after.reader.rest.now < length before.reader.rest.now) × ((k : ℕ) → in_all R k after ≡ in_all R (suc k) before)
Hears R before after (Ok false) = (after.heard ≡ before.heard) × ((k : ℕ) → in_all R k before ≡ Ok before.heard)
Hears R before after (Err e) = (k : ℕ) → in_all R (suc k) before ≡ Err e
