-- What flickers is not accepted.
use Rattle.std.proofs.Common.{◌≡◌, Bool, true, cond, ◌&&◌, ◌||◌, [], ◌∷◌, refl, ap, ◌∙◌, arith}
use Rattle.std.proofs.lemmas.Bool.{and_parts}
use Rattle.std.proofs.lemmas.Grind.{common_steps}
use mathlib.Core.Bool.{beq}
use Rattle.inputs.specs.Contacts.{sampled, flickers, FlickerLaw}
use Rattle.inputs.specs.declared.contact.Contact.{Contact}

-- one of three has the value
stays : (a x y b : Bool) → (beq x a || (beq y a || beq b a)) ≡ true → cond (beq b y && beq b x) b a ≡ a
stays a x y b h = grind (arith, common_steps)

pub flicker_law : (c : Contact) → FlickerLaw c
flicker_law c [] h = refl
flicker_law c (b ∷ bs) h =
    let a = c.accepted in
    let parts = and_parts _ _ h in
    let here : (sampled c b).accepted ≡ a = stays a c.before c.last b parts.0 in
    let later : flickers (sampled c b).accepted c.last b bs ≡ true = ap (λ v. flickers v c.last b bs) here ∙ parts.1 in
    flicker_law (sampled c b) bs later ∙ here
