-- A number that is in the range of run formats is the number of one.
use Rattle.std.proofs.Common.{◌≡◌, ◌≢◌, true, ℤ, arith}
use Rattle.std.proofs.lemmas.Int.{ints}
use Rattle.settings.specs.Parameters.{fits}
use Rattle.settings.specs.Values.{format_number}
use Rattle.settings.specs.declared.parameter.RunFormat.{RunFormat as Format}
use Rattle.settings.specs.declared.parameter.RunFormat.TheVariants.{SingleLine, Counted, Endless}
use Rattle.settings.specs.declared.parameter.Parameter.TheVariants.{RunFormat}

pub no_other : (resolution : _) (n : ℤ) → fits resolution RunFormat n ≡ true → ((format : Format) → format_number format ≢ n) → ⊥
no_other resolution n within none =
    let not_one = none SingleLine in
    let not_two = none Counted in
    let not_three = none Endless in
    grind (arith, ints)
