use Rattle.std.proofs.Common.{◌≡◌, ◌∙◌, true, w32, subst, sym, to_z, of_z}
use Rattle.settings.specs.Parameters.{fits}
use Rattle.settings.specs.declared.parameter.Parameter.TheVariants.{RunFormat}
use Rattle.settings.proofs.Formats.{no_other}
use Rattle.settings.proofs.values.Settings.set.Goals as goal

-- the number was taken, so it is that of a format
pub returns-in_err-self-in-RunFormat-clause-taken : goal.returns-in_err-self-in-RunFormat-clause-taken
returns-in_err-self-in-RunFormat-clause-taken c =
    let number = to_z w32 (of_z w32 c.args.number) in
    let taken : fits c.args.self.now.resolution RunFormat number ≡ true = subst (λ p. fits c.args.self.now.resolution p number ≡ true) c.in-RunFormat.is (sym c.takes.ensures ∙ c.if-not-takes.false) in
    absurd (no_other c.args.self.now.resolution number taken c.in_err-self-in-RunFormat.ensures)
