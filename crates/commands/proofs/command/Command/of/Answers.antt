use Rattle.std.proofs.Common.{◌≤◌, length, ap, ◌∙◌, subst}
use Rattle.commands.specs.Commands.{command_form}
use Rattle.commands.proofs.Back.{back}
use Rattle.commands.proofs.command.Command.of.Goals as goal

pub returns-clause-back : goal.returns-clause-back
returns-clause-back g c =
    let told = g.V.Field.told in
    let value = g.V.FieldValue in
    let laws = g.met.V.FieldValue in
    λ command fits is short.
    c.told.ensures ∙ ap (command_form told) is
    ∙ back told value.text value.fits (λ v fits. (laws.back v fits).0) (λ v fits. (laws.back v fits).1) command fits (subst (λ line. length line ≤ 80) is short)
