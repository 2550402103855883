use Rattle.std.proofs.Common.{◌++◌, map, is_some, Some, filter, sym, ap, ◌∙◌}
use Rattle.knowledge.specs.Knowledge.{seen}
use Rattle.knowledge.specs.Versions.{written, version_of, opening_version, opening_versions, highest}
use Rattle.knowledge.proofs.Lines.{none_written, taken_best}
use Rattle.knowledge.proofs.view.View.highest.Goals as goal

pub returns-in_err-card : goal.returns-in_err-card
returns-in_err-card g c =
    let site = seen c.args.self.now in
    let absent = c.in_err-card.ensures in
    let none = none_written site c.args.number (ap is_some (sym absent)) c.args.settled site.lines in
    c.from_residual.ensures ∙ ap (λ ls. highest (map version_of ls)) (sym none) ∙ ap (λ o. highest (opening_versions o ++ map version_of (filter (written site c.args.settled c.args.number) site.lines))) absent

pub returns : goal.returns
returns g c =
    let site = seen c.args.self.now in
    ap Some (c.best_from.ensures ∙ taken_best site c.args.settled c.args.number (opening_version c.in_ok-card.card) site.lines)
    ∙ ap (λ o. highest (opening_versions o ++ map version_of (filter (written site c.args.settled c.args.number) site.lines))) c.in_ok-card.ensures
