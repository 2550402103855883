use Rattle.std.proofs.Common.{ap, ◌∙◌}
use Rattle.site.specs.Lines.{goes_to}
use Rattle.site.proofs.lines.target_mask.Goals as goal

pub returns-in-Some : goal.returns-in-Some
returns-in-Some g c s h = c.line_mask.ensures s h ∙ ap (λ card. goes_to c.args.origin c.args.line.now.mode card s) c.in-Some.ensures
