use Rattle.std.proofs.Common.{ap, ◌∙◌}
use Rattle.script.specs.Forms.{wants, line_parsed}
use Rattle.script.proofs.Keeping.{parsed_kept}
use Rattle.script.proofs.line.told_gathered.Goals as goal

pub returns-clause-whole : goal.returns-clause-whole
returns-clause-whole g c =
    let form = wants g.T.Word.Field.told g.T.ScriptLine.fields_after in
    λ whole is. c.told.ensures ∙ ap (line_parsed form) (c.line.ensures ∙ is) ∙ parsed_kept form whole
