use Rattle.std.proofs.Common.{sym, ap, ◌∙◌}
use Rattle.std.proofs.lemmas.List.{set_past}
use Rattle.site.specs.Tables.{replaced}
use Rattle.site.proofs.table.replace.Goals as goal

pub returns-else-i-table : goal.returns-else-i-table
returns-else-i-table g c =
    sym (set_past c.args.table.now c.in-Some.i c.args.x c.if-i-table.false)
    ∙ ap (λ place. replaced c.args.table.now place c.args.x) (sym c.in-Some.is)
