use Rattle.std.proofs.Common.{ℕ, map, ap, ◌∙◌, rules, ◌==◌}
use Rattle.records.specs.declared.transaction.Entry.{Entry}
use Rattle.delivering.specs.Marks.{entry_marked}
use Rattle.delivering.proofs.Marking.{marked_numbered}
use Rattle.delivering.proofs.marks.mark_entries.Goals as goal

pub returns : goal.returns
returns g c =
    let h = λ (p : Entry g.row.V.Denot × ℕ). entry_marked c.args.kind (c.args.number == p.1) p.0 in
    c.map.ensures h (search rules) ∙ ap (map h) c.zip.ensures ∙ marked_numbered c.args.kind c.args.number c.args.entries
