use Rattle.std.proofs.Common.{sym, ap, subst}
use Rattle.delivering.specs.Marks.{PresentAlike}
use Rattle.delivering.proofs.Marking.{with_entries, marked_kept, present_alike}
use Rattle.delivering.proofs.marks.mark_line.Goals as goal

pub returns : goal.returns
returns g c =
    let x = c.args.x in
    let marked = ap (with_entries x) (marked_kept c.args.kind c.args.number x.entries _ c.mark_entries.ensures) in
    record {
      value = marked;
      each = c.mark_entries.ensures;
      present = subst (λ y. PresentAlike y x) (sym marked) (present_alike c.args.kind c.args.number x);
    }
