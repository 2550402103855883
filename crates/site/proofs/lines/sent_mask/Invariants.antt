use Rattle.std.proofs.Common.{◌≡◌, ℕ, ◌<◌, ◌||◌}
use Rattle.terms.specs.Few.{few_list}
use Rattle.records.specs.Present.{holds}
use Rattle.site.specs.Lines.{is_sent}
use Rattle.site.proofs.lines.sent_mask.Given as goal

-- The sites of the lines gone through, and of those still to come.
abbrev pub invariant-loop-line : goal.invariant-loop-line
invariant-loop-line g l =
    (s : ℕ) → s < 8 →
    (holds l.mask s || is_sent l.table.size l.table.cards.now l.origin (few_list l.line-iterator.few) s) ≡ is_sent l.table.size l.table.cards.now l.origin (few_list l.fn.lines) s
