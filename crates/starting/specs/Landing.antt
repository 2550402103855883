-- The lines of a start that land at its origin. Assumes nothing.
use Rattle.std.specs.Prelude.{ℕ, ◌+◌, Bool, true, false, cond, List, [], ◌∷◌}
use Rattle.terms.specs.declared.mark.Mark.{Mark}
use Rattle.terms.specs.declared.mark.Mark.TheVariants.{Asked, Confirmed, Denied}
use Rattle.terms.specs.Few.{few_list}
use Rattle.records.specs.declared.line.Line.{Line}
use Rattle.records.specs.declared.transaction.Entry.{Entry}
use Rattle.records.specs.declared.transaction.Transaction.{Transaction}
use Rattle.site.specs.Lines.{line_of}

abbrev pub is_denied : Mark → Bool
is_denied Asked = false
is_denied Confirmed = false
is_denied Denied = true

-- The lines from a number on, without those that are denied.
abbrev pub landing_from : {V : Type 0} → ℕ → ℕ → List ℕ → List (Entry V) → List (Line V)
landing_from time number [] es = []
landing_from time number (mode ∷ modes) [] = []
landing_from time number (mode ∷ modes) (e ∷ es) =
    cond (is_denied e.mark) (landing_from time (number + 1) modes es) (line_of time number mode e ∷ landing_from time (number + 1) modes es)

-- The lines of a transaction whose rule has these modes, in line order, except those that its origin denied at the start.
abbrev pub start_landing : {V : Type 0} → List ℕ → Transaction V → List (Line V)
start_landing modes x = landing_from x.time 1 modes (few_list x.entries)
