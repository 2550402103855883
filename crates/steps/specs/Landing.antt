-- Lines beside the entries that they are. Assumes nothing.
use Rattle.std.specs.Prelude.{cond, List, [], ◌∷◌}
use Rattle.records.specs.declared.line.Line.{Line}
use Rattle.records.specs.declared.transaction.Entry.{Entry}
use Rattle.starting.specs.Landing.{is_denied}

-- The lines whose entries are not denied.
abbrev pub undenied : {V : Type 0} → List (Line V) → List (Entry V) → List (Line V)
undenied [] es = []
undenied (l ∷ ls) [] = []
undenied (l ∷ ls) (e ∷ es) = cond (is_denied e.mark) (undenied ls es) (l ∷ undenied ls es)
