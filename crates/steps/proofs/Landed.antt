-- The lines of a start that land. Assumes nothing.
use Rattle.std.proofs.Common.{◌≡◌, ℕ, ◌+◌, cond, List, [], ◌∷◌, refl, ap}
use Rattle.terms.specs.Few.{few_list}
use Rattle.records.specs.declared.transaction.Entry.{Entry}
use Rattle.records.specs.declared.transaction.Transaction.{Transaction}
use Rattle.site.specs.Lines.{line_of, lines_from, lines_of}
use Rattle.starting.specs.Landing.{is_denied, landing_from, start_landing}
use Rattle.steps.specs.Landing.{undenied}

undenied_from : {V : Type 0} (time k : ℕ) (modes : List ℕ) (es : List (Entry V)) → undenied (lines_from time k modes es) es ≡ landing_from time k modes es
undenied_from time k [] es = refl
undenied_from time k (m ∷ ms) [] = refl
undenied_from time k (m ∷ ms) (e ∷ es) = ap (λ rest. cond (is_denied e.mark) rest (line_of time k m e ∷ rest)) (undenied_from time (k + 1) ms es)

pub undenied_land : {V : Type 0} (modes : List ℕ) (x : Transaction V) → undenied (lines_of modes x) (few_list x.entries) ≡ start_landing modes x
undenied_land modes x = undenied_from x.time 1 modes (few_list x.entries)
