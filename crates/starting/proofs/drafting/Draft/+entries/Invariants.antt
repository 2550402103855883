use Rattle.std.proofs.Common.{length}
use Rattle.terms.specs.Few.{few_list}
use Rattle.starting.proofs.drafting.Draft.+entries.Given as goal

abbrev pub decreases-entries : goal.decreases-entries
decreases-entries g l = length (few_list l.steps)
