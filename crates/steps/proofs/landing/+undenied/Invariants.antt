use Rattle.std.proofs.Common.{length}
use Rattle.terms.specs.Few.{few_list}
use Rattle.steps.proofs.landing.+undenied.Given as goal

abbrev pub decreases-undenied : goal.decreases-undenied
decreases-undenied g l = length (few_list l.lines)
