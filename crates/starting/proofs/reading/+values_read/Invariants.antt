use Rattle.std.proofs.Common.{length}
use Rattle.terms.specs.Few.{few_list}
use Rattle.starting.proofs.reading.+values_read.Given as goal

abbrev pub decreases-values_read : goal.decreases-values_read
decreases-values_read g l = length (few_list l.steps)
