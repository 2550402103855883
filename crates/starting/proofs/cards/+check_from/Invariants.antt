use Rattle.std.proofs.Common.{length}
use Rattle.terms.specs.Few.{few_list}
use Rattle.starting.proofs.cards.+check_from.Given as goal

abbrev pub decreases-check_from : goal.decreases-check_from
decreases-check_from g l = length (few_list l.named)
