use Rattle.std.proofs.Common.{length}
use Rattle.terms.specs.Few.{few_list}
use Rattle.starting.proofs.messages.+message_count.Given as goal

abbrev pub decreases-message_count : goal.decreases-message_count
decreases-message_count g l = length (few_list l.lines)
