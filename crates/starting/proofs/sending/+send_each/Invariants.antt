use Rattle.std.proofs.Common.{length}
use Rattle.terms.specs.Few.{few_list}
use Rattle.starting.proofs.sending.+send_each.Given as goal

abbrev pub decreases-send_each : goal.decreases-send_each
decreases-send_each g l = length (few_list l.lines)
