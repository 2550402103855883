use Rattle.std.proofs.Common.{length}
use Rattle.terms.specs.Few.{few_list}
use Rattle.terms.proofs.few.Few.+zip.Given as goal

abbrev pub decreases-zip : goal.decreases-zip
decreases-zip g l = length (few_list l.self)
