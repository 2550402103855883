use Rattle.std.proofs.Common.{length}
use Rattle.terms.specs.Few.{few_list}
use Rattle.site.proofs.table.+write.Given as goal

abbrev pub decreases-write : goal.decreases-write
decreases-write g l = length (few_list l.more)
