use Rattle.script.proofs.Joining.{cut}
use Rattle.script.proofs.pieces.Pieces.new.Goals as goal

pub returns-clause-whole : goal.returns-clause-whole
returns-clause-whole c = cut _ _
