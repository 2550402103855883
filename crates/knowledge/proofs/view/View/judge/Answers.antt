use Rattle.std.proofs.Common.{arith}
use Rattle.std.proofs.lemmas.Bool.Decides.{nat_tests}
use Rattle.knowledge.specs.Knowledge.{seen}
use Rattle.knowledge.proofs.Guards.{guards}
use Rattle.knowledge.proofs.view.View.judge.Goals as goal

pub returns-else-denies : goal.returns-else-denies
returns-else-denies g c = record { value = grind (arith, nat_tests); guards = guards (seen c.args.self.now) c.args.line.now }
