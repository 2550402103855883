use Rattle.std.proofs.Common.{arith}
use Rattle.std.proofs.lemmas.Bool.Decides.{nat_tests}
use Rattle.records.proofs.Masks.{past_mask, shifted_out}
use Rattle.records.proofs.card.names.Goals as goal

pub returns-else-site-lt32 : goal.returns-else-site-lt32
returns-else-site-lt32 c =
    let none = shifted_out _ _ (past_mask c.args.holders c.args.site (omega arith) c.if-site-lt32.false) in
    grind (arith, nat_tests)
