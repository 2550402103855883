use Rattle.std.proofs.Common.{arith}
use Rattle.std.proofs.lemmas.Bool.Decides.{nat_tests}
use Rattle.records.proofs.Masks.{past_mask, shifted_out, below_shift}
use Rattle.records.proofs.card.within.Goals as goal

pub returns-then-n-ge32 : goal.returns-then-n-ge32
returns-then-n-ge32 c = let all = past_mask c.args.holders c.args.n (omega arith) c.if-n-ge32.true in grind (arith, nat_tests)

pub returns-else-n-ge32 : goal.returns-else-n-ge32
returns-else-n-ge32 c =
    let out = shifted_out c.args.holders c.args.n in
    let below = below_shift c.args.holders c.args.n in
    grind (arith, nat_tests, out, below)
