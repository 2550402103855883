use Rattle.std.proofs.Common.{rules}
use Rattle.std.proofs.lemmas.Iterator.{YieldsList-from_slice}
use Rattle.std.proofs.lemmas.Iterator.Consumers.{YieldsList-from_enumerate}
use Rattle.carriers.specs.Choosing.{lane, distance}
use Rattle.carriers.proofs.Picking.{first_picked}
use Rattle.carriers.proofs.lanes.ByLaneChoice.choose.Goals as goal

pub returns : goal.returns
returns g c =
    let first = first_picked _ _ (λ m. distance c.args.hint (lane m)) _ c.args.waiting.now _ (YieldsList-from_enumerate (YieldsList-from_slice c.args.waiting.now (cc)) (cc)) c.min_by_key.ensures.ran (λ x k h called. search rules) in
    search rules
