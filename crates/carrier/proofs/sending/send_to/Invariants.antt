use Rattle.std.proofs.Common.{◌≡◌, ◌++◌}
use Rattle.carrier.specs.Sending.{copies}
use Rattle.carrier.proofs.Targets.{copies_from}
use Rattle.carrier.proofs.sending.send_to.Given as goal

-- What waits, followed by the copies still to be sent, is what waited before, followed by all copies.
abbrev pub invariant-loop-site : goal.invariant-loop-site
invariant-loop-site g l =
    ((g.C.Carrier.queue l.carrier).waiting ++ copies_from l.message l.sites l.site ≡ (g.C.Carrier.queue l.initial.carrier).waiting ++ copies l.message l.sites) × ((g.C.Carrier.queue l.carrier).limit ≡ (g.C.Carrier.queue l.initial.carrier).limit)
