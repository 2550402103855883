use Rattle.std.proofs.Common.{map, ap, ◌∙◌, subst}
use Rattle.records.specs.Present.{card_at}
use Rattle.carrier.specs.Carrying.{PutOf}
use Rattle.carrier.specs.Sending.{addressed, copies}
use Rattle.site.specs.Lines.{goes_to}
use Rattle.site.proofs.Named.{targets_picked}
use Rattle.starting.proofs.sending.send_line.Goals as goal

pub returns : goal.returns
returns g c =
    let l = c.args.line in
    let table = c.args.table.now in
    let same =
    ap (λ k. copies (record { kind = k; from = c.args.origin; to = c.args.origin; line = l }) c.target_mask.result) c.into.ensures
    ∙ ap (map (addressed (record { kind = 1; from = c.args.origin; to = c.args.origin; line = l }))) (targets_picked c.target_mask.result (goes_to c.args.origin l.mode (card_at table.size table.cards.now l.card)) c.target_mask.ensures) in
    subst (λ ms. PutOf (g.C.Carrier.queue c.args.carrier.now) ms c.send_to.result (g.C.Carrier.queue c.send_to.new.carrier)) same c.send_to.ensures
