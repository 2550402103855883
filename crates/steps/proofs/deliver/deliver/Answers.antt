use Rattle.std.proofs.Common.{◌-◌, length, sym, refl, ap, ◌∙◌, arith}
use Rattle.carrier.specs.Carrying.{places_left}
use Rattle.delivering.specs.Delivery.{delivery}
use Rattle.delivering.specs.Owns.{remarked}
use Rattle.steps.specs.Deliver.{if_answerable, room_of}
use Rattle.steps.specs.Handed.{handed}
use Rattle.steps.specs.Numbers.{stopped}
use Rattle.steps.proofs.Deliveries.{own_place_of, decided_by, reply_places, deliver_done}
use Rattle.steps.proofs.deliver.deliver.Goals as goal

-- The reply fits, since the places were counted.
pub returns-in_err-reply : goal.returns-in_err-reply
returns-in_err-reply g c =
    let modes = g.B.RuleBook.modes c.args.book.now in
    let m = c.args.message in
    let xs = c.args.transactions.now in
    let queue = g.C.Carrier.queue c.args.carrier.now in
    let h = handed c.args.table.now.size c.args.table.now.cards.now c.args.lines.now c.args.verdicts.now c.args.numbers.used c.args.numbers.counts (places_left queue) in
    let place = own_place_of modes m h xs _ _ c.front-started.ensures c.find_own-place.ensures in
    let decided =
    c.answerable.ensures
    ∙ ap (if_answerable c.free_places.result m) (c.deliver-decided.ensures.value ∙ ap (λ s. delivery s (room_of h.used h.lines h.verdicts) c.get-own.result m) c.view_of-view.ensures)
    ∙ decided_by modes m h xs _ _ _ _ c.front-started.ensures place c.get-own.ensures c.free_places.ensures in
    let fits = reply_places modes m h xs queue c.in_ok-effect.effect (g.met.C.Carrier.bounded c.args.carrier.now) refl (sym decided ∙ c.in_ok-effect.was) in
    let never : ⊥ = omega (arith, c.in_err-reply.ensures.crowd) in
    elim never [ ]

pub returns : goal.returns
returns g c =
    let modes = g.B.RuleBook.modes c.args.book.now in
    let m = c.args.message in
    let xs = c.args.transactions.now in
    let queue = g.C.Carrier.queue c.args.carrier.now in
    let h = handed c.args.table.now.size c.args.table.now.cards.now c.args.lines.now c.args.verdicts.now c.args.numbers.used c.args.numbers.counts (places_left queue) in
    let place = own_place_of modes m h xs _ _ c.front-started.ensures c.find_own-place.ensures in
    let decided =
    c.answerable.ensures
    ∙ ap (if_answerable c.free_places.result m) (c.deliver-decided.ensures.value ∙ ap (λ s. delivery s (room_of h.used h.lines h.verdicts) c.get-own.result m) c.view_of-view.ensures)
    ∙ decided_by modes m h xs _ _ _ _ c.front-started.ensures place c.get-own.ensures c.free_places.ensures in
    let marks = c.remark.ensures ∙ ap (λ p. remarked c.in_ok-effect.effect p xs) place in
    let put = c.put_since.ensures ∙ ap (λ n. stopped c.args.numbers.counts.put (length (g.C.Carrier.queue c.reply.new.carrier).waiting - n)) c.count-waited.ensures in
    deliver_done modes m h xs queue c.in_ok-effect.effect _ _ _ _ _ _ _ _ _ (sym decided ∙ c.in_ok-effect.was) marks c.land-landed.ensures c.record-recorded.ensures c.raise.ensures c.in_ok-reply.ensures put c.add.ensures
