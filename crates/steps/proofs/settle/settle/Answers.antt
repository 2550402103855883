use Rattle.std.proofs.Common.{◌-◌, length, nat_lt, sym, refl, ap, ◌∙◌, subst, arith}
use Rattle.book.specs.Meaning.{modes_in}
use Rattle.carrier.specs.Carrying.{Appended, places_left}
use Rattle.settling.specs.Settling.{settlement, verdict_messages}
use Rattle.steps.specs.Handed.{handed, site_of}
use Rattle.steps.specs.Numbers.{stopped}
use Rattle.steps.proofs.Settlements.{decided_by, tell_places, settle_done}
use Rattle.steps.proofs.settle.settle.Goals as goal

-- The messages fit, since the places were counted.
pub returns-in_err-tell : goal.returns-in_err-tell
returns-in_err-tell g c =
    let modes = g.B.RuleBook.modes c.args.book.now in
    let x = c.args.x in
    let queue = g.C.Carrier.queue c.args.carrier.now in
    let h = handed c.args.table.now.size c.args.table.now.cards.now c.args.lines.now c.args.verdicts.now c.args.numbers.used c.args.numbers.counts (places_left queue) in
    let same = decided_by modes x h _ _ c.free_places.ensures c.modes_of.ensures in
    let decided = c.settle.ensures ∙ ap (λ s. settlement s (nat_lt h.used.verdicts (length h.verdicts)) c.free_places.result (modes_in c.modes_of.result) x) c.view_of-view.ensures in
    let fits = tell_places modes x h queue c.in_ok-outcome.outcome (g.met.C.Carrier.bounded c.args.carrier.now) refl (sym same ∙ sym decided ∙ c.in_ok-outcome.was) in
    let told =
    ap (λ s. length (verdict_messages s (modes_in c.modes_of.result) x c.in_ok-outcome.outcome)) c.view_of-view-2.ensures
    ∙ ap (λ ms. length (verdict_messages (site_of h) ms x c.in_ok-outcome.outcome)) c.modes_of.ensures in
    let never : ⊥ = omega (arith, c.in_err-tell.ensures.crowd) in
    elim never [ ]

pub returns : goal.returns
returns g c =
    let modes = g.B.RuleBook.modes c.args.book.now in
    let x = c.args.x in
    let queue = g.C.Carrier.queue c.args.carrier.now in
    let h = handed c.args.table.now.size c.args.table.now.cards.now c.args.lines.now c.args.verdicts.now c.args.numbers.used c.args.numbers.counts (places_left queue) in
    let same = decided_by modes x h _ _ c.free_places.ensures c.modes_of.ensures in
    let decided = c.settle.ensures ∙ ap (λ s. settlement s (nat_lt h.used.verdicts (length h.verdicts)) c.free_places.result (modes_in c.modes_of.result) x) c.view_of-view.ensures in
    let told =
    ap (λ s. verdict_messages s (modes_in c.modes_of.result) x c.in_ok-outcome.outcome) c.view_of-view-2.ensures
    ∙ ap (λ ms. verdict_messages (site_of h) ms x c.in_ok-outcome.outcome) c.modes_of.ensures in
    let sends = subst (λ ms. Appended queue ms (g.C.Carrier.queue c.tell.new.carrier)) told c.in_ok-tell.ensures in
    let put = c.put_since.ensures ∙ ap (λ n. stopped c.args.numbers.counts.put (length (g.C.Carrier.queue c.tell.new.carrier).waiting - n)) c.count-waited.ensures in
    settle_done modes x h queue c.in_ok-outcome.outcome _ _ _ _ (sym same ∙ sym decided ∙ c.in_ok-outcome.was) c.append-recorded.ensures sends put
