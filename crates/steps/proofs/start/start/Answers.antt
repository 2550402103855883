use Rattle.std.proofs.Common.{◌-◌, length, sym, ap, ◌∙◌, subst, arith}
use Rattle.carrier.specs.Carrying.{Appended, places_left}
use Rattle.site.specs.Tables.{Extends}
use Rattle.starting.specs.Landing.{start_landing}
use Rattle.starting.specs.Starting.{start_messages}
use Rattle.steps.specs.Handed.{handed}
use Rattle.steps.specs.Numbers.{stopped}
use Rattle.steps.specs.Start.{start_decided}
use Rattle.steps.proofs.Starts.{start_places, start_done}
use Rattle.steps.proofs.start.start.Goals as goal

-- The messages fit, since the places were counted.
pub returns-in_err-send_lines : goal.returns-in_err-send_lines
returns-in_err-send_lines g c =
    let modes = g.B.RuleBook.modes c.args.book.now in
    let answer = g.B.RuleBook.answer c.args.book.now in
    let table = c.args.table.now in
    let h = handed table.size table.cards.now c.args.lines.now c.args.verdicts.now c.args.numbers.used c.args.numbers.counts c.free_places.result in
    let is = sym c.decide.ensures ∙ c.in_ok-x.was in
    let fits = start_places modes answer c.args.order h c.args.transactions.now (g.C.Carrier.queue c.args.carrier.now) c.in_ok-x.x (g.met.C.Carrier.bounded c.args.carrier.now) c.free_places.ensures is in
    let same = ap (λ ms. length (start_messages table.size table.cards.now c.args.order.origin ms c.in_ok-x.x)) c.modes_of.ensures in
    let never : ⊥ = omega (arith, c.in_err-send_lines.ensures.crowd) in
    elim never [ ]

pub returns : goal.returns
returns g c =
    let modes = g.B.RuleBook.modes c.args.book.now in
    let answer = g.B.RuleBook.answer c.args.book.now in
    let order = c.args.order in
    let x = c.in_ok-x.x in
    let table = c.args.table.now in
    let queue = g.C.Carrier.queue c.args.carrier.now in
    let h = handed table.size table.cards.now c.args.lines.now c.args.verdicts.now c.args.numbers.used c.args.numbers.counts (places_left queue) in
    let places = ap (λ p. start_decided modes answer order (handed table.size table.cards.now c.args.lines.now c.args.verdicts.now c.args.numbers.used c.args.numbers.counts p) c.args.transactions.now) c.free_places.ensures in
    let is = sym places ∙ sym c.decide.ensures ∙ c.in_ok-x.was in
    let lands = subst (λ ms. Extends c.args.lines.now c.args.numbers.used.lines (start_landing ms x) c.land-landed.result c.land-landed.new.lines) c.modes_of.ensures c.land-landed.ensures in
    let sends = subst (λ ms. Appended queue (start_messages table.size table.cards.now order.origin ms x) (g.C.Carrier.queue c.send_lines.new.carrier)) c.modes_of.ensures c.in_ok-send_lines.ensures in
    let put = c.put_since.ensures ∙ ap (λ n. stopped c.args.numbers.counts.put (length (g.C.Carrier.queue c.send_lines.new.carrier).waiting - n)) c.count-waited.ensures in
    start_done modes answer order h c.args.transactions.now queue x _ _ _ _ _ _ _ is lands c.append-started.ensures (ap (λ v. v.counter) c.from.ensures.0) sends put
