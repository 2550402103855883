use Rattle.std.proofs.Common.{refl, ◌∙◌}
use Rattle.std.proofs.lemmas.Bool.{cond_below, cond_above}
use Rattle.starting.specs.Starting.{start_answer}
use Rattle.steps.proofs.start.decide.Goals as goal

pub returns-then-transactions-counts : goal.returns-then-transactions-counts
returns-then-transactions-counts g c = cond_above _ _ _ _ _ c.if-transactions-counts.true refl

pub returns : goal.returns
returns g c =
    let order = c.args.order.now in
    c.start.ensures
    ∙ (λ i. start_answer (g.B.RuleBook.modes c.args.book.now order.rule) (g.B.RuleBook.answer c.args.book.now order.rule) (c.view_of-view.ensures i) order (record { counter = c.args.numbers.used.counter; started = c.args.numbers.counts.started; lines = c.saturating_sub.ensures i; places = c.args.places }))
    ∙ cond_below _ _ _ _ c.if-transactions-counts.false
