use Rattle.std.proofs.Common.{sym, ap, ◌∙◌}
use Rattle.knowledge.proofs.Found.{outcome_of, verdict_found}
use Rattle.knowledge.proofs.verdicts.verdict_on.Goals as goal

pub returns-in_err-first_on : goal.returns-in_err-first_on
returns-in_err-first_on c =
    c.from_residual.ensures ∙ ap outcome_of (sym c.in_err-first_on.was ∙ c.first_on.ensures) ∙ verdict_found c.args.size c.args.time c.args.verdicts.now

pub returns : goal.returns
returns c = ap outcome_of (sym c.in_ok-first_on.was ∙ c.first_on.ensures) ∙ verdict_found c.args.size c.args.time c.args.verdicts.now
