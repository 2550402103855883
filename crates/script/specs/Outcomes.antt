-- Outcomes in a text. Assumes nothing.
use Rattle.std.specs.Prelude.{ℕ, List, Option}
use Rattle.terms.specs.declared.outcome.Outcome.{Outcome}
use Rattle.terms.specs.Outcomes.{outcome_of}
use Rattle.script.specs.Forms.{read}
use Rattle.script.specs.Numbers.{numeral}

abbrev pub outcome_text : List ℕ → Option Outcome
outcome_text text = read outcome_of (numeral text)
