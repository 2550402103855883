-- The outcomes that a verdict tells. Assumes nothing.
use Rattle.std.specs.Prelude.{ℕ, [], ◌∷◌, Option}
use Rattle.terms.specs.declared.outcome.Outcome.{Outcome}
use Rattle.terms.specs.declared.outcome.Outcome.TheVariants.{Commit, Abort}
use Rattle.terms.specs.Numbers.{numbered}

abbrev pub outcome_number : Outcome → ℕ
outcome_number Commit = 1
outcome_number Abort = 2

abbrev pub outcome_of : ℕ → Option Outcome
outcome_of n = numbered outcome_number (Commit ∷ Abort ∷ []) n
