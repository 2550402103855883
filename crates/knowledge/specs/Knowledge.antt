-- What one site knows of the outcomes of transactions. Assumes nothing.
use Rattle.std.specs.Prelude.{ℕ, Bool, true, false, cond, not, ◌&&◌, List, [], ◌∷◌, Some, None, Option, ◌==◌}
use Rattle.records.specs.declared.card.Card.{Card}
use Rattle.records.specs.declared.line.Line.{Line}
use Rattle.records.specs.declared.size.Size.{Size}
use Rattle.terms.specs.declared.outcome.Outcome.{Outcome}
use Rattle.terms.specs.declared.outcome.Outcome.TheVariants.{Commit, Abort}
use Rattle.records.specs.declared.verdict.Verdict.{Verdict}
use Rattle.records.specs.Present.{verdict_present}
use Rattle.knowledge.specs.declared.view.View.{View}

-- A site's used records, beside the size of the sitting and the declared cards.
pub record Site (V : Type 0) : Type 0 where
  pub size : Size
  pub cards : List (Card V)
  pub lines : List (Line V)
  pub verdicts : List Verdict

abbrev pub seen : {V : Type 0} → View V → Site V
seen v = record { size = v.table.size; cards = v.table.cards.now; lines = v.lines.now; verdicts = v.verdicts.now }

-- The outcome that the verdicts in range tell of a time: of equal records the first.
abbrev pub verdict_on : Size → List Verdict → ℕ → Option Outcome
verdict_on size [] time = None
verdict_on size (v ∷ vs) time = cond (verdict_present size v && v.time == time) (Some v.outcome) (verdict_on size vs time)

-- What the site knows of the transaction with this time.
abbrev pub known : {V : Type 0} → Site V → ℕ → Option Outcome
known site time = verdict_on site.size site.verdicts time

abbrev pub says_abort : Option Outcome → Bool
says_abort None = false
says_abort (Some Commit) = false
says_abort (Some Abort) = true

abbrev pub says_commit : Option Outcome → Bool
says_commit None = false
says_commit (Some Commit) = true
says_commit (Some Abort) = false

abbrev pub aborted : {V : Type 0} → Site V → ℕ → Bool
aborted site time = says_abort (known site time)

abbrev pub committed : {V : Type 0} → Site V → ℕ → Bool
committed site time = says_commit (known site time)

-- What a transaction's outcome has to be for its lines to count: known as committed where only settled ones do, else
-- not known as aborted.
abbrev pub stands : Bool → Option Outcome → Bool
stands true o = says_commit o
stands false o = not (says_abort o)
