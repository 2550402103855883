-- Verdicts: a committed transaction has all marks confirmed and read only what is committed; each site that was sent a
-- line of a settled transaction knows its verdict, or the verdict waits for it. Assumes nothing.
use Rattle.std.proofs.Common.{◌≡◌, ℕ, true, ◌⊎◌, Some}
use Rattle.terms.specs.declared.mark.Mark.TheVariants.{Confirmed}
use Rattle.terms.specs.declared.outcome.Outcome.{Outcome}
use Rattle.terms.specs.declared.outcome.Outcome.TheVariants.{Commit}
use Rattle.terms.specs.Kinds.{kind_number, verdict_kind}
use Rattle.terms.specs.Lists.{In}
use Rattle.terms.specs.Modes.{reads}
use Rattle.terms.specs.Times.{site_of}
use Rattle.records.specs.declared.message.Message.{Message}
use Rattle.model.specs.Rules.{Rules}
use Rattle.model.proofs.State.{State, told}
use Rattle.model.proofs.Lots.{Lot, lots, origin, Goes}

-- A verdict on a time waits for a site.
pub record VerdictWaits {V : Type 0} (S : State V) (outcome : Outcome) (time site : ℕ) : Type 0 where
  pub message : Message V
  pub waits : In message S.waiting
  pub kind_is : message.kind ≡ kind_number (verdict_kind outcome)
  pub to_site : message.to ≡ site
  pub timed : message.line.time ≡ time

pub record Verdicts {V : Type 0} (rules : Rules V) (S : State V) : Type 0 where
  pub committed_marks : (b : Lot V) → In b (lots rules S) → told S (origin b.line) b.line.time ≡ Some Commit → b.mark ≡ Confirmed
  pub committed_reads : (b : Lot V) → In b (lots rules S) → told S (origin b.line) b.line.time ≡ Some Commit → reads b.line.mode ≡ true → (b.line.read ≡ 0) ⊎ (told S (site_of b.line.read) b.line.read ≡ Some Commit)
  pub spread : (b : Lot V) (outcome : Outcome) → In b (lots rules S) → told S (origin b.line) b.line.time ≡ Some outcome → (site : ℕ) → Goes S b.line site → (told S site b.line.time ≡ Some outcome) ⊎ VerdictWaits S outcome b.line.time site
