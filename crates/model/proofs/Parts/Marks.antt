-- Marks: a line that is asked has its primary elsewhere and its line or a reply is on the way, unless the primary knows
-- it as aborted; a line that is confirmed, or that a CONFIRM is about, has landed at its primary. Assumes nothing.
use Rattle.std.proofs.Common.{◌≡◌, Some}
use Rattle.terms.specs.declared.mark.Mark.TheVariants.{Asked, Confirmed}
use Rattle.terms.specs.declared.outcome.Outcome.TheVariants.{Abort}
use Rattle.terms.specs.Lists.{In}
use Rattle.records.specs.declared.message.Message.{Message}
use Rattle.model.specs.Rules.{Rules}
use Rattle.model.proofs.State.{State, told}
use Rattle.model.proofs.Lots.{Lot, lots, origin, primary, message}

pub data AnswerDue {V : Type 0} (S : State V) (b : Lot V) : Type 0 where
  line_waits : In (message 1 (origin b.line) (primary S b.line) b.line) S.waiting → AnswerDue S b
  confirm_waits : In (message 2 (primary S b.line) (origin b.line) b.line) S.waiting → AnswerDue S b
  deny_waits : In (message 3 (primary S b.line) (origin b.line) b.line) S.waiting → AnswerDue S b
  primary_aborted : told S (primary S b.line) b.line.time ≡ Some Abort → AnswerDue S b

pub record Marked {V : Type 0} (rules : Rules V) (S : State V) : Type 0 where
  pub asked_elsewhere : (b : Lot V) → In b (lots rules S) → b.mark ≡ Asked → primary S b.line ≡ origin b.line → ⊥
  pub asked : (b : Lot V) → In b (lots rules S) → b.mark ≡ Asked → AnswerDue S b
  pub confirmed : (b : Lot V) → In b (lots rules S) → b.mark ≡ Confirmed → In b.line (S.lines (primary S b.line))
  pub confirming : (m : Message V) → In m S.waiting → m.kind ≡ 2 → In m.line (S.lines (primary S m.line))
