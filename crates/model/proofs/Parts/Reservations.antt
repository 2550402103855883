-- At a card's primary, of a landed reader and a landed write strictly inside its interval one is known as aborted.
-- Assumes nothing.
use Rattle.std.proofs.Common.{◌≡◌, ℕ, ◌<◌, true, ◌⊎◌, Some}
use Rattle.terms.specs.declared.outcome.Outcome.TheVariants.{Abort}
use Rattle.terms.specs.Lists.{In}
use Rattle.terms.specs.Modes.{reads, writes}
use Rattle.records.specs.declared.line.Line.{Line}
use Rattle.model.proofs.State.{State, told}
use Rattle.model.proofs.Lots.{primary}

pub record Reservations {V : Type 0} (S : State V) : Type 0 where
  pub guarded :
      (s : ℕ) (a b : Line V) → In a (S.lines s) → In b (S.lines s) → primary S a ≡ s → a.card ≡ b.card → reads a.mode ≡ true → writes b.mode ≡ true →
      a.read < b.time → b.time < a.time → (told S s a.time ≡ Some Abort) ⊎ (told S s b.time ≡ Some Abort)
