-- Where a line is: for each site to which it goes, it still waits for it, has landed there, is known there as aborted, or
-- was denied there as at its primary; at its origin it has landed unless it was denied. Assumes nothing.
use Rattle.std.proofs.Common.{◌≡◌, ℕ, ◌⊎◌, Some}
use Rattle.terms.specs.declared.mark.Mark.TheVariants.{Denied}
use Rattle.terms.specs.declared.outcome.Outcome.TheVariants.{Abort}
use Rattle.terms.specs.Lists.{In}
use Rattle.model.specs.Rules.{Rules}
use Rattle.model.proofs.State.{State, told}
use Rattle.model.proofs.Lots.{Lot, lots, origin, primary, Goes, message}

pub data AtTarget {V : Type 0} (S : State V) (b : Lot V) (site : ℕ) : Type 0 where
  waits : In (message 1 (origin b.line) site b.line) S.waiting → AtTarget S b site
  has_landed : In b.line (S.lines site) → AtTarget S b site
  known_aborted : told S site b.line.time ≡ Some Abort → AtTarget S b site
  was_denied : primary S b.line ≡ site → (b.mark ≡ Denied) ⊎ In (message 3 site (origin b.line) b.line) S.waiting → AtTarget S b site

pub record Spread {V : Type 0} (rules : Rules V) (S : State V) : Type 0 where
  pub targets : (b : Lot V) → In b (lots rules S) → (site : ℕ) → Goes S b.line site → AtTarget S b site
  pub home : (b : Lot V) → In b (lots rules S) → In b.line (S.lines (origin b.line)) ⊎ (b.mark ≡ Denied)
