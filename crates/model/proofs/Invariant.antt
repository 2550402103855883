-- The invariant: what holds of every state that a run reaches, beside what the list of calls tells. Assumes nothing.
use Rattle.std.proofs.Common.{List}
use Rattle.model.specs.Rules.{Rules}
use Rattle.model.specs.Single.{Noted}
use Rattle.model.proofs.State.{State}
use Rattle.model.proofs.Parts.Shape.{Shape}
use Rattle.model.proofs.Parts.Clocks.{Clocks}
use Rattle.model.proofs.Parts.Provenance.{Provenance}
use Rattle.model.proofs.Parts.Spread.{Spread}
use Rattle.model.proofs.Parts.Marks.{Marked}
use Rattle.model.proofs.Parts.Reservations.{Reservations}
use Rattle.model.proofs.Parts.History.{History}
use Rattle.model.proofs.Parts.Verdicts.{Verdicts}
use Rattle.model.proofs.Parts.Numbers.{Numbers}

pub record Invariant {V : Type 0} (rules : Rules V) (S : State V) (hs : List (Noted V)) : Type 0 where
  pub shape : Shape rules S
  pub clocks : Clocks S
  pub provenance : Provenance rules S
  pub spread : Spread rules S
  pub marks : Marked rules S
  pub reservations : Reservations S
  pub history : History rules S hs
  pub verdicts : Verdicts rules S
  pub numbers : Numbers S hs
