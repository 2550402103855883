-- Each accepted call keeps the invariant. Assumes nothing.
pub mod Shape
pub mod Clocks
pub mod Provenance
pub mod Spread
pub mod Marks
pub mod Reservations
pub mod History
pub mod Verdicts
pub mod Numbers
use Rattle.std.proofs.Common.{ℕ, List, map}
use Rattle.terms.specs.declared.outcome.Outcome.{Outcome}
use Rattle.records.specs.declared.message.Message.{Message}
use Rattle.records.specs.declared.transaction.Transaction.{Transaction}
use Rattle.starting.specs.declared.start.Order.{Order}
use Rattle.delivering.specs.declared.effect.Effect.{Effect}
use Rattle.model.specs.Rules.{Rules}
use Rattle.model.specs.Runs.{start_accepted}
use Rattle.model.specs.Single.{Noted, note, decided}
use Rattle.model.proofs.State.{State}
use Rattle.model.proofs.Moves.{reads_of, Starting, started_state, Delivering, Taking, delivered_state, Settling, settled_state}
use Rattle.model.proofs.Invariant.{Invariant}
use Rattle.model.proofs.Kept.Shape.{start_shape, deliver_shape, settle_shape}
use Rattle.model.proofs.Kept.Clocks.{start_clocks, deliver_clocks, settle_clocks}
use Rattle.model.proofs.Kept.Provenance.{start_provenance, deliver_provenance, settle_provenance}
use Rattle.model.proofs.Kept.Spread.{start_spread, deliver_spread, settle_spread}
use Rattle.model.proofs.Kept.Marks.{start_marks, deliver_marks, settle_marks}
use Rattle.model.proofs.Kept.Reservations.{start_reservations, deliver_reservations, settle_reservations}
use Rattle.model.proofs.Kept.History.{started_as, start_history, deliver_history, settle_history}
use Rattle.model.proofs.Kept.Verdicts.{start_verdicts, deliver_verdicts, settle_verdicts}
use Rattle.model.proofs.Kept.Numbers.{start_numbers, deliver_numbers, settle_numbers}

module _ {V : Type 0} (rules : Rules V) (S : State V) (hs : List (Noted V)) (inv : Invariant rules S hs) where
  pub start_keeps : (order : Order V) (x : Transaction V) (written : List V) → Starting rules S order x written → Invariant rules (started_state rules S order x) (note hs (start_accepted order (started_as S x) (reads_of rules S order) written))
  start_keeps order x written go =
      record {
        shape = start_shape rules S hs inv order x written go;
        clocks = start_clocks rules S hs inv order x written go;
        provenance = start_provenance rules S hs inv order x written go;
        spread = start_spread rules S hs inv order x written go;
        marks = start_marks rules S hs inv order x written go;
        reservations = start_reservations rules S hs inv order x written go;
        history = start_history rules S hs inv order x written go;
        verdicts = start_verdicts rules S hs inv order x written go;
        numbers = start_numbers rules S hs inv order x written go;
      }

  pub deliver_keeps : (place : ℕ) (m : Message V) (e : Effect V) (xs : List (Transaction V)) → Taking rules S place m → Delivering rules S m e xs → Invariant rules (delivered_state rules S place m e xs) hs
  deliver_keeps place m e xs taking go =
      record {
        shape = deliver_shape rules S hs inv place m e xs taking go;
        clocks = deliver_clocks rules S hs inv place m e xs taking go;
        provenance = deliver_provenance rules S hs inv place m e xs taking go;
        spread = deliver_spread rules S hs inv place m e xs taking go;
        marks = deliver_marks rules S hs inv place m e xs taking go;
        reservations = deliver_reservations rules S hs inv place m e xs taking go;
        history = deliver_history rules S hs inv place m e xs taking go;
        verdicts = deliver_verdicts rules S hs inv place m e xs taking go;
        numbers = deliver_numbers rules S hs inv place m e xs taking go;
      }

  pub settle_keeps : (n : ℕ) (x : Transaction V) (outcome : Outcome) → Settling rules S n x outcome → Invariant rules (settled_state rules S x outcome) (map (decided n outcome) hs)
  settle_keeps n x outcome go =
      record {
        shape = settle_shape rules S hs inv n x outcome go;
        clocks = settle_clocks rules S hs inv n x outcome go;
        provenance = settle_provenance rules S hs inv n x outcome go;
        spread = settle_spread rules S hs inv n x outcome go;
        marks = settle_marks rules S hs inv n x outcome go;
        reservations = settle_reservations rules S hs inv n x outcome go;
        history = settle_history rules S hs inv n x outcome go;
        verdicts = settle_verdicts rules S hs inv n x outcome go;
        numbers = settle_numbers rules S hs inv n x outcome go;
      }
