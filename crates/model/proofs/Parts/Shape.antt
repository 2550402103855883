-- Of a transaction started: its record is in range, its lines are on different cards that its origin holds, and a line
-- that reads has read a version of lower time. Assumes nothing.
use Rattle.std.proofs.Common.{◌≡◌, ℕ, ◌<◌, ◌≤◌, true, false, ◌⊎◌, List, [], ◌∷◌, map, length, Some}
use Rattle.terms.specs.Lists.{In}
use Rattle.terms.specs.Modes.{reads}
use Rattle.records.specs.declared.card.Card.{Card}
use Rattle.records.specs.declared.line.Line.{Line}
use Rattle.records.specs.declared.transaction.Transaction.{Transaction}
use Rattle.records.specs.Present.{time_in_range, transaction_present, holds}
use Rattle.model.specs.Rules.{Rules}
use Rattle.model.proofs.State.{State}
use Rattle.model.proofs.Lots.{Lot, lots, origin, card_in}

pub record Shaped {V : Type 0} (S : State V) (l : Line V) : Type 0 where
  pub ranged : time_in_range S.size l.time ≡ true
  pub from_1 : 1 ≤ l.number
  pub to_4 : l.number ≤ 4
  pub card : Card V
  pub card_is : card_in S l ≡ Some card
  pub held : holds card.holders (origin l) ≡ true
  pub mode_from_1 : 1 ≤ l.mode
  pub mode_to_3 : l.mode ≤ 3
  pub read_before : reads l.mode ≡ true → l.read < l.time
  pub read_own : reads l.mode ≡ false → l.read ≡ l.time

-- Two numbers of a list never agree.
abbrev pub Distinct : List ℕ → Type 0
Distinct [] = Unit {0}
Distinct (n ∷ ns) = (In n ns → ⊥) × Distinct ns

pub record Shape {V : Type 0} (rules : Rules V) (S : State V) : Type 0 where
  pub shaped : (b : Lot V) → In b (lots rules S) → Shaped S b.line
  -- The lines of one transaction differ in card and number.
  pub one_each : (a b : Lot V) → In a (lots rules S) → In b (lots rules S) → a.line.time ≡ b.line.time → (a.line.card ≡ b.line.card) ⊎ (a.line.number ≡ b.line.number) → a ≡ b
  pub present : (x : Transaction V) → In x S.transactions → transaction_present S.size S.cards (length (rules.modes x.rule)) x ≡ true
  pub times_differ : Distinct (map (λ x. x.time) S.transactions)
