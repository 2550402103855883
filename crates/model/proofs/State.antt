-- A sitting as the proof sees it: the used records of each site as a list. Assumes nothing.
use Rattle.std.proofs.Common.{ℕ, cond, eqb, List, ◌++◌, length, Option}
use Rattle.terms.specs.declared.outcome.Outcome.{Outcome}
use Rattle.records.specs.declared.card.Card.{Card}
use Rattle.records.specs.declared.line.Line.{Line}
use Rattle.records.specs.declared.message.Message.{Message}
use Rattle.records.specs.declared.size.Size.{Size}
use Rattle.records.specs.declared.transaction.Transaction.{Transaction}
use Rattle.records.specs.declared.verdict.Verdict.{Verdict}
use Rattle.knowledge.specs.Knowledge.{Site, known}
use Rattle.steps.specs.Numbers.{stopped}
use Rattle.model.specs.Tables.{used_of}
use Rattle.model.specs.World.{World, Change, line_share, verdict_share, declared_cards, started_ones, counter_at, landed_at, recorded_at}

pub record State (V : Type 0) : Type 0 where
  pub size : Size
  pub cards : List (Card V)
  pub transactions : List (Transaction V)
  pub lines : ℕ → List (Line V)
  pub verdicts : ℕ → List Verdict
  pub counter : ℕ → ℕ
  pub waiting : List (Message V)
  pub put : ℕ
  pub delivered : ℕ

abbrev pub state_of : {V : Type 0} → World V → State V
state_of w =
    record {
      size = w.size;
      cards = declared_cards w;
      transactions = started_ones w;
      lines = λ s. used_of w.lines (line_share w.size) s (landed_at w s);
      verdicts = λ s. used_of w.verdicts (verdict_share w.size) s (recorded_at w s);
      counter = λ s. counter_at w s;
      waiting = w.waiting;
      put = w.put;
      delivered = w.delivered;
    }

-- What a site knows.
abbrev pub knows_at : {V : Type 0} → State V → ℕ → Site V
knows_at S s = record { size = S.size; cards = S.cards; lines = S.lines s; verdicts = S.verdicts s }

abbrev pub told : {V : Type 0} → State V → ℕ → ℕ → Option Outcome
told S s time = known (knows_at S s) time

-- The state after a change at one site, with the transactions and the messages that wait as given.
abbrev pub moved : {V : Type 0} → State V → List (Message V) → ℕ → List (Transaction V) → Change V → State V
moved S waiting delivered transactions c =
    record {
      size = S.size;
      cards = S.cards;
      transactions = transactions;
      lines = λ s. cond (eqb s c.site) (S.lines s ++ c.lines) (S.lines s);
      verdicts = λ s. cond (eqb s c.site) (S.verdicts s ++ c.verdicts) (S.verdicts s);
      counter = λ s. cond (eqb s c.site) c.counter (S.counter s);
      waiting = waiting ++ c.messages;
      put = stopped S.put (length c.messages);
      delivered = delivered;
    }
