-- A whole start at its origin. Assumes nothing.
use Rattle.std.specs.Prelude.{◌≡◌, ℕ, ◌+◌, cond, List, [], ◌∷◌, length, Ok, Err, Result, nat_lt}
use Rattle.book.specs.Meaning.{Answer}
use Rattle.records.specs.declared.line.Line.{Line}
use Rattle.records.specs.declared.message.Message.{Message}
use Rattle.records.specs.declared.transaction.Transaction.{Transaction}
use Rattle.carrier.specs.Carrying.{Queue, Appended}
use Rattle.site.specs.declared.fault.SiteFault.{SiteFault}
use Rattle.site.specs.declared.fault.SiteFault.TheVariants.{NoRecords}
use Rattle.site.specs.Tables.{Joined}
use Rattle.starting.specs.declared.start.Order.{Order}
use Rattle.starting.specs.declared.start.Room.{Room}
use Rattle.starting.specs.Landing.{start_landing}
use Rattle.starting.specs.Starting.{start_answer, start_messages}
use Rattle.steps.specs.declared.start.Started.{Started}
use Rattle.steps.specs.Handed.{Handed, site_of, free}
use Rattle.steps.specs.Numbers.{stopped}

module _ {V : Type 0} (modes : ℕ → List ℕ) (answer : ℕ → V → List V → Answer V) (order : Order V) (h : Handed V) (transactions : List (Transaction V)) where
  abbrev pub start_room : Room
  start_room = record { counter = h.used.counter; started = h.counts.started; lines = free h.lines h.used.lines; places = h.places }

  -- The transaction that is started, by a book with these modes and answers; 14 also if no transaction record is free.
  abbrev pub start_decided : Result (Transaction V) SiteFault
  start_decided =
      cond (nat_lt h.counts.started (length transactions)) (start_answer (modes order.rule) (answer order.rule) (site_of h) order start_room) (Err NoRecords)

  -- The messages that are put.
  abbrev pub start_puts : Transaction V → List (Message V)
  start_puts x = start_messages h.size h.cards order.origin (modes order.rule) x

  -- A start that is accepted: what is answered, and what the tables and the waiting messages are afterwards.
  pub record StartDone (queue : Queue V) (a : Started V) (transactions_after : List (Transaction V)) (lines_after : List (Line V)) (queue_after : Queue V) : Type 0 where
    pub decided : start_decided ≡ Ok a.transaction
    pub number : a.number ≡ h.counts.started + 1
    pub noted : Joined transactions h.counts.started (a.transaction ∷ []) a.numbers.counts.started transactions_after
    pub landed : Joined h.lines h.used.lines (start_landing (modes order.rule) a.transaction) a.numbers.used.lines lines_after
    pub verdicts : a.numbers.used.verdicts ≡ h.used.verdicts
    pub counter : a.numbers.used.counter ≡ h.used.counter + 1
    pub put : a.numbers.counts.put ≡ stopped h.counts.put (length (start_puts a.transaction))
    pub delivered : a.numbers.counts.delivered ≡ h.counts.delivered
    pub sent : Appended queue (start_puts a.transaction) queue_after

  -- A start that is refused changes nothing.
  pub record StartRefused (queue : Queue V) (fault : SiteFault) (transactions_after : List (Transaction V)) (lines_after : List (Line V)) (queue_after : Queue V) : Type 0 where
    pub decided : start_decided ≡ Err fault
    pub noted : transactions_after ≡ transactions
    pub landed : lines_after ≡ h.lines
    pub kept : queue_after ≡ queue

  abbrev pub Starts : Queue V → Result (Started V) SiteFault → List (Transaction V) → List (Line V) → Queue V → Type 0
  Starts queue (Ok a) xs ls after = StartDone queue a xs ls after
  Starts queue (Err fault) xs ls after = StartRefused queue fault xs ls after
