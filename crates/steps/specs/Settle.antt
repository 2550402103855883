-- A whole settlement at a transaction's origin. Assumes nothing.
use Rattle.std.specs.Prelude.{◌≡◌, ℕ, List, [], ◌∷◌, length, Ok, Err, Result, nat_lt}
use Rattle.terms.specs.declared.outcome.Outcome.{Outcome}
use Rattle.records.specs.declared.message.Message.{Message}
use Rattle.records.specs.declared.transaction.Transaction.{Transaction}
use Rattle.records.specs.declared.verdict.Verdict.{Verdict}
use Rattle.carrier.specs.Carrying.{Queue, Appended}
use Rattle.site.specs.declared.fault.SiteFault.{SiteFault}
use Rattle.site.specs.Tables.{Joined}
use Rattle.settling.specs.Settling.{settlement, verdict_messages}
use Rattle.steps.specs.declared.settle.Settled.{Settled}
use Rattle.steps.specs.Handed.{Handed, site_of}
use Rattle.steps.specs.Numbers.{stopped}

module _ {V : Type 0} (modes : ℕ → List ℕ) (x : Transaction V) (h : Handed V) where
  -- The outcome of the transaction, by a book with these modes.
  abbrev pub settle_decided : Result Outcome SiteFault
  settle_decided = settlement (site_of h) (nat_lt h.used.verdicts (length h.verdicts)) h.places (modes x.rule) x

  abbrev pub settle_puts : Outcome → List (Message V)
  settle_puts outcome = verdict_messages (site_of h) (modes x.rule) x outcome

  -- A settlement that is accepted: what is answered, and what the verdicts and the waiting messages are afterwards.
  pub record SettleDone (queue : Queue V) (a : Settled) (verdicts_after : List Verdict) (queue_after : Queue V) : Type 0 where
    pub decided : settle_decided ≡ Ok a.outcome
    pub recorded : Joined h.verdicts h.used.verdicts (record { time = x.time; outcome = a.outcome } ∷ []) a.numbers.used.verdicts verdicts_after
    pub lines : a.numbers.used.lines ≡ h.used.lines
    pub counter : a.numbers.used.counter ≡ h.used.counter
    pub started : a.numbers.counts.started ≡ h.counts.started
    pub put : a.numbers.counts.put ≡ stopped h.counts.put (length (settle_puts a.outcome))
    pub delivered : a.numbers.counts.delivered ≡ h.counts.delivered
    pub sent : Appended queue (settle_puts a.outcome) queue_after

  -- A settlement that is refused changes nothing.
  pub record SettleRefused (queue : Queue V) (fault : SiteFault) (verdicts_after : List Verdict) (queue_after : Queue V) : Type 0 where
    pub decided : settle_decided ≡ Err fault
    pub recorded : verdicts_after ≡ h.verdicts
    pub kept : queue_after ≡ queue

  abbrev pub Settles : Queue V → Result Settled SiteFault → List Verdict → Queue V → Type 0
  Settles queue (Ok a) vs after = SettleDone queue a vs after
  Settles queue (Err fault) vs after = SettleRefused queue fault vs after
