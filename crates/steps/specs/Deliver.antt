-- A whole delivery at its receiver. Assumes nothing.
use Rattle.std.specs.Prelude.{◌≡◌, ℕ, cond, List, length, take, Some, Ok, Err, Option, Result, ◌≢◌, nat_lt}
use Rattle.std.specs.List.{slice_get}
use Rattle.terms.specs.Times.{site_of as origin_of}
use Rattle.records.specs.declared.line.Line.{Line}
use Rattle.records.specs.declared.message.Message.{Message}
use Rattle.records.specs.declared.transaction.Transaction.{Transaction}
use Rattle.records.specs.declared.verdict.Verdict.{Verdict}
use Rattle.carrier.specs.Carrying.{Queue, Appended}
use Rattle.site.specs.declared.fault.SiteFault.{SiteFault}
use Rattle.site.specs.declared.fault.SiteFault.TheVariants.{NoPlaces}
use Rattle.site.specs.Tables.{at_place, Joined}
use Rattle.delivering.specs.declared.effect.Effect.{Effect}
use Rattle.delivering.specs.declared.effect.Room.{Room}
use Rattle.delivering.specs.Delivery.{raised, delivery}
use Rattle.delivering.specs.Effects.{landing, recording, replies}
use Rattle.delivering.specs.Owns.{own_place, remarked}
use Rattle.steps.specs.declared.deliver.Delivered.{Delivered}
use Rattle.steps.specs.declared.numbers.Used.{Used}
use Rattle.steps.specs.Handed.{Handed, site_of}
use Rattle.steps.specs.Numbers.{stopped}

-- 15 if the reply finds no place.
abbrev pub if_answerable : {V : Type 0} → ℕ → Message V → Result (Effect V) SiteFault → Result (Effect V) SiteFault
if_answerable places m (Ok e) = cond (nat_lt places (length (replies e m))) (Err NoPlaces) (Ok e)
if_answerable places m (Err fault) = Err fault

-- Each record of a transaction that another site started is where it was, as it was.
abbrev pub OthersStay : {V : Type 0} → ℕ → List (Transaction V) → List (Transaction V) → Type 0
OthersStay {V} site before after = (i : ℕ) (x : Transaction V) → slice_get before i ≡ Some x → (origin_of x.time ≢ site) → slice_get after i ≡ Some x

-- Whether a line record and a verdict record are free.
abbrev pub room_of : {V : Type 0} → Used → List (Line V) → List Verdict → Room
room_of used lines verdicts = record { line = nat_lt used.lines (length lines); verdict = nat_lt used.verdicts (length verdicts) }

module _ {V : Type 0} (modes : ℕ → List ℕ) (m : Message V) (h : Handed V) (transactions : List (Transaction V)) where
  -- Where the receiver's own transaction with the message's time is kept, by a book with these modes.
  abbrev pub place_of_own : Option ℕ
  place_of_own = own_place h.size h.cards modes m.to m.line.time (take h.counts.started transactions)

  abbrev pub own : Option (Transaction V)
  own = at_place (take h.counts.started transactions) place_of_own

  -- The effect of the delivery.
  abbrev pub deliver_decided : Result (Effect V) SiteFault
  deliver_decided = if_answerable h.places m (delivery (site_of h) (room_of h.used h.lines h.verdicts) own m)

  -- A delivery that is accepted: what is answered, and what the tables and the waiting messages are afterwards. The
  -- table of transactions differs at most at the receiver's own.
  pub record DeliverDone (queue : Queue V) (a : Delivered V) (transactions_after : List (Transaction V)) (lines_after : List (Line V)) (verdicts_after : List Verdict) (queue_after : Queue V) : Type 0 where
    pub decided : deliver_decided ≡ Ok a.effect
    pub marked : transactions_after ≡ remarked a.effect place_of_own transactions
    pub others : OthersStay m.to transactions transactions_after
    pub landed : Joined h.lines h.used.lines (landing a.effect m) a.numbers.used.lines lines_after
    pub recorded : Joined h.verdicts h.used.verdicts (recording a.effect m) a.numbers.used.verdicts verdicts_after
    pub counter : a.numbers.used.counter ≡ raised h.used.counter m.line.time
    pub started : a.numbers.counts.started ≡ h.counts.started
    pub put : a.numbers.counts.put ≡ stopped h.counts.put (length (replies a.effect m))
    pub delivered : a.numbers.counts.delivered ≡ stopped h.counts.delivered 1
    pub sent : Appended queue (replies a.effect m) queue_after

  -- A delivery that is refused changes nothing.
  pub record DeliverRefused (queue : Queue V) (fault : SiteFault) (transactions_after : List (Transaction V)) (lines_after : List (Line V)) (verdicts_after : List Verdict) (queue_after : Queue V) : Type 0 where
    pub decided : deliver_decided ≡ Err fault
    pub marked : transactions_after ≡ transactions
    pub landed : lines_after ≡ h.lines
    pub recorded : verdicts_after ≡ h.verdicts
    pub kept : queue_after ≡ queue

  abbrev pub Delivers : Queue V → Result (Delivered V) SiteFault → List (Transaction V) → List (Line V) → List Verdict → Queue V → Type 0
  Delivers queue (Ok a) xs ls vs after = DeliverDone queue a xs ls vs after
  Delivers queue (Err fault) xs ls vs after = DeliverRefused queue fault xs ls vs after
