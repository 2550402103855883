-- What holds of a settlement that is accepted. Assumes nothing.
use Rattle.std.proofs.Common.{◌≡◌, ℕ, ◌+◌, ◌-◌, ◌≤◌, Bool, true, ltb, List, [], ◌∷◌, map, length, is_some, Some, None, Ok, Err, Option, Result, refl, ap, ◌∙◌, subst, arith}
use Rattle.std.proofs.lemmas.List.{length-map}
use Rattle.std.proofs.lemmas.Bool.{cond_both, ltb-true, ltb-false}
use Rattle.terms.specs.declared.outcome.Outcome.{Outcome}
use Rattle.terms.specs.Kinds.{kind_number, verdict_kind}
use Rattle.terms.specs.Times.{site_of as origin_of}
use Rattle.records.specs.declared.line.Line.{Line}
use Rattle.records.specs.declared.message.Message.{Message}
use Rattle.records.specs.declared.transaction.Transaction.{Transaction}
use Rattle.records.specs.declared.verdict.Verdict.{Verdict}
use Rattle.knowledge.specs.Knowledge.{known}
use Rattle.carrier.specs.Carrying.{Queue, Appended, places_left}
use Rattle.site.specs.declared.fault.SiteFault.{SiteFault}
use Rattle.site.specs.Lines.{lines_of}
use Rattle.site.specs.Tables.{Extends}
use Rattle.settling.specs.Settling.{due, told_sites, repeating, settling, settlement}
use Rattle.steps.specs.Handed.{Handed, site_of}
use Rattle.steps.specs.Numbers.{stopped}
use Rattle.steps.specs.Settle.{settle_decided, settle_puts, SettleDone}
use Rattle.steps.proofs.Starts.{put_since}

-- A verdict takes at most one message for each site that is told.
told_once : {V : Type 0} (kind from : ℕ) (ls : List (Line V)) (sites : List ℕ) → length (repeating kind from ls sites) ≤ length sites
told_once kind from [] sites = omega arith
told_once {V = V} kind from (l ∷ ls) sites = let to : ℕ → Message V = λ s. record { kind = kind; from = from; to = s; line = l } in let long : length (map to sites) ≡ length sites = length-map sites to in omega arith

module _ (free : Bool) (places messages : ℕ) where
  record Accepted : Type 0 where
    record_free : free ≡ true
    enough : messages ≤ places

  abbrev Accepting : Result Outcome SiteFault → Type 0
  Accepting (Ok o) = Accepted
  Accepting (Err fault) = Unit {0}

  accepts : (o : Option Outcome) → Accepting (settling free places messages o)
  accepts None = tt
  accepts (Some o) =
      cond_both free _ _ Accepting
      (λ some. cond_both (ltb places messages) _ _ Accepting (λ _. tt) (λ within. record { record_free = some; enough = ltb-false _ _ within }))
      (λ _. tt)

module _ {V : Type 0} (modes : ℕ → List ℕ) (x : Transaction V) (h : Handed V) where
  pub decided_by : (places : ℕ) (ms : List ℕ) → places ≡ h.places → ms ≡ modes x.rule → settlement (site_of h) (ltb h.used.verdicts (length h.verdicts)) places ms x ≡ settle_decided modes x h
  decided_by places ms p q = λ i. settlement (site_of h) (ltb h.used.verdicts (length h.verdicts)) (p i) (q i) x

  accepted : (o : Outcome) → settle_decided modes x h ≡ Ok o → Accepted (ltb h.used.verdicts (length h.verdicts)) h.places (length (told_sites (site_of h) (modes x.rule) x))
  accepted o is =
      let free = ltb h.used.verdicts (length h.verdicts) in
      let messages = length (told_sites (site_of h) (modes x.rule) x) in
      subst (Accepting free h.places messages) is
      (cond_both (is_some (known (site_of h) x.time)) _ _ (Accepting free h.places messages) (λ _. tt) (λ _. accepts free h.places messages (due (site_of h) (modes x.rule) x)))

  -- The messages of an accepted settlement find places.
  pub tell_places : (queue : Queue V) (o : Outcome) → length queue.waiting ≤ queue.limit → h.places ≡ places_left queue → settle_decided modes x h ≡ Ok o → length queue.waiting + length (settle_puts modes x h o) ≤ queue.limit
  tell_places queue o bound places is =
      let enough = (accepted o is).enough in
      let once = told_once (kind_number (verdict_kind o)) (origin_of x.time) (lines_of (modes x.rule) x) (told_sites (site_of h) (modes x.rule) x) in
      omega arith

  pub settle_done : (queue : Queue V) (o : Outcome) (recorded put : ℕ) (vs_after : List Verdict) (after : Queue V) → settle_decided modes x h ≡ Ok o → Extends h.verdicts h.used.verdicts (record { time = x.time; outcome = o } ∷ []) recorded vs_after → Appended queue (settle_puts modes x h o) after → put ≡ stopped h.counts.put (length after.waiting - length queue.waiting) → SettleDone modes x h queue (record { outcome = o; numbers = record { used = record { counter = h.used.counter; lines = h.used.lines; verdicts = recorded }; counts = record { started = h.counts.started; put = put; delivered = h.counts.delivered } } }) vs_after after
  settle_done queue o recorded put vs_after after is records sends puts =
      let room = ltb-true _ _ (accepted o is).record_free in
      record {
        decided = is;
        recorded = records.joins (omega arith);
        lines = refl;
        counter = refl;
        started = refl;
        put = puts ∙ ap (stopped h.counts.put) (put_since queue.waiting _ after.waiting sends.waiting);
        delivered = refl;
        sent = sends;
      }
