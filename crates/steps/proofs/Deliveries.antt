-- What holds of a delivery that is accepted. Assumes nothing.
use Rattle.std.proofs.Common.{◌≡◌, ℕ, ◌+◌, ◌-◌, ◌<◌, ◌≤◌, true, ◌&&◌, ltb, List, [], length, take, drop, Some, None, Ok, Err, Option, Result, sym, refl, ap, ◌∙◌, subst, ⊎_elim, arith}
use Rattle.std.proofs.lemmas.List.{append-nil}
use Rattle.std.proofs.lemmas.Bool.{cond_both, ltb-true, ltb-false, cases_lt}
use Rattle.terms.specs.Kinds.{kind_of}
use Rattle.terms.specs.declared.kind.Kind.{Kind}
use Rattle.records.specs.declared.line.Line.{Line}
use Rattle.records.specs.declared.message.Message.{Message}
use Rattle.records.specs.declared.transaction.Transaction.{Transaction}
use Rattle.records.specs.declared.verdict.Verdict.{Verdict}
use Rattle.knowledge.specs.Knowledge.{Site}
use Rattle.carrier.specs.Carrying.{Queue, Appended, places_left}
use Rattle.site.specs.declared.fault.SiteFault.{SiteFault}
use Rattle.site.specs.Tables.{at_place, Joined, Extends}
use Rattle.delivering.specs.declared.effect.Effect.{Effect}
use Rattle.delivering.specs.declared.effect.Effect.TheVariants.{Nothing, Lands, Confirms, Denies, Marks, Records}
use Rattle.delivering.specs.declared.effect.Room.{Room}
use Rattle.delivering.specs.Delivery.{in_range, expected, effect_of, raised, delivery_of, delivery}
use Rattle.delivering.specs.Effects.{landing, recording, replies, fits}
use Rattle.delivering.specs.Owns.{own_place, remarked}
use Rattle.steps.specs.declared.numbers.Used.{Used}
use Rattle.steps.specs.Deliver.{if_answerable, room_of, place_of_own, own, deliver_decided, OthersStay, DeliverDone}
use Rattle.steps.specs.Handed.{Handed, site_of}
use Rattle.steps.specs.Numbers.{stopped}
use Rattle.steps.proofs.Others.{others}
use Rattle.steps.proofs.Starts.{put_since}

-- A call that writes no more records leaves the table as it was.
pub none_joined : {X : Type 0} (before : List X) (used count : ℕ) (after : List X) → Extends before used [] count after → Joined before used [] count after
none_joined before used count after e =
    ⊎_elim
    (λ (past : length before < used).
    let same = e.full (omega arith) in
    record {
      count = same.count ∙ (let more : used ≡ used + 0 = omega arith in more);
      front = (λ i. take (same.count i) (same.kept i)) ∙ sym (append-nil (take used before));
      past = ap (drop count) same.kept;
    })
    (λ (within : used ≤ length before). e.joins (omega arith))
    (cases_lt (length before) used)

module _ {V : Type 0} (room : Room) where
  abbrev Fitting : Result (Effect V) SiteFault → Type 0
  Fitting (Ok e) = fits room e ≡ true
  Fitting (Err fault) = Unit {0}

  fits_of : (site : Site V) (own : Option (Transaction V)) (kind : Option Kind) (m : Message V) → Fitting (delivery_of site room own kind m)
  fits_of site x None m = tt
  fits_of site x (Some kind) m =
      cond_both (in_range site.size m && expected site x kind m) _ _ Fitting
      (λ _. cond_both (fits room (effect_of site x kind m)) _ _ Fitting (λ some. some) (λ _. tt))
      (λ _. tt)

module _ {V : Type 0} (used : Used) (lines : List (Line V)) (verdicts : List Verdict) (m : Message V) where
  lands_joined : (e : Effect V) (count : ℕ) (after : List (Line V)) → fits (room_of used lines verdicts) e ≡ true → Extends lines used.lines (landing e m) count after → Joined lines used.lines (landing e m) count after
  lands_joined Nothing count after free e = none_joined _ _ _ _ e
  lands_joined Lands count after free e = let room = ltb-true _ _ free in e.joins (omega arith)
  lands_joined Confirms count after free e = let room = ltb-true _ _ free in e.joins (omega arith)
  lands_joined Denies count after free e = none_joined _ _ _ _ e
  lands_joined (Marks x) count after free e = none_joined _ _ _ _ e
  lands_joined (Records outcome) count after free e = none_joined _ _ _ _ e

  records_joined : (e : Effect V) (count : ℕ) (after : List Verdict) → fits (room_of used lines verdicts) e ≡ true → Extends verdicts used.verdicts (recording e m) count after → Joined verdicts used.verdicts (recording e m) count after
  records_joined Nothing count after free e = none_joined _ _ _ _ e
  records_joined Lands count after free e = none_joined _ _ _ _ e
  records_joined Confirms count after free e = none_joined _ _ _ _ e
  records_joined Denies count after free e = none_joined _ _ _ _ e
  records_joined (Marks x) count after free e = none_joined _ _ _ _ e
  records_joined (Records outcome) count after free e = let room = ltb-true _ _ free in e.joins (omega arith)

module _ {V : Type 0} (modes : ℕ → List ℕ) (m : Message V) (h : Handed V) (xs : List (Transaction V)) where
  record Accepted (e : Effect V) : Type 0 where
    records : fits (room_of h.used h.lines h.verdicts) e ≡ true
    places : length (replies e m) ≤ h.places

  abbrev Accepting : Result (Effect V) SiteFault → Type 0
  Accepting (Ok e) = Accepted e
  Accepting (Err fault) = Unit {0}

  accept : (r : Result (Effect V) SiteFault) → Fitting (room_of h.used h.lines h.verdicts) r → Accepting (if_answerable h.places m r)
  accept (Ok e) free = cond_both (ltb h.places (length (replies e m))) _ _ Accepting (λ _. tt) (λ some. record { records = free; places = ltb-false _ _ some })
  accept (Err fault) free = tt

  accepted : (e : Effect V) → deliver_decided modes m h xs ≡ Ok e → Accepted e
  accepted e is =
      let room = room_of h.used h.lines h.verdicts in
      subst Accepting is (accept (delivery (site_of h) room (own modes m h xs) m) (fits_of room (site_of h) (own modes m h xs) (kind_of m.kind) m))

  pub own_place_of : (started : List (Transaction V)) (place : Option ℕ) → started ≡ take h.counts.started xs → place ≡ own_place h.size h.cards modes m.to m.line.time started → place ≡ place_of_own modes m h xs
  own_place_of started place used found = found ∙ ap (own_place h.size h.cards modes m.to m.line.time) used

  pub decided_by : (started : List (Transaction V)) (place : Option ℕ) (o : Option (Transaction V)) (free : ℕ) → started ≡ take h.counts.started xs → place ≡ place_of_own modes m h xs → o ≡ at_place started place → free ≡ h.places → if_answerable free m (delivery (site_of h) (room_of h.used h.lines h.verdicts) o m) ≡ deliver_decided modes m h xs
  decided_by started place o free used found got places = (λ i. if_answerable (places i) m (delivery (site_of h) (room_of h.used h.lines h.verdicts) ((got ∙ (λ j. at_place (used j) (found j))) i) m))

  -- The reply to an accepted delivery finds a place.
  pub reply_places : (queue : Queue V) (e : Effect V) → length queue.waiting ≤ queue.limit → h.places ≡ places_left queue → deliver_decided modes m h xs ≡ Ok e → length queue.waiting + length (replies e m) ≤ queue.limit
  reply_places queue e bound places is = let enough = (accepted e is).places in omega arith

  pub deliver_done : (queue : Queue V) (e : Effect V) (landed recorded counter put delivered : ℕ) (xs_after : List (Transaction V)) (ls_after : List (Line V)) (vs_after : List Verdict) (after : Queue V) → deliver_decided modes m h xs ≡ Ok e → xs_after ≡ remarked e (place_of_own modes m h xs) xs → Extends h.lines h.used.lines (landing e m) landed ls_after → Extends h.verdicts h.used.verdicts (recording e m) recorded vs_after → counter ≡ raised h.used.counter m.line.time → Appended queue (replies e m) after → put ≡ stopped h.counts.put (length after.waiting - length queue.waiting) → delivered ≡ stopped h.counts.delivered 1 → DeliverDone modes m h xs queue (record { effect = e; numbers = record { used = record { counter = counter; lines = landed; verdicts = recorded }; counts = record { started = h.counts.started; put = put; delivered = delivered } } }) xs_after ls_after vs_after after
  deliver_done queue e landed recorded counter put delivered xs_after ls_after vs_after after is marks lands records count sends puts delivers =
      let free = (accepted e is).records in
      record {
        decided = is;
        marked = marks;
        others = subst (OthersStay m.to xs) (sym marks) (others modes m h xs e (place_of_own modes m h xs) refl);
        landed = lands_joined h.used h.lines h.verdicts m e landed ls_after free lands;
        recorded = records_joined h.used h.lines h.verdicts m e recorded vs_after free records;
        counter = count;
        started = refl;
        put = puts ∙ ap (stopped h.counts.put) (put_since queue.waiting _ after.waiting sends.waiting);
        delivered = delivers;
        sent = sends;
      }
