-- What holds of a start that is accepted. Assumes nothing.
use Rattle.std.proofs.Common.{◌≡◌, ℕ, suc, ◌+◌, ◌-◌, ◌<◌, ◌≤◌, eqb, ltb, List, [], ◌∷◌, ◌++◌, length, Some, None, Ok, Err, Option, Result, sym, refl, ap, ◌∙◌, subst, arith}
use Rattle.std.proofs.lemmas.List.{length-append}
use Rattle.std.proofs.lemmas.Bool.{cond_both, ltb-true}
use Rattle.std.proofs.lemmas.Bool.Decides.{nat_tests}
use Rattle.terms.specs.Few.{few_list}
use Rattle.terms.specs.Times.{counter_of}
use Rattle.book.specs.Meaning.{Answer, declines, gives}
use Rattle.records.specs.declared.line.Line.{Line}
use Rattle.records.specs.declared.transaction.Entry.{Entry}
use Rattle.records.specs.declared.transaction.Transaction.{Transaction}
use Rattle.knowledge.specs.Knowledge.{Site}
use Rattle.carrier.specs.Carrying.{Queue, Appended, places_left}
use Rattle.site.specs.declared.fault.SiteFault.{SiteFault}
use Rattle.site.specs.Lines.{lines_from}
use Rattle.site.specs.Tables.{Extends}
use Rattle.site.proofs.Places.{four_lines}
use Rattle.starting.specs.declared.start.Order.{Order}
use Rattle.starting.specs.declared.start.Room.{Room}
use Rattle.starting.specs.Drafting.{cards_fault}
use Rattle.starting.specs.Landing.{is_denied, landing_from, start_landing}
use Rattle.starting.specs.Reading.{values_read}
use Rattle.starting.specs.Starting.{start_messages, next_time, no_records, if_places, answered, unless_fault, ruled, timed, start_answer}
use Rattle.steps.specs.Handed.{Handed, site_of}
use Rattle.steps.specs.Numbers.{stopped}
use Rattle.steps.specs.Start.{start_room, start_decided, start_puts, StartDone}

-- How many messages were put behind those that waited.
pub put_since : {M : Type 0} (before more after : List M) → after ≡ before ++ more → length after - length before ≡ length more
put_since before more after is = let long = ap length is ∙ length-append before more in omega arith

module _ {V : Type 0} (modes : List ℕ) (answer : V → List V → Answer V) (site : Site V) (order : Order V) (room : Room) where
  -- There are line records and places enough, and the time is the one after the counter.
  pub record Fits (x : Transaction V) : Type 0 where
    pub lines : 4 ≤ room.lines
    pub places : length (start_messages site.size site.cards order.origin modes x) ≤ room.places
    pub counter : counter_of x.time ≡ room.counter + 1

  abbrev pub Fitting : Result (Transaction V) SiteFault → Type 0
  Fitting (Ok x) = Fits x
  Fitting (Err fault) = Unit {0}

  module _ (time : ℕ) (free : 4 ≤ room.lines) (next : counter_of time ≡ room.counter + 1) where
    fits_places : (x : Transaction V) → x.time ≡ time → Fitting (if_places site order room modes x)
    fits_places x at =
        cond_both (ltb room.places (length (start_messages site.size site.cards order.origin modes x))) _ _ Fitting
        (λ _. tt)
        (λ some. record { lines = free; places = grind (arith, nat_tests); counter = subst (λ t. counter_of t ≡ room.counter + 1) (sym at) next })

    fits_answered : (a : Answer V) → Fitting (answered site order room time modes a)
    fits_answered (declines code) = tt
    fits_answered (gives written) = fits_places _ refl

    fits_unless : (fault : Option SiteFault) (r : Result (Transaction V) SiteFault) → Fitting r → Fitting (unless_fault fault r)
    fits_unless None r p = p
    fits_unless (Some fault) r p = tt

    fits_ruled : Fitting (ruled modes answer site order room time)
    fits_ruled =
        cond_both (eqb (length modes) 0) _ _ Fitting
        (λ _. tt)
        (λ _. cond_both (eqb (length modes) (length (few_list order.cards))) _ _ Fitting
        (λ _. fits_unless (cards_fault site.size site.cards order.origin _ 1 (few_list order.cards)) _ (fits_answered (answer order.argument (values_read site order.argument modes (few_list order.cards)))))
        (λ _. tt))

  next_counter : (time : ℕ) → Some time ≡ next_time room.counter order.origin → counter_of time ≡ room.counter + 1
  next_counter time is = grind (arith, nat_tests)

  fits_timed : 4 ≤ room.lines → (o : Option ℕ) → o ≡ next_time room.counter order.origin → Fitting (timed modes answer site order room o)
  fits_timed free None is = tt
  fits_timed free (Some time) is = fits_ruled time free (next_counter time is)

  pub fits_start : Fitting (start_answer modes answer site order room)
  fits_start =
      cond_both (no_records site.size room) _ _ Fitting
      (λ _. tt)
      (λ some. fits_timed (grind (arith, nat_tests)) _ refl)

landing_short : {V : Type 0} (time k : ℕ) (modes : List ℕ) (es : List (Entry V)) → length (landing_from time k modes es) ≤ length (lines_from time k modes es)
landing_short time k [] es = omega arith
landing_short time k (m ∷ ms) [] = omega arith
landing_short time k (m ∷ ms) (e ∷ es) =
    let short = landing_short time (k + 1) ms es in
    cond_both (is_denied e.mark) _ _ (λ ls. length ls ≤ suc (length (lines_from time (k + 1) ms es))) (λ _. omega arith) (λ _. omega arith)

module _ {V : Type 0} (modes : ℕ → List ℕ) (answer : ℕ → V → List V → Answer V) (order : Order V) (h : Handed V) (xs : List (Transaction V)) where
  abbrev rule_modes : List ℕ
  rule_modes = modes order.rule

  pub record Accepted (x : Transaction V) : Type 0 where
    pub free : h.counts.started < length xs
    pub fits : Fits rule_modes (answer order.rule) (site_of h) order (start_room modes answer order h xs) x

  abbrev Accepting : Result (Transaction V) SiteFault → Type 0
  Accepting (Ok x) = Accepted x
  Accepting (Err fault) = Unit {0}

  accept : h.counts.started < length xs → (r : Result (Transaction V) SiteFault) → Fitting rule_modes (answer order.rule) (site_of h) order (start_room modes answer order h xs) r → Accepting r
  accept free (Ok x) fits = record { free = free; fits = fits }
  accept free (Err fault) fits = tt

  accepting : Accepting (start_decided modes answer order h xs)
  accepting =
      cond_both (ltb h.counts.started (length xs)) _ _ Accepting
      (λ some. accept (ltb-true _ _ some) _ (fits_start rule_modes (answer order.rule) (site_of h) order (start_room modes answer order h xs)))
      (λ _. tt)

  pub accepted : (x : Transaction V) → start_decided modes answer order h xs ≡ Ok x → Accepted x
  accepted x is = subst Accepting is accepting

  -- The messages of an accepted start find places.
  pub start_places : (queue : Queue V) (x : Transaction V) → length queue.waiting ≤ queue.limit → h.places ≡ places_left queue → start_decided modes answer order h xs ≡ Ok x → length queue.waiting + length (start_puts modes answer order h xs x) ≤ queue.limit
  start_places queue x bound places is = let enough = (accepted x is).fits.places in omega arith

  pub start_done : (queue : Queue V) (x : Transaction V) (landed started counter put : ℕ) (xs_after : List (Transaction V)) (ls_after : List (Line V)) (after : Queue V) → start_decided modes answer order h xs ≡ Ok x → Extends h.lines h.used.lines (start_landing rule_modes x) landed ls_after → Extends xs h.counts.started (x ∷ []) started xs_after → counter ≡ counter_of x.time → Appended queue (start_puts modes answer order h xs x) after → put ≡ stopped h.counts.put (length after.waiting - length queue.waiting) → StartDone modes answer order h xs queue (record { number = started; transaction = x; numbers = record { used = record { counter = counter; lines = landed; verdicts = h.used.verdicts }; counts = record { started = started; put = put; delivered = h.counts.delivered } } }) xs_after ls_after after
  start_done queue x landed started counter put xs_after ls_after after is lands notes count sends puts =
      let ok = accepted x is in
      let few = landing_short x.time 1 rule_modes (few_list x.entries) in
      let four = four_lines rule_modes x in
      let room = ok.fits.lines in
      let free = ok.free in
      let noted = notes.joins (omega arith) in
      record {
        decided = is;
        number = noted.count;
        noted = noted;
        landed = lands.joins (omega arith);
        verdicts = refl;
        counter = count ∙ ok.fits.counter;
        put = puts ∙ ap (stopped h.counts.put) (put_since queue.waiting _ after.waiting sends.waiting);
        delivered = refl;
        sent = sends;
      }
