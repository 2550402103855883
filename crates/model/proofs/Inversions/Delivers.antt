-- A message that waits is delivered, as a move of the state. Assumes nothing.
use Rattle.std.proofs.Common.{◌≡◌, ℕ, ◌+◌, ◌<◌, ◌≤◌, Bool, true, false, cond, ◌&&◌, ◌⊎◌, List, length, take, is_some, Some, None, Ok, Option, sym, refl, ap, ◌∙◌, subst, inl, inr, ⊎_elim, arith}
use lib.Seq.{take-set-lt}
use Rattle.std.specs.List.{slice_get}
use Rattle.std.proofs.lemmas.List.{length-set}
use Rattle.std.proofs.lemmas.Option.{slice_get_past}
use Rattle.std.proofs.lemmas.Bool.{and_from, eq-eqb, eqb-true, eqb-false, lt-ltb, cases_lt, cond-true, false≢true}
use Rattle.terms.specs.declared.kind.Kind.{Kind}
use Rattle.terms.specs.declared.kind.Kind.TheVariants as kind
use Rattle.terms.specs.declared.outcome.Outcome.{Outcome}
use Rattle.terms.specs.declared.outcome.Outcome.TheVariants.{Commit, Abort}
use Rattle.terms.specs.Kinds.{kind_number, kind_of, verdict_kind}
use Rattle.terms.specs.Lists.{In}
use Rattle.records.specs.declared.card.Card.{Card}
use Rattle.records.specs.declared.message.Message.{Message}
use Rattle.records.specs.declared.transaction.Transaction.{Transaction}
use Rattle.records.specs.Present.{holds}
use Rattle.knowledge.specs.Check.{denied}
use Rattle.knowledge.specs.Knowledge.{Site, aborted}
use Rattle.delivering.specs.declared.effect.Effect.{Effect}
use Rattle.delivering.specs.declared.effect.Effect.TheVariants.{Nothing, Lands, Confirms, Denies, Marks, Records}
use Rattle.delivering.specs.Delivery.{in_range, is_primary, line_here, expected, mark_effect, effect_of, delivery_of}
use Rattle.delivering.specs.Effects.{landing, recording, fits}
use Rattle.delivering.specs.Marks.{transaction_marked, has_line}
use Rattle.delivering.specs.Owns.{own_place, remarked}
use Rattle.site.specs.Tables.{at_place, replaced}
use Rattle.model.specs.Calls.{deliver_room, own_of, deliver_outcome}
use Rattle.model.specs.Rules.{Rules}
use Rattle.model.specs.Single.{Noted}
use Rattle.model.specs.World.{World, line_share, verdict_share, declared_cards, started_ones, landed_at, recorded_at, site_in}
use Rattle.model.proofs.State.{State, state_of, told}
use Rattle.model.proofs.Lots.{lot, origin, card_in, primary_of}
use Rattle.model.proofs.Moves.{Delivering, Taking, line_dropped, line_landed, line_confirmed, line_denied, line_marked, verdict_known, verdict_recorded}
use Rattle.model.proofs.Invariant.{Invariant}
use Rattle.model.proofs.Cases.{none_some}
use Rattle.model.proofs.Members.{in_nth}
use Rattle.model.proofs.Sites.{goes_holds}
use Rattle.model.proofs.Arrivals.{a_verdict}
use Rattle.model.proofs.Checked.{shaped_present}
use Rattle.model.proofs.Frames.{Frame, sites_few}
use Rattle.model.proofs.Inversions.Rooms.{line_room, verdict_room, landed_count, recorded_count}
use Rattle.model.proofs.Inversions.Starts.{started_count}
use Rattle.model.proofs.Inversions.Owners.{Own, own_of_line}
use Rattle.model.proofs.Parts.Provenance.{Sent, SentAs, as_line, as_reply, as_verdict}
use Rattle.model.proofs.Parts.Shape.{Shaped}
use Rattle.site.specs.Lines.{is_holder}

-- A message that waits is delivered: its effect is a move, and the records that it needs are free.
pub record DeliverMove {V : Type 0} (rules : Rules V) (w : World V) (place : ℕ) (m : Message V) : Type 0 where
  pub effect : Effect V
  pub outcome_is : deliver_outcome rules w m ≡ Ok effect
  pub taking : Taking rules (state_of w) place m
  pub delivering : Delivering rules (state_of w) m effect (take w.started (remarked effect (own_of rules w m) w.transactions))
  pub lines_free : landed_at w m.to + length (landing effect m) ≤ line_share w.size
  pub verdicts_free : recorded_at w m.to + length (recording effect m) ≤ verdict_share w.size
  pub as_many : length (remarked effect (own_of rules w m) w.transactions) ≡ length w.transactions

kind_back : (k : Kind) → kind_of (kind_number k) ≡ Some k
kind_back kind.Line = refl
kind_back kind.Confirm = refl
kind_back kind.Deny = refl
kind_back kind.Commit = refl
kind_back kind.Abort = refl

replaced_many : {X : Type 0} (o : Option ℕ) (xs : List X) (x : X) → length (replaced xs o x) ≡ length xs
replaced_many None xs x = refl
replaced_many (Some i) xs x = length-set xs i x

remarked_many : {V : Type 0} (e : Effect V) (o : Option ℕ) (xs : List (Transaction V)) → length (remarked e o xs) ≡ length xs
remarked_many Nothing o xs = refl
remarked_many Lands o xs = refl
remarked_many Confirms o xs = refl
remarked_many Denies o xs = refl
remarked_many (Marks x) o xs = replaced_many o xs x
remarked_many (Records outcome) o xs = refl

is_the_primary : {V : Type 0} (card : Option (Card V)) (s : ℕ) → is_primary card s ≡ true → primary_of card ≡ s
is_the_primary None s e = absurd (false≢true e)
is_the_primary (Some card) s e = eqb-true card.primary s e

not_the_primary : {V : Type 0} (card : Option (Card V)) (s : ℕ) → s < 8 → is_primary card s ≡ false → primary_of card ≡ s → ⊥
not_the_primary None s few e is = omega arith
not_the_primary (Some card) s few e is = eqb-false card.primary s e is

module _ {V : Type 0} (rules : Rules V) (w : World V) (frame : Frame w) (hs : List (Noted V)) (inv : Invariant rules (state_of w) hs) (place : ℕ) (m : Message V) (waits : slice_get w.waiting place ≡ Some m) where
  abbrev S : State V
  S = state_of w

  abbrev site : Site V
  site = site_in w m.to

  abbrev own : Option (Transaction V)
  own = at_place (started_ones w) (own_of rules w m)

  present : In m w.waiting
  present = in_nth m w.waiting place waits

  sent : Sent rules S m
  sent = inv.provenance.messages m present

  shaped : Shaped S m.line
  shaped = inv.shape.shaped (lot m.line sent.started.mark) sent.started.noted

  ranged : in_range w.size m ≡ true
  ranged = and_from _ _ (and_from _ _ (lt-ltb _ _ sent.from_there) (lt-ltb _ _ sent.to_there)) shaped.ranged

  -- The message's line is here if the receiver holds its card.
  here_if : holds shaped.card.holders m.to ≡ true → line_here site m ≡ true
  here_if h = and_from _ _ (shaped_present S m.line shaped) (ap (λ c. is_holder c m.to) shaped.card_is ∙ h)

  line_free : m.kind ≡ 1 → landed_at w m.to < line_share w.size
  line_free is = subst (λ n. n < line_share w.size) (landed_count w frame m.to sent.to_there) (line_room rules S hs inv m present m.to (and_from _ _ (eq-eqb m.kind 1 is) (eq-eqb m.to m.to refl)))

  verdict_free : (outcome : Outcome) → m.kind ≡ kind_number (verdict_kind outcome) → recorded_at w m.to < verdict_share w.size
  verdict_free outcome is = subst (λ n. n < verdict_share w.size) (recorded_count w frame m.to sent.to_there) (verdict_room rules S hs inv m present m.to (and_from _ _ (a_verdict outcome m.kind is) (eq-eqb m.to m.to refl)))

  -- An effect is a move, and the records that it needs are free.
  record Works (e : Effect V) : Type 0 where
    delivering : Delivering rules S m e (take w.started (remarked e (own_of rules w m) w.transactions))
    fits_is : fits (deliver_room w m.to) e ≡ true
    lines_free : landed_at w m.to + length (landing e m) ≤ line_share w.size
    verdicts_free : recorded_at w m.to + length (recording e m) ≤ verdict_share w.size

  no_line : landed_at w m.to + 0 ≤ line_share w.size
  no_line = let fit = frame.landed_fit m.to in omega arith

  no_verdict : recorded_at w m.to + 0 ≤ verdict_share w.size
  no_verdict = let fit = frame.recorded_fit m.to in omega arith

  module _ (is : m.kind ≡ 1) where
    line_works : (dropped checks refused : Bool) → aborted site m.line.time ≡ dropped → is_primary (card_in S m.line) m.to ≡ checks → denied site m.line ≡ refused → Works (cond dropped Nothing (cond checks (cond refused Denies Confirms) Lands))
    line_works true checks refused a p d = record { delivering = line_dropped is a; fits_is = refl; lines_free = no_line; verdicts_free = no_verdict }
    line_works false true true a p d = record { delivering = line_denied is a (is_the_primary (card_in S m.line) m.to p) d; fits_is = refl; lines_free = no_line; verdicts_free = no_verdict }
    line_works false true false a p d = record { delivering = line_confirmed is a (is_the_primary (card_in S m.line) m.to p) d; fits_is = lt-ltb _ _ (line_free is); lines_free = omega (arith, line_free is); verdicts_free = no_verdict }
    line_works false false refused a p d = record { delivering = line_landed is a (not_the_primary (card_in S m.line) m.to (let few = sites_few w frame in let there = sent.to_there in omega arith) p); fits_is = lt-ltb _ _ (line_free is); lines_free = omega (arith, line_free is); verdicts_free = no_verdict }

  verdict_works : (outcome : Outcome) → m.kind ≡ kind_number (verdict_kind outcome) → (before : Option Outcome) → told S m.to m.line.time ≡ before → Works (cond (is_some before) Nothing (Records outcome))
  verdict_works outcome is (Some before) known = record { delivering = verdict_known outcome before is known; fits_is = refl; lines_free = no_line; verdicts_free = no_verdict }
  verdict_works outcome is None known = record { delivering = verdict_recorded outcome is known; fits_is = lt-ltb _ _ (verdict_free outcome is); lines_free = no_line; verdicts_free = omega (arith, verdict_free outcome is) }

  module _ (back : m.to ≡ origin m.line) where
    owned : Own rules S m.line
    owned = own_of_line rules S inv.shape m.line sent.started.mark sent.started.noted

    placed : own_of rules w m ≡ Some owned.place
    placed = ap (λ s. own_place w.size (declared_cards w) rules.modes s m.line.time (started_ones w)) back ∙ owned.placed

    own_is : own ≡ Some owned.x
    own_is = ap (at_place (started_ones w)) placed ∙ owned.found

    inside : owned.place < w.started
    inside =
        ⊎_elim
        (λ (l : owned.place < length (started_ones w)). subst (λ n. owned.place < n) (started_count w frame) l)
        (λ (l : length (started_ones w) ≤ owned.place). absurd (none_some owned.x (sym (slice_get_past (started_ones w) owned.place l) ∙ owned.found)))
        (cases_lt owned.place (length (started_ones w)))

    reply_works : (k : Kind) → (k ≡ kind.Confirm) ⊎ (k ≡ kind.Deny) → m.kind ≡ kind_number k → Works (mark_effect own k m)
    reply_works k either is =
        let y = transaction_marked k m.line.number owned.x in
        let after = ap (λ o. take w.started (replaced w.transactions o y)) placed ∙ take-set-lt w.started w.transactions owned.place y inside in
        subst Works (sym (ap (λ o. mark_effect o k m) own_is))
        (record {
          delivering = subst (Delivering rules S m (Marks y)) (sym after) (line_marked k either is owned.place owned.x owned.found owned.timed);
          fits_is = refl;
          lines_free = no_line;
          verdicts_free = no_verdict;
        })

    reply_expected : (line_here site m && has_line own m.line.number) ≡ true
    reply_expected = and_from _ _ (here_if (ap (holds shaped.card.holders) back ∙ shaped.held)) (ap (λ o. has_line o m.line.number) own_is ∙ owned.has)

  by_kind : (k : Kind) → m.kind ≡ kind_number k → expected site own k m ≡ true → Works (effect_of site own k m) → DeliverMove rules w place m
  by_kind k is wanted works =
      record {
        effect = effect_of site own k m;
        outcome_is =
            ap (λ n. delivery_of site (deliver_room w m.to) own (kind_of n) m) is
            ∙ ap (λ o. delivery_of site (deliver_room w m.to) own o m) (kind_back k)
            ∙ cond-true (in_range w.size m && expected site own k m) _ _ (and_from _ _ ranged wanted)
            ∙ cond-true (fits (deliver_room w m.to) (effect_of site own k m)) _ _ works.fits_is;
        taking = record { waited = waits; from_there = sent.from_there; to_there = sent.to_there; ranged = shaped.ranged };
        delivering = works.delivering;
        lines_free = works.lines_free;
        verdicts_free = works.verdicts_free;
        as_many = remarked_many (effect_of site own k m) (own_of rules w m) w.transactions;
      }

  by_sending : SentAs rules S m → DeliverMove rules w place m
  by_sending (as_line is from_is goes) =
      by_kind kind.Line is (here_if (goes_holds S m.line shaped.card m.to shaped.card_is goes)) (line_works is (aborted site m.line.time) (is_primary (card_in S m.line) m.to) (denied site m.line) refl refl refl)
  by_sending (as_reply is to_is from_is) =
      ⊎_elim
      (λ (e : m.kind ≡ 2). by_kind kind.Confirm e (reply_expected to_is) (reply_works to_is kind.Confirm (inl refl) e))
      (λ (e : m.kind ≡ 3). by_kind kind.Deny e (reply_expected to_is) (reply_works to_is kind.Deny (inr refl) e))
      is
  by_sending (as_verdict Commit is known to_is) = by_kind kind.Commit is refl (verdict_works Commit is (told S m.to m.line.time) refl)
  by_sending (as_verdict Abort is known to_is) = by_kind kind.Abort is refl (verdict_works Abort is (told S m.to m.line.time) refl)

  pub deliver_move : DeliverMove rules w place m
  deliver_move = by_sending sent.sent_as
