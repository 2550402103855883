-- Each accepted call keeps where everything comes from. Assumes nothing.
use Rattle.std.proofs.Common.{◌≡◌, ℕ, ◌-◌, ◌⊎◌, List, [], ◌∷◌, ◌++◌, map, Some, None, Option, sym, refl, ap, ◌∙◌, subst, inl, inr, ⊎_elim}
use mathlib.Core.List.{map-append}
use Rattle.std.specs.List.{remove}
use Rattle.std.proofs.lemmas.Bool.{cases_eq}
use Rattle.terms.specs.declared.mark.Mark.{Mark}
use Rattle.terms.specs.declared.outcome.Outcome.{Outcome}
use Rattle.terms.specs.Lists.{In}
use Rattle.terms.specs.Times.{site_of}
use Rattle.records.specs.declared.line.Line.{Line}
use Rattle.records.specs.declared.message.Message.{Message}
use Rattle.records.specs.declared.transaction.Transaction.{Transaction}
use Rattle.records.specs.declared.verdict.Verdict.{Verdict}
use Rattle.starting.specs.declared.start.Order.{Order}
use Rattle.starting.specs.Starting.{start_messages}
use Rattle.delivering.specs.declared.effect.Effect.{Effect}
use Rattle.delivering.specs.Effects.{landing, replies, recording}
use Rattle.steps.specs.Numbers.{stopped}
use Rattle.model.specs.Rules.{Rules}
use Rattle.model.specs.Single.{Noted}
use Rattle.model.specs.World.{Change}
use Rattle.model.proofs.State.{State, told, moved}
use Rattle.model.proofs.Lots.{Lot, lot, lots_of, lots, all_lots, origin, primary, Goes, message, OfStarted}
use Rattle.model.proofs.Moves.{Starting, start_moves, started_state, Delivering, Taking, deliver_moves, delivered_state, Settling, settle_moves, settled_state}
use Rattle.model.proofs.Invariant.{Invariant}
use Rattle.model.proofs.Cases.{none_some}
use Rattle.model.proofs.Members.{in_left, in_one, in_split, in_rest, in_nth, in_map, in_joined}
use Rattle.model.proofs.Grown.{landed_before, told_stays, told_there, told_elsewhere, told_by}
use Rattle.model.proofs.Sites.{goes_there, present_there}
use Rattle.model.proofs.Drafts.{lot_old, lot_new, drafted_origin, landing_lot, sent_lot}
use Rattle.model.proofs.Remarks.{times_after}
use Rattle.model.proofs.Arrivals.{told_still, lands_line, replied, records_verdict, remarked, lot_after, sent_line, sent_verdict}
use Rattle.model.proofs.Telling.{settle_tells, verdict_sent, settle_timed}
use Rattle.model.proofs.Parts.Provenance.{SentTo, SentAs, as_line, as_reply, as_verdict, Sent, Provenance}

-- A change after which lines of transactions started are still such, which takes messages away, and of whose own lines,
-- messages and verdicts it is known where they come from.
record Sound {V : Type 0} (rules : Rules V) (S : State V) (waiting : List (Message V)) (delivered : ℕ) (xs : List (Transaction V)) (c : Change V) : Type 0 where
  lots_stay : (b : Lot V) → In b (lots rules S) → (mark : Mark) × In (lot b.line mark) (all_lots rules xs)
  times_stay : (time : ℕ) → In time (map (λ x. x.time) S.transactions) → In time (map (λ x. x.time) xs)
  no_more : (m : Message V) → In m waiting → In m S.waiting
  lines_from : (l : Line V) → In l c.lines → OfStarted rules (moved S waiting delivered xs c) l × ((origin l ≡ c.site) ⊎ Goes S l c.site)
  messages_from : (m : Message V) → In m c.messages → Sent rules (moved S waiting delivered xs c) m
  verdicts_from : (v : Verdict) → In v c.verdicts → (told (moved S waiting delivered xs c) (site_of v.time) v.time ≡ Some v.outcome) × In v.time (map (λ x. x.time) xs)

module _ {V : Type 0} (rules : Rules V) (S : State V) (waiting : List (Message V)) (delivered : ℕ) (xs : List (Transaction V)) (c : Change V) where
  abbrev after : State V
  after = moved S waiting delivered xs c

  -- What is known of a line or a message stays known.
  module _ (lots_stay : (b : Lot V) → In b (lots rules S) → (mark : Mark) × In (lot b.line mark) (all_lots rules xs)) where
    started_keeps : (l : Line V) → OfStarted rules S l → OfStarted rules after l
    started_keeps l o = let k = lots_stay (lot l o.mark) o.noted in record { mark = k.0; noted = k.1 }

    sent_to_keeps : (time site : ℕ) → SentTo rules S time site → SentTo rules after time site
    sent_to_keeps time site t = let k = lots_stay t.lot t.noted in record { lot = lot t.lot.line k.0; noted = k.1; timed = t.timed; goes = t.goes }

    sent_as_keeps : (m : Message V) → SentAs rules S m → SentAs rules after m
    sent_as_keeps m (as_line is from goes) = as_line is from goes
    sent_as_keeps m (as_reply is to from) = as_reply is to from
    sent_as_keeps m (as_verdict outcome is tells to) = as_verdict outcome is (told_stays S waiting delivered xs c _ _ outcome tells) (sent_to_keeps _ _ to)

    sent_keeps : (m : Message V) → Sent rules S m → Sent rules after m
    sent_keeps m s = record { started = started_keeps m.line s.started; from_there = s.from_there; to_there = s.to_there; sent_as = sent_as_keeps m s.sent_as }

  -- What a site newly knows is a verdict of the change.
  newly_told : (s time : ℕ) (outcome : Outcome) → told S s time ≡ None → told after s time ≡ Some outcome → In (record { time = time; outcome = outcome }) c.verdicts
  newly_told s time outcome before now =
      ⊎_elim
      (λ (e : s ≡ c.site). told_by S.size time outcome c.verdicts (sym (told_there S waiting delivered xs c time (subst (λ k. told S k time ≡ None) e before)) ∙ subst (λ k. told after k time ≡ Some outcome) e now))
      (λ (ne : s ≡ c.site → ⊥). absurd (none_some outcome (sym before ∙ sym (told_elsewhere S waiting delivered xs c s time ne) ∙ now)))
      (cases_eq s c.site)

  provenance_keeps : Provenance rules S → Sound rules S waiting delivered xs c → Provenance rules after
  provenance_keeps old sound =
      record {
        lines = λ s l i. ⊎_elim (λ was. started_keeps sound.lots_stay l (old.lines s l was)) (λ (new : (s ≡ c.site) × In l c.lines). (sound.lines_from l new.1).0) (landed_before S waiting delivered xs c s l i);
        lines_here = λ s l i.
            ⊎_elim
            (λ was. old.lines_here s l was)
            (λ (new : (s ≡ c.site) × In l c.lines). subst (λ k. (origin l ≡ k) ⊎ Goes S l k) (sym new.0) (sound.lines_from l new.1).1)
            (landed_before S waiting delivered xs c s l i);
        messages = λ m i. ⊎_elim (λ was. sent_keeps sound.lots_stay m (old.messages m (sound.no_more m was))) (λ new. sound.messages_from m new) (in_split m waiting c.messages i);
        verdicts = λ s time outcome now. (tells s time outcome now).0;
        verdicts_started = λ s time outcome now. (tells s time outcome now).1;
      }
    where
      tells : (s time : ℕ) (outcome : Outcome) → told after s time ≡ Some outcome → (told after (site_of time) time ≡ Some outcome) × In time (map (λ x. x.time) xs)
      tells s time outcome now = since (told S s time) refl
        where
          since : (o : Option Outcome) → told S s time ≡ o → (told after (site_of time) time ≡ Some outcome) × In time (map (λ x. x.time) xs)
          since None is = sound.verdicts_from _ (newly_told s time outcome is now)
          since (Some before) is =
              let t = told_stays S waiting delivered xs c s time before is in
              let e : before ≡ outcome = cc in
              (told_stays S waiting delivered xs c _ time outcome (old.verdicts s time outcome (is ∙ ap Some e)), sound.times_stay time (old.verdicts_started s time before is))

module _ {V : Type 0} (rules : Rules V) (S : State V) (hs : List (Noted V)) (inv : Invariant rules S hs) where
  pub start_provenance : (order : Order V) (x : Transaction V) (written : List V) → Starting rules S order x written → Provenance rules (started_state rules S order x)
  start_provenance order x written go =
      provenance_keeps rules S S.waiting S.delivered (S.transactions ++ x ∷ []) (start_moves rules S order x) inv.provenance
      (record {
        lots_stay = λ b i. (b.mark, lot_old rules S order x written go b i);
        times_stay = λ time i. subst (In time) (sym (map-append (λ y. y.time) S.transactions (x ∷ []))) (in_left time (map (λ y. y.time) S.transactions) _ i);
        no_more = λ m i. i;
        lines_from = λ l i. let k = landing_lot rules S order x written go l i in (record { mark = k.0; noted = lot_new rules S order x written go (lot l k.0) k.1 }, inl (drafted_origin rules S order x written go inv.clocks.sites_few (lot l k.0) k.1));
        messages_from = λ m i. new_message m i;
        verdicts_from = λ v i. absurd i;
      })
    where
      new_message : (m : Message V) → In m (start_messages S.size S.cards order.origin (rules.modes order.rule) x) → Sent rules (started_state rules S order x) m
      new_message m i =
          let k = sent_lot rules S order x written go inv.clocks.sites_few m i in
          subst (Sent rules (started_state rules S order x)) (sym k.2)
          (record {
            started = record { mark = k.0.mark; noted = lot_new rules S order x written go k.0 k.1 };
            from_there = go.here;
            to_there = goes_there S k.0.line m.to k.3;
            sent_as = as_line refl (sym (drafted_origin rules S order x written go inv.clocks.sites_few k.0 k.1)) k.3;
          })

  pub deliver_provenance : (place : ℕ) (m : Message V) (e : Effect V) (xs : List (Transaction V)) → Taking rules S place m → Delivering rules S m e xs → Provenance rules (delivered_state rules S place m e xs)
  deliver_provenance place m e xs taking go =
      provenance_keeps rules S (remove S.waiting place) (stopped S.delivered 1) xs (deliver_moves rules S m e) inv.provenance
      (record {
        lots_stay = lots_stay;
        times_stay = times_stay;
        no_more = λ r i. in_rest r S.waiting place i;
        lines_from = λ l i.
            let k = lands_line rules S m e xs go l i in
            subst (λ (a : Line V). OfStarted rules (delivered_state rules S place m e xs) a × ((origin a ≡ m.to) ⊎ Goes S a m.to)) k.1 (started, inr (sent_line rules S m k.0 sent.sent_as).1);
        messages_from = new_message;
        verdicts_from = new_verdict;
      })
    where
      sent : Sent rules S m
      sent = inv.provenance.messages m (in_nth m S.waiting place taking.waited)

      lots_stay : (b : Lot V) → In b (lots rules S) → (mark : Mark) × In (lot b.line mark) (all_lots rules xs)
      lots_stay b i = ((remarked m b).mark, lot_after rules S m inv.shape e xs go b i)

      times_stay : (time : ℕ) → In time (map (λ x. x.time) S.transactions) → In time (map (λ x. x.time) xs)
      times_stay time i = subst (In time) (sym (times_after rules S m e xs go)) i

      started : OfStarted rules (delivered_state rules S place m e xs) m.line
      started = started_keeps rules S _ _ xs (deliver_moves rules S m e) lots_stay m.line sent.started

      reply : (n : ℕ) → (n ≡ 2) ⊎ (n ≡ 3) → m.kind ≡ 1 → primary S m.line ≡ m.to → Sent rules (delivered_state rules S place m e xs) (message n m.to m.from m.line)
      reply n is one p = record { started = started; from_there = taking.to_there; to_there = taking.from_there; sent_as = as_reply is (sent_line rules S m one sent.sent_as).0 (sym p) }

      new_message : (r : Message V) → In r (replies e m) → Sent rules (delivered_state rules S place m e xs) r
      new_message r i =
          let k = replied rules S m e xs go r i in
          ⊎_elim
          (λ (c : (message 2 m.to m.from m.line ≡ r) × In m.line (landing e m)). subst (Sent rules (delivered_state rules S place m e xs)) c.0 (reply 2 (inl refl) k.0 k.1))
          (λ (d : message 3 m.to m.from m.line ≡ r). subst (Sent rules (delivered_state rules S place m e xs)) d (reply 3 (inr refl) k.0 k.1))
          k.2

      new_verdict : (v : Verdict) → In v (recording e m) → (told (delivered_state rules S place m e xs) (site_of v.time) v.time ≡ Some v.outcome) × In v.time (map (λ x. x.time) xs)
      new_verdict v i =
          let k = records_verdict rules S m e xs go v i in
          let tells = sent_verdict rules S m k.0 k.1 sent.sent_as in
          subst (λ w. (told (delivered_state rules S place m e xs) (site_of w.time) w.time ≡ Some w.outcome) × In w.time (map (λ x. x.time) xs)) k.2
          (told_still rules S m place e xs (origin m.line) m.line.time k.0 tells, times_stay m.line.time (inv.provenance.verdicts_started (origin m.line) m.line.time k.0 tells))

  pub settle_provenance : (n : ℕ) (x : Transaction V) (outcome : Outcome) → Settling rules S n x outcome → Provenance rules (settled_state rules S x outcome)
  settle_provenance n x outcome go =
      provenance_keeps rules S S.waiting S.delivered S.transactions (settle_moves rules S x outcome) inv.provenance
      (record {
        lots_stay = λ b i. (b.mark, i);
        times_stay = λ time i. i;
        no_more = λ m i. i;
        lines_from = λ l i. absurd i;
        messages_from = new_message;
        verdicts_from = λ v i.
            subst (λ w. (told (settled_state rules S x outcome) (site_of w.time) w.time ≡ Some w.outcome) × In w.time (map (λ y. y.time) S.transactions))
            (in_one v (record { time = x.time; outcome = outcome }) i) (settle_tells rules S n x outcome go x.time refl, in_map (λ y. y.time) x S.transactions is_started);
      })
    where
      is_started : In x S.transactions
      is_started = in_nth x S.transactions (n - 1) go.found

      started : (b : Lot V) → In b (lots_of rules x) → In b (lots rules S)
      started b i = in_joined (lots_of rules) x b S.transactions is_started i

      new_message : (m : Message V) → In m (settle_moves rules S x outcome).messages → Sent rules (settled_state rules S x outcome) m
      new_message m i =
          let k = verdict_sent rules S n x outcome go m i in
          let timed = settle_timed rules S n x outcome go in
          subst (Sent rules (settled_state rules S x outcome)) k.6
          (record {
            started = record { mark = k.0.mark; noted = started k.0 k.1 };
            from_there = present_there S.size S.cards _ x go.present;
            to_there = goes_there S k.2.line k.4 k.5;
            sent_as =
                as_verdict outcome refl (settle_tells rules S n x outcome go _ (sym (timed k.0 k.1)))
                (record { lot = k.2; noted = started k.2 k.3; timed = timed k.2 k.3 ∙ sym (timed k.0 k.1); goes = k.5 });
          })
