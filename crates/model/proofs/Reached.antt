-- Every run keeps the bounds of its tables and the invariant, and meets no foreign message. Assumes nothing.
use Rattle.std.proofs.Common.{◌≡◌, ℕ, ◌+◌, ◌<◌, ◌≤◌, ltb, List, [], ◌∷◌, ◌++◌, length, take, set, Some, None, Ok, Err, Option, Result, sym, refl, ◌∙◌, subst, ⊎_elim, arith}
use Rattle.std.specs.List.{slice_get, remove}
use Rattle.std.proofs.lemmas.List.{length-set, take_more_set}
use Rattle.std.proofs.lemmas.List.Sums.{fold_push}
use Rattle.std.proofs.lemmas.Bool.{cond-false, cond_both, ltb-true}
use Rattle.terms.specs.declared.outcome.Outcome.{Outcome}
use Rattle.terms.specs.declared.fault.Refusal.{Refusal}
use Rattle.terms.specs.Lists.{In}
use Rattle.terms.specs.Times.{site_of}
use Rattle.records.specs.declared.message.Message.{Message}
use Rattle.records.specs.declared.transaction.Transaction.{Transaction}
use Rattle.site.specs.declared.fault.SiteFault.{SiteFault}
use Rattle.site.specs.Faults.{site_told}
use Rattle.starting.specs.declared.start.Order.{Order}
use Rattle.delivering.specs.Owns.{remarked}
use Rattle.steps.specs.Numbers.{stopped}
use Rattle.model.specs.Calls.{Reply, Started, number, with_tables, start_outcome, start_change, starts_as, starts, deliver_change, delivers_as, delivers_at, own_of, transaction_at, settle_outcome, settle_change, settles_as, settles_at}
use Rattle.model.specs.Rules.{Rules, Lawful}
use Rattle.model.specs.Runs.{Event, Call, start_at, deliver_from, settle_one, start_accepted, start_declined, delivery_accepted, delivery_declined, settle_accepted, settle_declined, close_accepted, close_declined, Opened, Run, begun, acted, stayed, handed, given, start_event, delivery_event, settle_event, event_of, world_after}
use Rattle.model.specs.Single.{note, notes}
use Rattle.model.specs.World.{World, Change, line_share, verdict_share, too_short, declared_cards, landed_at, recorded_at, changed}
use Rattle.model.proofs.State.{State, state_of, moved}
use Rattle.model.proofs.Moves.{reads_of, started_state, start_moves}
use Rattle.model.proofs.Invariant.{Invariant}
use Rattle.model.proofs.Members.{in_push}
use Rattle.model.proofs.Frames.{Frame, state_changed, frame_changed, transactions_long}
use Rattle.model.proofs.Beginning.{opened_frame, opened_invariant}
use Rattle.model.proofs.Inversions.Starts.{StartMove, start_move, landing_fits, started_count}
use Rattle.model.proofs.Inversions.Settles.{settle_move}
use Rattle.model.proofs.Inversions.Delivers.{deliver_move}
use Rattle.model.proofs.Kept.{start_keeps, deliver_keeps, settle_keeps}
use Rattle.model.proofs.Kept.History.{started_as}

-- What a run keeps.
pub record KeptBy {V : Type 0} (rules : Rules V) (opened : World V) (es : List (Event V)) (w : World V) : Type 0 where
  pub frame : Frame w
  pub invariant : Invariant rules (state_of w) (notes es)
  pub same_cards : declared_cards w ≡ declared_cards opened
  pub none_foreign : (f : Refusal) → In (delivery_declined f) es → f.number ≡ 16

-- An event is no refusal of a foreign message: a delivery is declined only for want of one.
abbrev NotForeign : {V : Type 0} → Event V → Type 0
NotForeign (start_accepted order started read written) = Unit {0}
NotForeign (start_declined order f) = Unit {0}
NotForeign (delivery_accepted m) = Unit {0}
NotForeign (delivery_declined f) = f.number ≡ 16
NotForeign (settle_accepted n outcome) = Unit {0}
NotForeign (settle_declined n f) = Unit {0}
NotForeign close_accepted = Unit {0}
NotForeign (close_declined f) = Unit {0}

module _ {V : Type 0} (rules : Rules V) (opened : World V) (es : List (Event V)) (w : World V) (kept : KeptBy rules opened es w) where
  abbrev S : State V
  S = state_of w

  -- One more event.
  more_kept : (e : Event V) (next : World V) → NotForeign e → Frame next → Invariant rules (state_of next) (note (notes es) e) → declared_cards next ≡ declared_cards w → KeptBy rules opened (es ++ e ∷ []) next
  more_kept e next fine frame invariant same =
      record {
        frame = frame;
        invariant = subst (Invariant rules (state_of next)) (sym (fold_push note [] es e)) invariant;
        same_cards = same ∙ kept.same_cards;
        none_foreign = λ f i. ⊎_elim (λ (before : In (delivery_declined f) es). kept.none_foreign f before) (λ (is : e ≡ delivery_declined f). subst NotForeign is fine) (in_push (delivery_declined f) e es i);
      }

  -- An event that changes nothing.
  pub same_kept : (e : Event V) → NotForeign e → note (notes es) e ≡ notes es → KeptBy rules opened (es ++ e ∷ []) w
  same_kept e fine quiet = more_kept e w fine kept.frame (subst (Invariant rules S) (sym quiet) kept.invariant) refl

  -- An event with a change at one site that has room for it.
  changed_kept : (e : Event V) → NotForeign e → (waiting : List (Message V)) (delivered started : ℕ) (transactions : List (Transaction V)) (c : Change V) → c.site < w.size.sites → landed_at w c.site + length c.lines ≤ line_share w.size → recorded_at w c.site + length c.verdicts ≤ verdict_share w.size → started ≤ w.size.transactions → length transactions ≡ length w.transactions → Invariant rules (moved S waiting delivered (take started transactions) c) (note (notes es) e) → KeptBy rules opened (es ++ e ∷ []) (changed w waiting delivered started transactions c)
  changed_kept e fine waiting delivered started transactions c there lines_free verdicts_free few same invariant =
      more_kept e (changed w waiting delivered started transactions c) fine (frame_changed w kept.frame waiting delivered started transactions c there lines_free verdicts_free few same) (subst (λ T. Invariant rules T (note (notes es) e)) (sym (state_changed w kept.frame waiting delivered started transactions c there lines_free verdicts_free)) invariant) refl

  -- No call finds a table too short.
  tables_long : {A : Type 0} (r : Reply A V) → with_tables w r ≡ r
  tables_long r = cond-false (too_short w) _ _ kept.frame.long

  module _ (lawful : Lawful rules) where
    abbrev AfterStart : Order V → Reply Started V → Type 0
    AfterStart order r = KeptBy rules opened (es ++ start_event order (handed rules w order) (given rules w order) r.answer ∷ []) r.world

    start_accepted_kept : (order : Order V) → order.origin < w.size.sites → (x : Transaction V) → StartMove rules w order x → AfterStart order (starts_as rules w order (Ok x))
    start_accepted_kept order here x move =
        changed_kept (start_accepted order (record { number = w.started + 1; time = x.time }) (handed rules w order) (given rules w order)) tt w.waiting w.delivered (w.started + 1) (set w.transactions w.started x) (start_change rules w order x) here
        (landing_fits rules lawful w kept.frame order here x move)
        (omega (arith, kept.frame.recorded_fit order.origin))
        (let below = move.not_full in omega arith)
        (length-set w.transactions w.started x)
        (subst (λ xs. Invariant rules (moved S w.waiting w.delivered xs (start_moves rules S order x)) (note (notes es) (start_accepted order (record { number = w.started + 1; time = x.time }) (handed rules w order) (given rules w order)))) (sym pushed)
        (subst (Invariant rules (started_state rules S order x)) same_note (start_keeps rules S (notes es) kept.invariant order x move.written move.starting)))
      where
        pushed : take (w.started + 1) (set w.transactions w.started x) ≡ S.transactions ++ x ∷ []
        pushed = take_more_set w.transactions w.started x (let below = move.not_full in let long = transactions_long w kept.frame in omega arith)

        same_note : note (notes es) (start_accepted order (started_as S x) (reads_of rules S order) move.written) ≡ note (notes es) (start_accepted order (record { number = w.started + 1; time = x.time }) (handed rules w order) (given rules w order))
        same_note = λ i. note (notes es) (start_accepted order (record { number = started_count w kept.frame i + 1; time = x.time }) (handed rules w order) (sym move.given_is i))

    start_outcome_kept : (order : Order V) → order.origin < w.size.sites → (r : Result (Transaction V) SiteFault) → start_outcome rules w order ≡ r → AfterStart order (starts_as rules w order r)
    start_outcome_kept order here (Err fault) is = same_kept (start_declined order (site_told fault)) tt refl
    start_outcome_kept order here (Ok x) is = start_accepted_kept order here x (start_move rules lawful w kept.frame order here x is)

    start_kept : (order : Order V) → AfterStart order (starts rules w order)
    start_kept order =
        subst (AfterStart order) (sym (tables_long _))
        (cond_both (ltb order.origin w.size.sites) _ _ (AfterStart order) (λ here. start_outcome_kept order (ltb-true _ _ here) (start_outcome rules w order) refl) (λ _. same_kept (start_declined order (number 4)) tt refl))

    abbrev AfterDelivery : Reply (Message V) V → Type 0
    AfterDelivery r = KeptBy rules opened (es ++ delivery_event r.answer ∷ []) r.world

    delivery_at_kept : (place : ℕ) (o : Option (Message V)) → slice_get w.waiting place ≡ o → AfterDelivery (delivers_at rules w place o)
    delivery_at_kept place None is = same_kept (delivery_declined (number 16)) refl refl
    delivery_at_kept place (Some m) is =
        let move = deliver_move rules w kept.frame (notes es) kept.invariant place m is in
        let e = move.effect in
        let xs = remarked e (own_of rules w m) w.transactions in
        subst (λ r. AfterDelivery (delivers_as rules w place m r)) (sym move.outcome_is)
        (changed_kept (delivery_accepted m) tt (remove w.waiting place) (stopped w.delivered 1) w.started xs (deliver_change w m e) move.taking.to_there move.lines_free move.verdicts_free kept.frame.started_fit move.as_many
        (deliver_keeps rules S (notes es) kept.invariant place m e (take w.started xs) move.taking move.delivering))

    abbrev AfterSettle : ℕ → Reply Outcome V → Type 0
    AfterSettle n r = KeptBy rules opened (es ++ settle_event n r.answer ∷ []) r.world

    settle_outcome_kept : (n : ℕ) (x : Transaction V) → transaction_at rules w n ≡ Some x → (r : Result Outcome SiteFault) → settle_outcome rules w x ≡ r → AfterSettle n (settles_as rules w x r)
    settle_outcome_kept n x at (Err fault) is = same_kept (settle_declined n (site_told fault)) tt refl
    settle_outcome_kept n x at (Ok outcome) is =
        let move = settle_move rules w n x outcome at is in
        changed_kept (settle_accepted n outcome) tt w.waiting w.delivered w.started w.transactions (settle_change rules w x outcome) move.there (omega (arith, kept.frame.landed_fit (site_of x.time))) (omega (arith, move.record_free)) kept.frame.started_fit refl
        (settle_keeps rules S (notes es) kept.invariant n x outcome move.settling)

    settle_at_kept : (n : ℕ) (o : Option (Transaction V)) → transaction_at rules w n ≡ o → AfterSettle n (settles_at rules w o)
    settle_at_kept n None is = same_kept (settle_declined n (number 5)) tt refl
    settle_at_kept n (Some x) is = settle_outcome_kept n x is (settle_outcome rules w x) refl

    call_kept : (call : Call V) → KeptBy rules opened (es ++ event_of rules w call ∷ []) (world_after rules w call)
    call_kept (start_at order) = start_kept order
    call_kept (deliver_from place) = subst AfterDelivery (sym (tables_long _)) (delivery_at_kept place (slice_get w.waiting place) refl)
    call_kept (settle_one n) = subst (AfterSettle n) (sym (tables_long _)) (settle_at_kept n (transaction_at rules w n) refl)

-- Every run keeps this.
pub run_kept : {V : Type 0} (rules : Rules V) (lawful : Lawful rules) (opened : World V) (begins : Opened opened) (es : List (Event V)) (w : World V) → Run rules opened es w → KeptBy rules opened es w
run_kept rules lawful opened begins es w begun = record { frame = opened_frame opened begins; invariant = opened_invariant opened begins rules; same_cards = refl; none_foreign = λ f i. absurd i }
run_kept rules lawful opened begins es w (acted {es = before} {w = was} run call) = call_kept rules opened before was (run_kept rules lawful opened begins before was run) lawful call
run_kept rules lawful opened begins es w (stayed {es = before} run f e) = same_kept rules opened before w (run_kept rules lawful opened begins before w run) (close_declined f) tt refl
