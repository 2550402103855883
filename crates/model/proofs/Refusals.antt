-- A refusal alters nothing, but for a foreign message. Assumes nothing.
use Rattle.std.proofs.Common.{◌≡◌, ℕ, Bool, true, false, cond, ◌&&◌, ◌||◌, ltb, leb, List, length, Some, None, Ok, Err, Option, Result, sym, refl, ap, ◌∙◌, arith}
use Rattle.std.specs.List.{slice_get}
use Rattle.terms.specs.declared.kind.Kind.{Kind}
use Rattle.terms.specs.declared.fault.Refusal.{Refusal}
use Rattle.terms.specs.Kinds.{kind_of}
use Rattle.terms.specs.declared.outcome.Outcome.{Outcome}
use Rattle.records.specs.declared.message.Message.{Message}
use Rattle.records.specs.declared.transaction.Transaction.{Transaction}
use Rattle.records.specs.Present.{card_present}
use Rattle.knowledge.specs.Knowledge.{Site}
use Rattle.site.specs.declared.fault.SiteFault.{SiteFault}
use Rattle.site.specs.declared.fault.SiteFault.TheVariants.{Foreign}
use Rattle.site.specs.Faults.{site_told}
use Rattle.site.specs.Tables.{at_place}
use Rattle.starting.specs.declared.start.Order.{Order}
use Rattle.delivering.specs.declared.effect.Effect.{Effect}
use Rattle.delivering.specs.declared.effect.Room.{Room}
use Rattle.delivering.specs.Delivery.{in_range, expected, effect_of, delivery_of}
use Rattle.delivering.specs.Effects.{fits}
use Rattle.model.specs.Rules.{Rules}
use Rattle.model.specs.World.{World, too_short, started_ones, site_in}
use Rattle.model.specs.Calls.{Reply, accepts, declines_with, number, with_card, starts_as, start_outcome, without, deliver_room, own_of, delivers_as, deliver_outcome, delivers_at, settles_as, settle_outcome, settles_at, transaction_at}
use Rattle.model.specs.Replay.{Replay, ReplayReply, replayed, replay_answer}
use Rattle.model.specs.Unaltered.{Leaves, Unaltered}
use Rattle.model.proofs.Cases.{err_ok}

same_err : {A : Type 0} (f g : Refusal) → ◌≡◌ {A = Result A Refusal} (Err f) (Err g) → f ≡ g
same_err f g e = cc

module _ {V : Type 0} (w : World V) where
  accepted_leaves : {A : Type 0} (a : A) (z : World V) → Leaves w (accepts a z)
  accepted_leaves a z f e = absurd (err_ok f a (sym e))

  declined_leaves : {A : Type 0} (f : Refusal) → Leaves w (declines_with {A = A} f w)
  declined_leaves f g e = refl

  either_leaves : {A : Type 0} (b : Bool) (r s : Reply A V) → Leaves w r → Leaves w s → Leaves w (cond b r s)
  either_leaves true r s p q = p
  either_leaves false r s p q = q

module _ {V : Type 0} (rules : Rules V) (w : World V) where
  start_leaves : (order : Order V) (o : Result (Transaction V) SiteFault) → Leaves w (starts_as rules w order o)
  start_leaves order (Err fault) = declined_leaves w (site_told fault)
  start_leaves order (Ok x) = accepted_leaves w _ _

  settle_leaves : (x : Transaction V) (o : Result Outcome SiteFault) → Leaves w (settles_as rules w x o)
  settle_leaves x (Err fault) = declined_leaves w (site_told fault)
  settle_leaves x (Ok outcome) = accepted_leaves w _ _

  settles_leaves : (x : Option (Transaction V)) → Leaves w (settles_at rules w x)
  settles_leaves None = declined_leaves w _
  settles_leaves (Some x) = settle_leaves x (settle_outcome rules w x)

  -- A delivery is refused only as foreign.
  only_foreign : (site : Site V) (room : Room) (own : Option (Transaction V)) (kind : Option Kind) (m : Message V) (fault : SiteFault) → delivery_of site room own kind m ≡ Err fault → fault ≡ Foreign
  only_foreign site room own None m fault e = cc
  only_foreign site room own (Some kind) m fault e = go (in_range site.size m && expected site own kind m) (fits room (effect_of site own kind m)) (effect_of site own kind m) e
    where
      go : (here free : Bool) (effect : Effect V) → cond here (cond free (Ok effect) (Err Foreign)) (Err Foreign) ≡ Err fault → fault ≡ Foreign
      go true true effect is = absurd (err_ok fault effect (sym is))
      go true false effect is = cc
      go false free effect is = cc

  abbrev DeliveryLeaves : ℕ → Reply (Message V) V → Type 0
  DeliveryLeaves place r = (f : Refusal) → r.answer ≡ Err f → ((f.number ≡ 17 → ⊥) → r.world ≡ w) × (f.number ≡ 17 → r.world ≡ without w place)

  -- A refusal with another number.
  other_leaves : (place n : ℕ) → (n ≡ 17 → ⊥) → DeliveryLeaves place (declines_with (number n) w)
  other_leaves place n other f e = ((λ _. refl), (λ is. absurd (other (ap (λ r. r.number) (same_err (number n) f e) ∙ is))))

  delivery_leaves : (place : ℕ) (m : Message V) (o : Result (Effect V) SiteFault) → ((fault : SiteFault) → o ≡ Err fault → fault ≡ Foreign) → DeliveryLeaves place (delivers_as rules w place m o)
  delivery_leaves place m (Err fault) foreign f e =
      let told = same_err (site_told fault) f e in
      let is_17 : f.number ≡ 17 = ap (λ r. r.number) (sym told) ∙ ap (λ k. (site_told k).number) (foreign fault refl) in
      ((λ other. absurd (other is_17)), (λ _. refl))
  delivery_leaves place m (Ok effect) foreign f e = absurd (err_ok f m (sym e))

  delivers_leaves : (place : ℕ) (m : Option (Message V)) → DeliveryLeaves place (delivers_at rules w place m)
  delivers_leaves place None = other_leaves place 16 (λ e. omega arith)
  delivers_leaves place (Some m) = delivery_leaves place m (deliver_outcome rules w m) (λ fault. only_foreign (site_in w m.to) (deliver_room w m.to) (at_place (started_ones w) (own_of rules w m)) (kind_of m.kind) m fault)

  long_leaves : (b : Bool) (place : ℕ) (r : Reply (Message V) V) → DeliveryLeaves place r → DeliveryLeaves place (cond b (declines_with (number 1) w) r)
  long_leaves true place r p = other_leaves place 1 (λ e. omega arith)
  long_leaves false place r p = p

  abbrev replay_reply : Bool → List V → Replay V → Option ℕ → ReplayReply V
  replay_reply b table r o = cond b (record { answer = Err (number 1); table = table }) (record { answer = replay_answer r o; table = r.values })

  replay_leaves : (b : Bool) (table : List V) (r : Replay V) (o : Option ℕ) (f : Refusal) → (replay_reply b table r o).answer ≡ Err f → (f.number ≡ 11 → ⊥) → (replay_reply b table r o).table ≡ table
  replay_leaves true table r o f e other = refl
  replay_leaves false table r None f e other = absurd (err_ok f r.ran (sym e))
  replay_leaves false table r (Some code) f e other = absurd (other (ap (λ k. k.number) (sym (same_err (record { number = 11; line = 0; code = code }) f e))))

  pub unaltered : Unaltered rules w
  unaltered =
      record {
        by_setting_up = either_leaves w _ _ _ (either_leaves w (too_short w) _ _ (declined_leaves w _) (accepted_leaves w tt _)) (declined_leaves w _);
        by_declaring = λ card.
            either_leaves w (too_short w) (declines_with (number 1) w) _ (declined_leaves w (number 1))
            (either_leaves w (leb 64 w.declared) (declines_with (number 12) w) _ (declined_leaves w (number 12))
            (either_leaves w (card_present w.size card) (accepts w.declared (with_card w card)) (declines_with (number 3) w) (accepted_leaves w w.declared (with_card w card)) (declined_leaves w (number 3))));
        by_opening = either_leaves w (too_short w) _ _ (declined_leaves w _) (either_leaves w _ _ _ (declined_leaves w _) (accepted_leaves w tt w));
        by_starting = λ order. either_leaves w (too_short w) _ _ (declined_leaves w _) (either_leaves w _ _ _ (start_leaves order (start_outcome rules w order)) (declined_leaves w _));
        by_settling = λ n. either_leaves w (too_short w) _ _ (declined_leaves w _) (settles_leaves (transaction_at rules w n));
        by_closing = either_leaves w (too_short w) _ _ (declined_leaves w _) (either_leaves w _ _ _ (accepted_leaves w tt w) (declined_leaves w _));
        by_delivering = λ place. long_leaves (too_short w) place _ (delivers_leaves place (slice_get w.waiting place));
        by_replaying = λ table. replay_leaves (too_short w || ltb (length table) w.declared) table (replayed rules w table) (replayed rules w table).declined;
      }
