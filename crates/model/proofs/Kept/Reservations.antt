-- Each accepted call keeps the reservations. Assumes nothing.
use Rattle.std.proofs.Common.{◌≡◌, ℕ, ◌<◌, Bool, true, false, cond, eqb, ◌⊎◌, List, [], ◌∷◌, ◌++◌, Some, sym, refl, ap, ◌∙◌, subst, inl, inr, ⊎_elim, arith}
use Rattle.std.specs.List.{remove}
use Rattle.std.proofs.lemmas.Bool.{eq-eqb, both_ways}
use Rattle.terms.specs.declared.mark.Mark.TheVariants.{Asked, Confirmed, Denied}
use Rattle.terms.specs.declared.outcome.Outcome.{Outcome}
use Rattle.terms.specs.declared.outcome.Outcome.TheVariants.{Abort}
use Rattle.terms.specs.Lists.{In}
use Rattle.terms.specs.Modes.{reads, writes}
use Rattle.records.specs.declared.line.Line.{Line}
use Rattle.records.specs.declared.message.Message.{Message}
use Rattle.records.specs.declared.transaction.Transaction.{Transaction}
use Rattle.records.specs.Present.{card_at, line_present}
use Rattle.knowledge.specs.Check.{denied}
use Rattle.starting.specs.declared.start.Order.{Order}
use Rattle.starting.specs.Drafting.{mark_by}
use Rattle.starting.specs.Landing.{is_denied, start_landing}
use Rattle.delivering.specs.declared.effect.Effect.{Effect}
use Rattle.steps.specs.Numbers.{stopped}
use Rattle.model.specs.Rules.{Rules}
use Rattle.model.specs.Single.{Noted}
use Rattle.model.specs.World.{Change}
use Rattle.model.proofs.State.{State, knows_at, told, moved}
use Rattle.model.proofs.Lots.{lot, primary, primary_of}
use Rattle.model.proofs.Moves.{Starting, start_moves, started_state, Delivering, Taking, deliver_moves, delivered_state, Settling, settle_moves, settled_state}
use Rattle.model.proofs.Invariant.{Invariant}
use Rattle.model.proofs.Grown.{landed_before, told_stays}
use Rattle.model.proofs.Drafts.{drafted_lot, landing_lot}
use Rattle.model.proofs.Arrivals.{lands_line}
use Rattle.model.proofs.Checked.{write_aborted, reader_aborted, shaped_present}
use Rattle.model.proofs.Parts.Reservations.{Reservations}

module _ {V : Type 0} (rules : Rules V) (S : State V) (hs : List (Noted V)) (inv : Invariant rules S hs) where
  landed_present : (s : ℕ) (l : Line V) → In l (S.lines s) → line_present S.size S.cards l ≡ true
  landed_present s l i = let o = inv.provenance.lines s l i in shaped_present S l (inv.shape.shaped (lot l o.mark) o.noted)

  -- A change keeps the reservations if what it lands at a primary passed the check and is of one transaction.
  module _ (waiting : List (Message V)) (delivered : ℕ) (xs : List (Transaction V)) (c : Change V)
      (passed : (l : Line V) → In l c.lines → primary S l ≡ c.site → denied (knows_at S c.site) l ≡ false)
      (one_time : (a b : Line V) → In a c.lines → In b c.lines → a.time ≡ b.time) where
    reserved_after : Reservations (moved S waiting delivered xs c)
    reserved_after =
        record {
          guarded = λ s a b i j home same r w low high.
              ⊎_elim
              (λ old. ⊎_elim (λ old'. ⊎_elim (λ e. inl (stays s a.time e)) (λ e. inr (stays s b.time e)) (inv.reservations.guarded s a b old old' home same r w low high)) (λ new'. inl (stays s a.time (write_new s a b old new'.0 new'.1 home same w low high))) (was s b j))
              (λ new. ⊎_elim (λ old'. inr (stays s b.time (reader_new s a b new.0 new.1 old' home same r w low high))) (λ new'. let e = one_time a b new.1 new'.1 in absurd (let never : ⊥ = omega arith in never)) (was s b j))
              (was s a i);
        }
      where
        was : (s : ℕ) (l : Line V) → In l ((moved S waiting delivered xs c).lines s) → In l (S.lines s) ⊎ ((s ≡ c.site) × In l c.lines)
        was s l i = landed_before S waiting delivered xs c s l i

        stays : (s time : ℕ) → told S s time ≡ Some Abort → told (moved S waiting delivered xs c) s time ≡ Some Abort
        stays s time e = told_stays S waiting delivered xs c s time Abort e

        reader_new : (s : ℕ) (a b : Line V) → s ≡ c.site → In a c.lines → In b (S.lines s) → primary S a ≡ s → a.card ≡ b.card → reads a.mode ≡ true → writes b.mode ≡ true → a.read < b.time → b.time < a.time → told S s b.time ≡ Some Abort
        reader_new s a b here i j home same r w low high =
            let ok : denied (knows_at S s) a ≡ false = subst (λ k. denied (knows_at S k) a ≡ false) (sym here) (passed a i (home ∙ here)) in
            write_aborted (knows_at S s) a b ok j (landed_present s b j) (sym same) r w low high

        write_new : (s : ℕ) (a b : Line V) → In a (S.lines s) → s ≡ c.site → In b c.lines → primary S a ≡ s → a.card ≡ b.card → writes b.mode ≡ true → a.read < b.time → b.time < a.time → told S s a.time ≡ Some Abort
        write_new s a b i here j home same w low high =
            let ok : denied (knows_at S s) b ≡ false = subst (λ k. denied (knows_at S k) b ≡ false) (sym here) (passed b j (ap (λ n. primary_of (card_at S.size S.cards n)) (sym same) ∙ home ∙ here)) in
            reader_aborted (knows_at S s) b a ok i (landed_present s a i) same w low high

  -- What a start lands at a card's primary passed the check there.
  start_passed : (order : Order V) (x : Transaction V) (written : List V) → Starting rules S order x written → (l : Line V) → In l (start_landing (rules.modes order.rule) x) → primary S l ≡ order.origin → denied (knows_at S order.origin) l ≡ false
  start_passed order x written go l i home =
      let found = landing_lot rules S order x written go l i in
      let d = drafted_lot rules S order x written go (lot l found.0) found.1 in
      not_denied (eqb d.card.primary order.origin) (denied (knows_at S order.origin) l) (eq-eqb _ _ (sym (ap primary_of d.card_is) ∙ home))
      (sym (ap is_denied (d.marked ∙ ap (mark_by (knows_at S order.origin) order.origin l) d.card_is)) ∙ found.2)
    where
      not_denied : (b t : Bool) → b ≡ true → is_denied (cond b (cond t Denied Confirmed) Asked) ≡ false → t ≡ false
      not_denied true true is e = e
      not_denied true false is e = refl
      not_denied false t is e = absurd (both_ways false refl is)

  pub start_reservations : (order : Order V) (x : Transaction V) (written : List V) → Starting rules S order x written → Reservations (started_state rules S order x)
  start_reservations order x written go =
      reserved_after S.waiting S.delivered (S.transactions ++ x ∷ []) (start_moves rules S order x) (start_passed order x written go) (λ a b i j. at a i ∙ sym (at b j))
    where
      at : (l : Line V) → In l (start_landing (rules.modes order.rule) x) → l.time ≡ x.time
      at l i = let found = landing_lot rules S order x written go l i in (drafted_lot rules S order x written go (lot l found.0) found.1).timed

  pub deliver_reservations : (place : ℕ) (m : Message V) (e : Effect V) (xs : List (Transaction V)) → Taking rules S place m → Delivering rules S m e xs → Reservations (delivered_state rules S place m e xs)
  deliver_reservations place m e xs taking go =
      reserved_after (remove S.waiting place) (stopped S.delivered 1) xs (deliver_moves rules S m e)
      (λ l i. let k = lands_line rules S m e xs go l i in subst (λ r. primary S r ≡ m.to → denied (knows_at S m.to) r ≡ false) k.1 k.2)
      (λ a b i j. ap (λ l. l.time) (sym (lands_line rules S m e xs go a i).1 ∙ (lands_line rules S m e xs go b j).1))

  pub settle_reservations : (n : ℕ) (x : Transaction V) (outcome : Outcome) → Settling rules S n x outcome → Reservations (settled_state rules S x outcome)
  settle_reservations n x outcome go = reserved_after S.waiting S.delivered S.transactions (settle_moves rules S x outcome) (λ l i home. absurd i) (λ a b i j. absurd i)
