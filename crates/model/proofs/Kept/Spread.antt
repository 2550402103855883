-- Each accepted call keeps where a line is. Assumes nothing.
use Rattle.std.proofs.Common.{◌≡◌, ℕ, Bool, true, false, ◌⊎◌, List, [], ◌∷◌, ◌++◌, sym, refl, ap, ◌∙◌, subst, inl, inr, ⊎_elim}
use Rattle.std.specs.List.{remove}
use Rattle.std.proofs.lemmas.Bool.{false≢true}
use Rattle.terms.specs.declared.kind.Kind.TheVariants as kind
use Rattle.terms.specs.declared.mark.Mark.{Mark}
use Rattle.terms.specs.declared.mark.Mark.TheVariants.{Asked, Confirmed, Denied}
use Rattle.terms.specs.declared.outcome.Outcome.{Outcome}
use Rattle.terms.specs.declared.outcome.Outcome.TheVariants.{Abort}
use Rattle.terms.specs.Lists.{In}
use Rattle.records.specs.declared.message.Message.{Message}
use Rattle.records.specs.declared.transaction.Transaction.{Transaction}
use Rattle.starting.specs.declared.start.Order.{Order}
use Rattle.starting.specs.Landing.{is_denied}
use Rattle.delivering.specs.declared.effect.Effect.{Effect}
use Rattle.delivering.specs.Marks.{marked}
use Rattle.steps.specs.Numbers.{stopped}
use Rattle.model.specs.Rules.{Rules}
use Rattle.model.specs.Single.{Noted}
use Rattle.model.specs.World.{Change}
use Rattle.model.proofs.State.{State, moved}
use Rattle.model.proofs.Lots.{Lot, lot, lots, lots_of, origin, primary, Goes, message}
use Rattle.model.proofs.Moves.{Starting, start_moves, started_state, Delivering, Taking, deliver_moves, delivered_state, Settling, settle_moves, settled_state}
use Rattle.model.proofs.Invariant.{Invariant}
use Rattle.model.proofs.Members.{in_left}
use Rattle.model.proofs.Grown.{landed_stays, told_stays}
use Rattle.model.proofs.Drafts.{lot_started, drafted_origin}
use Rattle.model.proofs.Starts.{start_sends, start_lands}
use Rattle.model.proofs.Arrivals.{answer_kind, remark_own, LineTaken, dropped, landed, confirmed, denied, each_delivered, landed_still, told_still, waits_still, line_taken, remarked, mark_stays}
use Rattle.model.proofs.Parts.Spread.{AtTarget, waits, has_landed, known_aborted, was_denied, Spread}

module _ {V : Type 0} (S : State V) (waiting : List (Message V)) (delivered : ℕ) (xs : List (Transaction V)) (c : Change V) (b : Lot V) where
  abbrev after : State V
  after = moved S waiting delivered xs c

  -- What has landed or is known as aborted stays so, whatever the mark is now.
  target_keeps :
      (mark : Mark) (site : ℕ) →
      (In (message 1 (origin b.line) site b.line) S.waiting → AtTarget after (lot b.line mark) site) →
      (primary S b.line ≡ site → (b.mark ≡ Denied) ⊎ In (message 3 site (origin b.line) b.line) S.waiting → AtTarget after (lot b.line mark) site) →
      AtTarget S b site → AtTarget after (lot b.line mark) site
  target_keeps mark site line deny (waits i) = line i
  target_keeps mark site line deny (has_landed i) = has_landed (landed_stays S waiting delivered xs c site b.line i)
  target_keeps mark site line deny (known_aborted t) = known_aborted (told_stays S waiting delivered xs c site b.line.time _ t)
  target_keeps mark site line deny (was_denied p d) = deny p d

  -- A change that takes no message away keeps where a line is.
  target_stays : waiting ≡ S.waiting → (site : ℕ) → AtTarget S b site → AtTarget after b site
  target_stays all site t = target_keeps b.mark site (λ i. waits (still _ i)) (λ p d. was_denied p (⊎_elim (λ e. inl e) (λ i. inr (still _ i)) d)) t
    where
      still : (m : Message V) → In m S.waiting → In m (waiting ++ c.messages)
      still m i = in_left m waiting c.messages (subst (In m) (sym all) i)

  home_stays : (mark : Mark) → (b.mark ≡ Denied → mark ≡ Denied) → In b.line (S.lines (origin b.line)) ⊎ (b.mark ≡ Denied) → In b.line (after.lines (origin b.line)) ⊎ (mark ≡ Denied)
  home_stays mark same h = ⊎_elim (λ i. inl (landed_stays S waiting delivered xs c (origin b.line) b.line i)) (λ e. inr (same e)) h

module _ {V : Type 0} (rules : Rules V) (S : State V) (hs : List (Noted V)) (inv : Invariant rules S hs) where
  pub start_spread : (order : Order V) (x : Transaction V) (written : List V) → Starting rules S order x written → Spread rules (started_state rules S order x)
  start_spread order x written go =
      record {
        targets = λ b i site g.
            ⊎_elim
            (λ was. target_stays S S.waiting S.delivered (S.transactions ++ x ∷ []) (start_moves rules S order x) b refl site (inv.spread.targets b was site g))
            (λ new. waits (start_sends rules S order x written go inv.clocks b new site g))
            (lot_started rules S order x written go b i);
        home = λ b i.
            ⊎_elim
            (λ was. home_stays S S.waiting S.delivered (S.transactions ++ x ∷ []) (start_moves rules S order x) b b.mark (λ e. e) (inv.spread.home b was))
            (λ new. lands b new (is_denied b.mark) refl)
            (lot_started rules S order x written go b i);
      }
    where
      lands : (b : Lot V) → In b (lots_of rules x) → (d : Bool) → is_denied b.mark ≡ d → In b.line ((started_state rules S order x).lines (origin b.line)) ⊎ (b.mark ≡ Denied)
      lands b new true is = inr (denied_is b.mark is)
        where
          denied_is : (mark : Mark) → is_denied mark ≡ true → mark ≡ Denied
          denied_is Asked e = absurd (false≢true e)
          denied_is Confirmed e = absurd (false≢true e)
          denied_is Denied e = refl
      lands b new false is = inl (subst (λ s. In b.line ((started_state rules S order x).lines s)) (sym (drafted_origin rules S order x written go inv.clocks.sites_few b new)) (start_lands rules S order x written go inv.clocks b new is))

  pub deliver_spread : (place : ℕ) (m : Message V) (e : Effect V) (xs : List (Transaction V)) → Taking rules S place m → Delivering rules S m e xs → Spread rules (delivered_state rules S place m e xs)
  deliver_spread place m e xs taking go =
      record {
        targets =
            each_delivered rules S m inv.shape e xs go (λ b. (site : ℕ) → Goes S b.line site → AtTarget later b site)
            (λ b i site g. target_keeps S (remove S.waiting place) (stopped S.delivered 1) xs (deliver_moves rules S m e) b (remarked m b).mark site (arrives b site) (denying b i site) (inv.spread.targets b i site g));
        home =
            each_delivered rules S m inv.shape e xs go (λ b. In b.line (later.lines (origin b.line)) ⊎ (b.mark ≡ Denied))
            (λ b i. home_stays S (remove S.waiting place) (stopped S.delivered 1) xs (deliver_moves rules S m e) b (remarked m b).mark (mark_stays _ _ b.mark Denied refl) (inv.spread.home b i));
      }
    where
      later : State V
      later = delivered_state rules S place m e xs

      arrived : (b : Lot V) (site : ℕ) → LineTaken S later (message 1 (origin b.line) site b.line) → AtTarget later (remarked m b) site
      arrived b site (dropped t) = known_aborted (told_still rules S m place e xs site b.line.time Abort t)
      arrived b site (landed p i) = has_landed i
      arrived b site (confirmed p i w) = has_landed i
      arrived b site (denied p w) = was_denied p (inr w)

      arrives : (b : Lot V) (site : ℕ) → In (message 1 (origin b.line) site b.line) S.waiting → AtTarget later (remarked m b) site
      arrives b site w =
          ⊎_elim
          (λ (q : m ≡ message 1 (origin b.line) site b.line). arrived b site (subst (LineTaken S later) q (line_taken rules S m place e xs go (ap (λ r. r.kind) q))))
          (λ i. waits i)
          (waits_still rules S m place e xs taking (message 1 (origin b.line) site b.line) w)

      own : (b : Lot V) → In b (lots rules S) → (site : ℕ) → primary S b.line ≡ site → m ≡ message 3 site (origin b.line) b.line → (mark : Mark) → b.mark ≡ mark → AtTarget later (remarked m b) site
      own b i site p q Asked is = was_denied p (inl (remark_own m kind.Deny b (ap (λ r. answer_kind r.kind) q) (ap (λ r. r.line) q) ∙ ap (λ a. marked a kind.Deny) is))
      own b i site p q Confirmed is = has_landed (landed_still rules S m place e xs site b.line (subst (λ s. In b.line (S.lines s)) p (inv.marks.confirmed b i is)))
      own b i site p q Denied is = was_denied p (inl (mark_stays _ _ b.mark Denied refl is))

      denying : (b : Lot V) → In b (lots rules S) → (site : ℕ) → primary S b.line ≡ site → (b.mark ≡ Denied) ⊎ In (message 3 site (origin b.line) b.line) S.waiting → AtTarget later (remarked m b) site
      denying b i site p d =
          ⊎_elim
          (λ is. was_denied p (inl (mark_stays _ _ b.mark Denied refl is)))
          (λ w. ⊎_elim
          (λ (q : m ≡ message 3 site (origin b.line) b.line). own b i site p q b.mark refl)
          (λ j. was_denied p (inr j))
          (waits_still rules S m place e xs taking (message 3 site (origin b.line) b.line) w))
          d

  pub settle_spread : (n : ℕ) (x : Transaction V) (outcome : Outcome) → Settling rules S n x outcome → Spread rules (settled_state rules S x outcome)
  settle_spread n x outcome go =
      record {
        targets = λ b i site g. target_stays S S.waiting S.delivered S.transactions (settle_moves rules S x outcome) b refl site (inv.spread.targets b i site g);
        home = λ b i. home_stays S S.waiting S.delivered S.transactions (settle_moves rules S x outcome) b b.mark (λ e. e) (inv.spread.home b i);
      }
