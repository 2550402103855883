-- Each accepted call keeps what the marks say. Assumes nothing.
use Rattle.std.proofs.Common.{◌≡◌, ℕ, Bool, true, false, cond, ◌&&◌, eqb, List, [], ◌∷◌, ◌++◌, Some, sym, refl, ap, ◌∙◌, subst, inr, ⊎_elim, arith}
use Rattle.std.specs.List.{remove}
use Rattle.std.proofs.lemmas.Bool.{and_parts, eqb-true, eqb-false}
use Rattle.terms.specs.declared.kind.Kind.{Kind}
use Rattle.terms.specs.declared.kind.Kind.TheVariants as kind
use Rattle.terms.specs.declared.mark.Mark.TheVariants.{Asked, Confirmed, Denied}
use Rattle.terms.specs.declared.outcome.Outcome.{Outcome}
use Rattle.terms.specs.declared.outcome.Outcome.TheVariants.{Abort}
use Rattle.terms.specs.Lists.{In}
use Rattle.records.specs.declared.line.Line.{Line}
use Rattle.records.specs.declared.message.Message.{Message}
use Rattle.records.specs.declared.transaction.Transaction.{Transaction}
use Rattle.knowledge.specs.Check as check
use Rattle.starting.specs.declared.start.Order.{Order}
use Rattle.starting.specs.Drafting.{mark_by}
use Rattle.starting.specs.Landing.{is_denied}
use Rattle.delivering.specs.declared.effect.Effect.{Effect}
use Rattle.delivering.specs.Effects.{landing, replies}
use Rattle.delivering.specs.Marks.{marked}
use Rattle.model.specs.Rules.{Rules}
use Rattle.model.specs.Single.{Noted}
use Rattle.model.specs.World.{Change}
use Rattle.model.proofs.State.{State, knows_at, told, moved}
use Rattle.model.proofs.Lots.{Lot, lot, lots, lots_of, origin, primary_of, primary, message}
use Rattle.model.proofs.Moves.{Starting, start_moves, started_state, Delivering, Taking, delivered_state, Settling, settle_moves, settled_state}
use Rattle.model.proofs.Invariant.{Invariant}
use Rattle.model.proofs.Members.{in_left, in_split, in_nth, in_rest}
use Rattle.model.proofs.Grown.{landed_stays, told_stays}
use Rattle.model.proofs.Sites.{goes_to_primary}
use Rattle.model.proofs.Drafts.{lot_started, drafted_lot, drafted_origin, sent_lot}
use Rattle.model.proofs.Starts.{start_sends, start_lands}
use Rattle.model.proofs.Arrivals.{answer_kind, verdicts_from_4, was_asked, newly_confirmed, remark_own, LineTaken, dropped, landed, confirmed, denied, each_delivered, lands_now, landed_still, told_still, waits_still, line_taken, replied, remarked}
use Rattle.model.proofs.Telling.{verdict_sent}
use Rattle.model.proofs.Parts.Marks.{AnswerDue, line_waits, confirm_waits, deny_waits, primary_aborted, Marked}

confirmed_not_asked : Confirmed ≡ Asked → ⊥
confirmed_not_asked e = let z : ◌≡◌ {A = ℕ} 0 1 = cc in omega arith

denied_not_asked : Denied ≡ Asked → ⊥
denied_not_asked e = let z : ◌≡◌ {A = ℕ} 0 1 = cc in omega arith

-- A first mark is asked only at another primary, and confirmed only at its own.
asked_not_own : (own d : Bool) → cond own (cond d Denied Confirmed) Asked ≡ Asked → own ≡ false
asked_not_own true true e = absurd (denied_not_asked e)
asked_not_own true false e = absurd (confirmed_not_asked e)
asked_not_own false d e = refl

confirmed_own : (own d : Bool) → cond own (cond d Denied Confirmed) Asked ≡ Confirmed → own ≡ true
confirmed_own true d e = refl
confirmed_own false d e = absurd (confirmed_not_asked (sym e))

confirm_kind : (n : ℕ) → answer_kind n ≡ kind.Confirm → n ≡ 2
confirm_kind n is = eqb-true n 2 (first (eqb n 2) (eqb n 3) is)
  where
    first : (a b : Bool) → cond a kind.Confirm (cond b kind.Deny kind.Line) ≡ kind.Confirm → a ≡ true
    first true b e = refl
    first false true e = absurd (let z : ◌≡◌ {A = ℕ} 0 1 = cc in let never : ⊥ = omega arith in never)
    first false false e = absurd (let z : ◌≡◌ {A = ℕ} 0 1 = cc in let never : ⊥ = omega arith in never)

-- A change that takes no message away keeps the answers due.
due_stays : {V : Type 0} (S : State V) (delivered : ℕ) (xs : List (Transaction V)) (c : Change V) (b : Lot V) → AnswerDue S b → AnswerDue (moved S S.waiting delivered xs c) b
due_stays S delivered xs c b (line_waits i) = line_waits (in_left _ S.waiting c.messages i)
due_stays S delivered xs c b (confirm_waits i) = confirm_waits (in_left _ S.waiting c.messages i)
due_stays S delivered xs c b (deny_waits i) = deny_waits (in_left _ S.waiting c.messages i)
due_stays S delivered xs c b (primary_aborted t) = primary_aborted (told_stays S S.waiting delivered xs c (primary S b.line) b.line.time _ t)

module _ {V : Type 0} (rules : Rules V) (S : State V) (hs : List (Noted V)) (inv : Invariant rules S hs) where
  pub start_marks : (order : Order V) (x : Transaction V) (written : List V) → Starting rules S order x written → Marked rules (started_state rules S order x)
  start_marks order x written go =
      record {
        asked_elsewhere = λ b i is. ⊎_elim (λ was. inv.marks.asked_elsewhere b was is) (λ new. elsewhere b new is) (lot_started rules S order x written go b i);
        asked = λ b i is.
            ⊎_elim
            (λ was. due_stays S S.delivered (S.transactions ++ x ∷ []) (start_moves rules S order x) b (inv.marks.asked b was is))
            (λ new. line_waits (start_sends rules S order x written go inv.clocks b new (primary S b.line) (goes_to_primary S b.line _ (drafted_lot rules S order x written go b new).card_is (elsewhere b new is))))
            (lot_started rules S order x written go b i);
        confirmed = λ b i is. ⊎_elim (λ was. stays b.line (inv.marks.confirmed b was is)) (λ new. here b new is) (lot_started rules S order x written go b i);
        confirming = λ m i is. ⊎_elim (λ was. stays m.line (inv.marks.confirming m was is)) (λ new. absurd (no_confirm m new is)) (in_split m S.waiting (start_moves rules S order x).messages i);
      }
    where
      stays : (l : Line V) → In l (S.lines (primary S l)) → In l ((started_state rules S order x).lines (primary S l))
      stays l i = landed_stays S S.waiting S.delivered (S.transactions ++ x ∷ []) (start_moves rules S order x) (primary S l) l i

      drafted_mark : (b : Lot V) → In b (lots_of rules x) → b.mark ≡ cond (eqb (primary S b.line) order.origin) (cond (check.denied (knows_at S order.origin) b.line) Denied Confirmed) Asked
      drafted_mark b new =
          let d = drafted_lot rules S order x written go b new in
          d.marked
          ∙ subst (λ o. mark_by (knows_at S order.origin) order.origin b.line o ≡ cond (eqb (primary_of o) order.origin) (cond (check.denied (knows_at S order.origin) b.line) Denied Confirmed) Asked) (sym d.card_is) refl

      elsewhere : (b : Lot V) → In b (lots_of rules x) → b.mark ≡ Asked → primary S b.line ≡ origin b.line → ⊥
      elsewhere b new is own = eqb-false (primary S b.line) order.origin (asked_not_own _ _ (sym (drafted_mark b new) ∙ is)) (own ∙ drafted_origin rules S order x written go inv.clocks.sites_few b new)

      here : (b : Lot V) → In b (lots_of rules x) → b.mark ≡ Confirmed → In b.line ((started_state rules S order x).lines (primary S b.line))
      here b new is = subst (λ s. In b.line ((started_state rules S order x).lines s)) (sym (eqb-true (primary S b.line) order.origin (confirmed_own _ _ (sym (drafted_mark b new) ∙ is)))) (start_lands rules S order x written go inv.clocks b new (ap is_denied is))

      no_confirm : (m : Message V) → In m (start_moves rules S order x).messages → m.kind ≡ 2 → ⊥
      no_confirm m new is = let k = ap (λ r. r.kind) (sent_lot rules S order x written go inv.clocks.sites_few m new).2 in omega arith

  pub deliver_marks : (place : ℕ) (m : Message V) (e : Effect V) (xs : List (Transaction V)) → Taking rules S place m → Delivering rules S m e xs → Marked rules (delivered_state rules S place m e xs)
  deliver_marks place m e xs taking go =
      record {
        asked_elsewhere = each_delivered rules S m inv.shape e xs go (λ b. b.mark ≡ Asked → primary S b.line ≡ origin b.line → ⊥) (λ b i is. inv.marks.asked_elsewhere b i (was_asked _ _ b.mark is));
        asked = each_delivered rules S m inv.shape e xs go (λ b. b.mark ≡ Asked → AnswerDue later b) (λ b i is. due b is (inv.marks.asked b i (was_asked _ _ b.mark is)));
        confirmed = each_delivered rules S m inv.shape e xs go (λ b. b.mark ≡ Confirmed → In b.line (later.lines (primary S b.line))) (λ b i is. stays b.line (confirmed_before b i is));
        confirming = λ r i is. ⊎_elim (λ was. stays r.line (inv.marks.confirming r (in_rest r S.waiting place was) is)) (λ new. confirms r new is) (in_split r (remove S.waiting place) (replies e m) i);
      }
    where
      later : State V
      later = delivered_state rules S place m e xs

      waited : In m S.waiting
      waited = in_nth m S.waiting place taking.waited

      stays : (l : Line V) → In l (S.lines (primary S l)) → In l (later.lines (primary S l))
      stays l i = landed_still rules S m place e xs (primary S l) l i

      aborts : (b : Lot V) → told S (primary S b.line) b.line.time ≡ Some Abort → AnswerDue later (remarked m b)
      aborts b t = primary_aborted (told_still rules S m place e xs (primary S b.line) b.line.time Abort t)

      arrived : (b : Lot V) → LineTaken S later (message 1 (origin b.line) (primary S b.line) b.line) → AnswerDue later (remarked m b)
      arrived b (dropped t) = aborts b t
      arrived b (landed p i) = absurd (p refl)
      arrived b (confirmed p i w) = confirm_waits w
      arrived b (denied p w) = deny_waits w

      -- A line that was answered now is asked no more.
      answered : (b : Lot V) (k : Kind) → (remarked m b).mark ≡ Asked → answer_kind m.kind ≡ k → m.line ≡ b.line → marked Asked k ≡ Asked
      answered b k is says about = ap (λ a. marked a k) (sym (was_asked _ _ b.mark is)) ∙ sym (remark_own m k b says about) ∙ is

      due : (b : Lot V) → (remarked m b).mark ≡ Asked → AnswerDue S b → AnswerDue later (remarked m b)
      due b is (line_waits w) =
          ⊎_elim
          (λ (q : m ≡ message 1 (origin b.line) (primary S b.line) b.line). arrived b (subst (LineTaken S later) q (line_taken rules S m place e xs go (ap (λ r. r.kind) q))))
          (λ i. line_waits i)
          (waits_still rules S m place e xs taking (message 1 (origin b.line) (primary S b.line) b.line) w)
      due b is (confirm_waits w) =
          ⊎_elim
          (λ (q : m ≡ message 2 (primary S b.line) (origin b.line) b.line). absurd (confirmed_not_asked (answered b kind.Confirm is (ap (λ r. answer_kind r.kind) q) (ap (λ r. r.line) q))))
          (λ i. confirm_waits i)
          (waits_still rules S m place e xs taking (message 2 (primary S b.line) (origin b.line) b.line) w)
      due b is (deny_waits w) =
          ⊎_elim
          (λ (q : m ≡ message 3 (primary S b.line) (origin b.line) b.line). absurd (denied_not_asked (answered b kind.Deny is (ap (λ r. answer_kind r.kind) q) (ap (λ r. r.line) q))))
          (λ i. deny_waits i)
          (waits_still rules S m place e xs taking (message 3 (primary S b.line) (origin b.line) b.line) w)
      due b is (primary_aborted t) = aborts b t

      confirmed_before : (b : Lot V) → In b (lots rules S) → (remarked m b).mark ≡ Confirmed → In b.line (S.lines (primary S b.line))
      confirmed_before b i is =
          ⊎_elim
          (λ was. inv.marks.confirmed b i was)
          (λ (now : ((eqb b.line.time m.line.time && eqb b.line.number m.line.number) ≡ true) × (answer_kind m.kind ≡ kind.Confirm)).
          subst (λ l. In l (S.lines (primary S l))) (about now.0) (inv.marks.confirming m waited (confirm_kind m.kind now.1)))
          (newly_confirmed _ _ b.mark is)
        where
          about : (eqb b.line.time m.line.time && eqb b.line.number m.line.number) ≡ true → m.line ≡ b.line
          about test =
              let both = and_parts (eqb b.line.time m.line.time) (eqb b.line.number m.line.number) test in
              let known = (inv.provenance.messages m waited).started in
              ap (λ a. a.line) (inv.shape.one_each (lot m.line known.mark) b known.noted i (sym (eqb-true _ _ both.0)) (inr (sym (eqb-true _ _ both.1))))

      confirms : (r : Message V) → In r (replies e m) → r.kind ≡ 2 → In r.line (later.lines (primary S r.line))
      confirms r new is =
          let k = replied rules S m e xs go r new in
          ⊎_elim
          (λ (c : (message 2 m.to m.from m.line ≡ r) × In m.line (landing e m)).
          subst (λ a. In a.line (later.lines (primary S a.line))) c.0 (subst (λ s. In m.line (later.lines s)) (sym k.1) (lands_now rules S m place e xs c.1)))
          (λ (d : message 3 m.to m.from m.line ≡ r). let n = ap (λ a. a.kind) d in absurd (let never : ⊥ = omega arith in never))
          k.2

  pub settle_marks : (n : ℕ) (x : Transaction V) (outcome : Outcome) → Settling rules S n x outcome → Marked rules (settled_state rules S x outcome)
  settle_marks n x outcome go =
      record {
        asked_elsewhere = inv.marks.asked_elsewhere;
        asked = λ b i is. due_stays S S.delivered S.transactions (settle_moves rules S x outcome) b (inv.marks.asked b i is);
        confirmed = λ b i is. stays b.line (inv.marks.confirmed b i is);
        confirming = λ m i is. ⊎_elim (λ was. stays m.line (inv.marks.confirming m was is)) (λ new. absurd (no_confirm m new is)) (in_split m S.waiting (settle_moves rules S x outcome).messages i);
      }
    where
      stays : (l : Line V) → In l (S.lines (primary S l)) → In l ((settled_state rules S x outcome).lines (primary S l))
      stays l i = landed_stays S S.waiting S.delivered S.transactions (settle_moves rules S x outcome) (primary S l) l i

      no_confirm : (m : Message V) → In m (settle_moves rules S x outcome).messages → m.kind ≡ 2 → ⊥
      no_confirm m new is =
          let k = ap (λ r. r.kind) (verdict_sent rules S n x outcome go m new).6 in
          let high = verdicts_from_4 outcome in
          omega arith
