-- Each accepted call keeps what the verdicts say. Assumes nothing.
use Rattle.std.proofs.Common.{◌≡◌, ℕ, ◌+◌, ◌-◌, ◌<◌, Bool, true, false, cond, not, ◌&&◌, eqb, ◌⊎◌, List, [], ◌∷◌, Some, None, sym, refl, ap, ◌∙◌, subst, inl, inr, ⊎_elim, arith}
use Rattle.std.specs.List.{remove}
use Rattle.std.proofs.lemmas.Bool.{true≢false, not-false, cases_eq, eqb-true, and_cases, or_parts}
use Rattle.terms.specs.declared.mark.Mark.{Mark}
use Rattle.terms.specs.declared.mark.Mark.TheVariants.{Asked, Confirmed, Denied}
use Rattle.terms.specs.declared.outcome.Outcome.{Outcome}
use Rattle.terms.specs.declared.outcome.Outcome.TheVariants.{Commit, Abort}
use Rattle.terms.specs.Few.{few_list}
use Rattle.terms.specs.Kinds.{kind_number, verdict_kind}
use Rattle.terms.specs.Lists.{In}
use Rattle.terms.specs.Modes.{reads}
use Rattle.terms.specs.Times.{site_of}
use Rattle.records.specs.declared.line.Line.{Line}
use Rattle.records.specs.declared.message.Message.{Message}
use Rattle.records.specs.declared.transaction.Entry.{Entry}
use Rattle.records.specs.declared.transaction.Transaction.{Transaction}
use Rattle.knowledge.specs.Knowledge.{Site, known, committed}
use Rattle.site.specs.Lines.{lines_of}
use Rattle.starting.specs.declared.start.Order.{Order}
use Rattle.delivering.specs.declared.effect.Effect.{Effect}
use Rattle.settling.specs.declared.doubt.Doubt.TheVariants.{Unproved}
use Rattle.settling.specs.Doubts.{mark_is, any_mark, writer_is, any_writer}
use Rattle.steps.specs.Numbers.{stopped}
use Rattle.model.specs.Rules.{Rules}
use Rattle.model.specs.Single.{Noted}
use Rattle.model.proofs.State.{State, knows_at, told}
use Rattle.model.proofs.Lots.{Lot, lots_from, lots_of, lots, origin, Goes, message}
use Rattle.model.proofs.Moves.{Starting, start_moves, started_state, Delivering, line_dropped, line_landed, line_confirmed, line_denied, line_marked, verdict_known, verdict_recorded, Taking, deliver_moves, delivered_state, Settling, settle_moves, settled_state}
use Rattle.model.proofs.Invariant.{Invariant}
use Rattle.model.proofs.Cases.{says_commit_is, none_some, commit_abort}
use Rattle.model.proofs.Members.{in_left, in_right, in_nth, in_taken}
use Rattle.model.proofs.Grown.{told_stays, told_there, told_same, verdict_own}
use Rattle.model.proofs.Drafts.{lot_started, drafted_lot, lot_line, own_lot}
use Rattle.model.proofs.Starts.{start_untold}
use Rattle.model.proofs.Arrivals.{mark_stays, remarked, each_delivered, verdicts_from_4, same_verdict, sent_verdict, told_at_home, told_still, of_replies}
use Rattle.model.proofs.Telling.{settle_tells, settle_quiet, sends_verdict}
use Rattle.model.proofs.Parts.Verdicts.{VerdictWaits, Verdicts}

-- A message of a lower kind is no verdict.
no_verdict : {V : Type 0} (m : Message V) (o : Outcome) (k : ℕ) → k < 4 → m.kind ≡ k → m.kind ≡ kind_number (verdict_kind o) → ⊥
no_verdict m o k low is e = let above = verdicts_from_4 o in omega arith

-- What is due to be committed is not unproved.
due_proved : (refuted unproved : Bool) → cond refuted (Some Abort) (cond unproved None (Some Commit)) ≡ Some Commit → unproved ≡ false
due_proved true unproved e = absurd (commit_abort (Some Commit) refl (sym e))
due_proved false true e = absurd (none_some Commit e)
due_proved false false e = refl

proved_mark : (mark : Mark) → mark_is Unproved mark ≡ false → mark ≡ Confirmed
proved_mark Asked e = absurd (true≢false e)
proved_mark Confirmed e = refl
proved_mark Denied e = absurd (true≢false e)

-- Where nothing is unproved, the lines are confirmed and have read what is committed.
module _ {V : Type 0} where
  lot_proved : (time number : ℕ) (modes : List ℕ) (es : List (Entry V)) (b : Lot V) → any_mark Unproved es ≡ false → In b (lots_from time number modes es) → b.mark ≡ Confirmed
  lot_proved time number [] es b h i = absurd i
  lot_proved time number (mode ∷ modes) [] b h i = absurd i
  lot_proved time number (mode ∷ modes) (e ∷ es) b h i =
      let parts = or_parts (mark_is Unproved e.mark) (any_mark Unproved es) h in
      ⊎_elim (λ p. sym (ap (λ c. c.mark) p) ∙ proved_mark e.mark parts.0) (λ r. lot_proved time (number + 1) modes es b parts.1 r) i

  read_proved : (site : Site V) (l : Line V) (ls : List (Line V)) → any_writer site Unproved ls ≡ false → In l ls → reads l.mode ≡ true → (l.read ≡ 0) ⊎ (known site l.read ≡ Some Commit)
  read_proved site l [] h i r = absurd i
  read_proved site l (k ∷ ls) h i r =
      let parts = or_parts (reads k.mode && writer_is site Unproved k.read) (any_writer site Unproved ls) h in
      ⊎_elim
      (λ (p : k ≡ l). ⊎_elim (λ n. absurd (true≢false (sym r ∙ n))) proved (and_cases (reads l.mode) _ (subst (λ k. (reads k.mode && writer_is site Unproved k.read) ≡ false) p parts.0)))
      (λ q. read_proved site l ls parts.1 q r)
      i
    where
      proved : (not (eqb l.read 0) && not (committed site l.read)) ≡ false → (l.read ≡ 0) ⊎ (known site l.read ≡ Some Commit)
      proved e =
          ⊎_elim (λ z. inl (eqb-true l.read 0 (not-false _ z))) (λ c. inr (says_commit_is (known site l.read) (not-false _ c)))
          (and_cases (not (eqb l.read 0)) (not (committed site l.read)) e)

module _ {V : Type 0} (rules : Rules V) (S : State V) (hs : List (Noted V)) (inv : Invariant rules S hs) where
  still_waits : (T : State V) (outcome : Outcome) (time site : ℕ) (w : VerdictWaits S outcome time site) → In w.message T.waiting → VerdictWaits T outcome time site
  still_waits T outcome time site w i = record { message = w.message; waits = i; kind_is = w.kind_is; to_site = w.to_site; timed = w.timed }

  module _ (order : Order V) (x : Transaction V) (written : List V) (go : Starting rules S order x written) where
    abbrev begun : State V
    begun = started_state rules S order x

    told_begun : (s time : ℕ) → told begun s time ≡ told S s time
    told_begun s time = told_same S S.waiting S.delivered begun.transactions (start_moves rules S order x) s time refl

    module _ (b : Lot V) (outcome : Outcome) (i : In b (lots rules begun)) (e : told begun (origin b.line) b.line.time ≡ Some outcome) where
      told_before : told S (origin b.line) b.line.time ≡ Some outcome
      told_before = sym (told_begun (origin b.line) b.line.time) ∙ e

      -- A lot of which something is told is none of the start's.
      lot_before : In b (lots rules S)
      lot_before =
          ⊎_elim
          (λ old. old)
          (λ new. absurd (none_some outcome (sym (start_untold rules S order x written go inv.clocks inv.provenance (origin b.line)) ∙ ap (told S (origin b.line)) (sym (drafted_lot rules S order x written go b new).timed) ∙ told_before)))
          (lot_started rules S order x written go b i)

    pub start_verdicts : Verdicts rules (started_state rules S order x)
    start_verdicts =
        record {
          committed_marks = λ b i e. inv.verdicts.committed_marks b (lot_before b Commit i e) (told_before b Commit i e);
          committed_reads = λ b i e r. ⊎_elim (λ z. inl z) (λ w. inr (told_begun (site_of b.line.read) b.line.read ∙ w)) (inv.verdicts.committed_reads b (lot_before b Commit i e) (told_before b Commit i e) r);
          spread =
              λ b outcome i e site g.
              ⊎_elim (λ k. inl (told_begun site b.line.time ∙ k)) (λ w. inr (still_waits begun outcome b.line.time site w (in_left w.message S.waiting _ w.waits)))
              (inv.verdicts.spread b outcome (lot_before b outcome i e) (told_before b outcome i e) site g);
        }

  -- A verdict that arrives is known afterwards.
  told_arrived : (place : ℕ) (m : Message V) (e : Effect V) (xs : List (Transaction V)) → Taking rules S place m → Delivering rules S m e xs → (outcome : Outcome) → m.kind ≡ kind_number (verdict_kind outcome) → told (delivered_state rules S place m e xs) m.to m.line.time ≡ Some outcome
  told_arrived place m e xs taking (line_dropped k a) outcome j = absurd (no_verdict m outcome 1 (omega arith) k j)
  told_arrived place m e xs taking (line_landed k a p) outcome j = absurd (no_verdict m outcome 1 (omega arith) k j)
  told_arrived place m e xs taking (line_confirmed k a p d) outcome j = absurd (no_verdict m outcome 1 (omega arith) k j)
  told_arrived place m e xs taking (line_denied k a p d) outcome j = absurd (no_verdict m outcome 1 (omega arith) k j)
  told_arrived place m e xs taking (line_marked kind one is at x found same) outcome j = absurd (no_verdict m outcome (kind_number kind) (of_replies (λ k. kind_number k < 4) (omega arith) (omega arith) kind one) is j)
  told_arrived place m e xs taking (verdict_known o before k known) outcome j =
      told_stays S (remove S.waiting place) (stopped S.delivered 1) S.transactions (deliver_moves rules S m e) m.to m.line.time outcome
      (known ∙ sym (inv.provenance.verdicts m.to m.line.time before known) ∙ sent_verdict rules S m outcome j (inv.provenance.messages m (in_nth m S.waiting place taking.waited)).sent_as)
  told_arrived place m e xs taking (verdict_recorded o k none) outcome j =
      told_there S (remove S.waiting place) (stopped S.delivered 1) S.transactions (deliver_moves rules S m e) m.line.time none
      ∙ verdict_own S.size m.line.time o taking.ranged ∙ ap Some (same_verdict o outcome (sym k ∙ j))

  module _ (place : ℕ) (m : Message V) (e : Effect V) (xs : List (Transaction V)) (taking : Taking rules S place m) (go : Delivering rules S m e xs) where
    abbrev taken : State V
    taken = delivered_state rules S place m e xs

    told_was : (l : Line V) (outcome : Outcome) → told taken (origin l) l.time ≡ Some outcome → told S (origin l) l.time ≡ Some outcome
    told_was l outcome known = sym (told_at_home rules S m place e xs (inv.provenance.messages m (in_nth m S.waiting place taking.waited)).sent_as go l.time) ∙ known

    -- A verdict that waited still waits, or has arrived.
    waits_taken : (outcome : Outcome) (time site : ℕ) → VerdictWaits S outcome time site → (told taken site time ≡ Some outcome) ⊎ VerdictWaits taken outcome time site
    waits_taken outcome time site w =
        ⊎_elim
        (λ (same : m ≡ w.message).
        let arrived = told_arrived place m e xs taking go outcome (ap (λ k. k.kind) same ∙ w.kind_is) in
        inl (subst (λ t. told taken site t ≡ Some outcome) (ap (λ k. k.line.time) same ∙ w.timed) (subst (λ s. told taken s m.line.time ≡ Some outcome) (ap (λ k. k.to) same ∙ w.to_site) arrived)))
        (λ rest. inr (still_waits taken outcome time site w (in_left w.message (remove S.waiting place) _ rest)))
        (in_taken w.message m S.waiting place taking.waited w.waits)

    each : (P : Lot V → Type 0) → ((b : Lot V) → In b (lots rules S) → P (remarked m b)) → (b : Lot V) → In b (lots rules taken) → P b
    each = each_delivered rules S m inv.shape e xs go

    pub deliver_verdicts : Verdicts rules (delivered_state rules S place m e xs)
    deliver_verdicts =
        record {
          committed_marks = each (λ b. told taken (origin b.line) b.line.time ≡ Some Commit → b.mark ≡ Confirmed) (λ b i known. mark_stays _ _ b.mark Confirmed refl (inv.verdicts.committed_marks b i (told_was b.line Commit known)));
          committed_reads =
              each (λ b. told taken (origin b.line) b.line.time ≡ Some Commit → reads b.line.mode ≡ true → (b.line.read ≡ 0) ⊎ (told taken (site_of b.line.read) b.line.read ≡ Some Commit))
              (λ b i known r. ⊎_elim (λ z. inl z) (λ w. inr (told_still rules S m place e xs (site_of b.line.read) b.line.read Commit w)) (inv.verdicts.committed_reads b i (told_was b.line Commit known) r));
          spread =
              λ b outcome.
              each (λ b. told taken (origin b.line) b.line.time ≡ Some outcome → (site : ℕ) → Goes S b.line site → (told taken site b.line.time ≡ Some outcome) ⊎ VerdictWaits taken outcome b.line.time site)
              (λ b i known site g. ⊎_elim (λ k. inl (told_still rules S m place e xs site b.line.time outcome k)) (λ w. waits_taken outcome b.line.time site w) (inv.verdicts.spread b outcome i (told_was b.line outcome known) site g)) b;
        }

  module _ (n : ℕ) (x : Transaction V) (outcome : Outcome) (go : Settling rules S n x outcome) where
    abbrev settled : State V
    settled = settled_state rules S x outcome

    -- A lot with the time of the transaction settled is one of its lots.
    of_x : (b : Lot V) → In b (lots rules S) → b.line.time ≡ x.time → In b (lots_of rules x)
    of_x b i e = own_lot rules S.transactions inv.shape.times_differ x (in_nth x S.transactions (n - 1) go.found) b i e

    still_settled : (s time : ℕ) (o : Outcome) → told S s time ≡ Some o → told settled s time ≡ Some o
    still_settled s time o h = told_stays S S.waiting S.delivered S.transactions (settle_moves rules S x outcome) s time o h

    module _ (b : Lot V) (i : In b (lots rules S)) (e : b.line.time ≡ x.time) where
      proved : told settled (origin b.line) b.line.time ≡ Some Commit → (any_mark Unproved (few_list x.entries) ≡ false) × (any_writer (knows_at S (site_of x.time)) Unproved (lines_of (rules.modes x.rule) x) ≡ false)
      proved h = or_parts _ _ (due_proved _ _ (go.due_is ∙ sym (settle_tells rules S n x outcome go b.line.time (sym e)) ∙ h))

      read_committed : told settled (origin b.line) b.line.time ≡ Some Commit → reads b.line.mode ≡ true → (b.line.read ≡ 0) ⊎ (told settled (site_of b.line.read) b.line.read ≡ Some Commit)
      read_committed h r =
          ⊎_elim
          (λ z. inl z)
          (λ c. inr (still_settled (site_of b.line.read) b.line.read Commit (inv.provenance.verdicts (site_of x.time) b.line.read Commit c)))
          (read_proved (knows_at S (site_of x.time)) b.line (lines_of (rules.modes x.rule) x) (proved h).1 (lot_line x.time 1 (rules.modes x.rule) (few_list x.entries) b (of_x b i e)) r)

      verdict_waits : (site : ℕ) → Goes S b.line site → VerdictWaits settled outcome b.line.time site
      verdict_waits site g =
          let put = sends_verdict rules S n x outcome go inv.clocks.sites_few b (of_x b i e) site g in
          record { message = message (kind_number (verdict_kind outcome)) (site_of x.time) site put.0; waits = in_right _ S.waiting _ put.2; kind_is = refl; to_site = refl; timed = put.1 ∙ sym e }

    pub settle_verdicts : Verdicts rules (settled_state rules S x outcome)
    settle_verdicts =
        record {
          committed_marks =
              λ b i h.
              ⊎_elim
              (λ (e : b.line.time ≡ x.time). lot_proved x.time 1 (rules.modes x.rule) (few_list x.entries) b (proved b i e h).0 (of_x b i e))
              (λ (ne : b.line.time ≡ x.time → ⊥). inv.verdicts.committed_marks b i (sym (settle_quiet rules S n x outcome go (origin b.line) b.line.time (λ e. ne (sym e))) ∙ h))
              (cases_eq b.line.time x.time);
          committed_reads =
              λ b i h r.
              ⊎_elim
              (λ (e : b.line.time ≡ x.time). read_committed b i e h r)
              (λ (ne : b.line.time ≡ x.time → ⊥).
              ⊎_elim (λ z. inl z) (λ c. inr (still_settled (site_of b.line.read) b.line.read Commit c))
              (inv.verdicts.committed_reads b i (sym (settle_quiet rules S n x outcome go (origin b.line) b.line.time (λ e. ne (sym e))) ∙ h) r))
              (cases_eq b.line.time x.time);
          spread =
              λ b o i h site g.
              ⊎_elim
              (λ (e : b.line.time ≡ x.time). let same : outcome ≡ o = cc (settle_tells rules S n x outcome go b.line.time (sym e), h) in inr (subst (λ o. VerdictWaits settled o b.line.time site) same (verdict_waits b i e site g)))
              (λ (ne : b.line.time ≡ x.time → ⊥).
              ⊎_elim (λ k. inl (still_settled site b.line.time o k)) (λ w. inr (still_waits settled o b.line.time site w (in_left w.message S.waiting _ w.waits)))
              (inv.verdicts.spread b o i (sym (settle_quiet rules S n x outcome go (origin b.line) b.line.time (λ e. ne (sym e))) ∙ h) site g))
              (cases_eq b.line.time x.time);
        }
