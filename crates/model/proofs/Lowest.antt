-- With nothing waiting, the open transaction of lowest time can be settled. Assumes nothing.
use Rattle.std.proofs.Common.{◌≡◌, ℕ, ◌+◌, ◌-◌, ◌<◌, ◌≤◌, Bool, true, false, cond, not, ◌&&◌, List, [], ◌∷◌, length, is_some, Some, None, sym, refl, ap, ◌∙◌, subst, inl, inr, ⊎_elim, arith}
use Rattle.std.specs.List.{slice_get}
use Rattle.std.proofs.lemmas.Bool.{and_parts, and_right, and_left, or_parts, or_from, eqb-true, eq-eqb, both_ways}
use Rattle.terms.specs.declared.mark.Mark.{Mark}
use Rattle.terms.specs.declared.mark.Mark.TheVariants.{Asked, Confirmed, Denied}
use Rattle.terms.specs.declared.outcome.Outcome.{Outcome}
use Rattle.terms.specs.declared.outcome.Outcome.TheVariants.{Commit, Abort}
use Rattle.terms.specs.Few.{few_list}
use Rattle.terms.specs.Lists.{In}
use Rattle.terms.specs.Modes.{reads}
use Rattle.terms.specs.Times.{site_of}
use Rattle.records.specs.declared.transaction.Entry.{Entry}
use Rattle.records.specs.declared.transaction.Transaction.{Transaction}
use Rattle.knowledge.specs.Knowledge.{says_abort, says_commit}
use Rattle.site.specs.Lines.{line_of, lines_from}
use Rattle.settling.specs.declared.doubt.Doubt.TheVariants.{Refuted, Unproved}
use Rattle.settling.specs.Doubts.{mark_is, any_mark, writer_is, any_writer}
use Rattle.settling.specs.Settling.{doubted, due}
use Rattle.model.specs.Law.{LowestOpen}
use Rattle.model.specs.Rules.{Rules}
use Rattle.model.specs.Single.{Noted}
use Rattle.model.proofs.State.{State, knows_at, told}
use Rattle.model.proofs.Lots.{Lot, lot, lots_from, lots_of, lots, origin}
use Rattle.model.proofs.Moves.{Settling}
use Rattle.model.proofs.Invariant.{Invariant}
use Rattle.model.proofs.Cases.{none_some, some_of, cond_cases}
use Rattle.model.proofs.Members.{in_none, in_joined}
use Rattle.model.proofs.Counts.{not_all}
use Rattle.model.proofs.Pairs.{record_of, as_many, noted_lot}
use Rattle.model.proofs.Quiet.{told_here}
use Rattle.model.proofs.Parts.History.{CameFrom, ReadAs}
use Rattle.model.proofs.Parts.Marks.{AnswerDue, line_waits, confirm_waits, deny_waits, primary_aborted}

-- A transaction noted can be settled, and a verdict record is free at its origin.
pub record CanSettle {V : Type 0} (rules : Rules V) (S : State V) (h : Noted V) : Type 0 where
  pub x : Transaction V
  pub outcome : Outcome
  pub settling : Settling rules S h.number x outcome
  pub record_free : length (S.verdicts (site_of x.time)) < S.size.transactions

-- What is not refuted and not still to come is proved.
module _ {V : Type 0} (rules : Rules V) (S : State V) (hs : List (Noted V)) (inv : Invariant rules S hs) (quiet : S.waiting ≡ []) where
  not_asked : (b : Lot V) → In b (lots rules S) → told S (origin b.line) b.line.time ≡ None → b.mark ≡ Asked → ⊥
  not_asked b i undecided asked = go (inv.marks.asked b i asked)
    where
      go : AnswerDue S b → ⊥
      go (line_waits m) = in_none _ S.waiting quiet m
      go (confirm_waits m) = in_none _ S.waiting quiet m
      go (deny_waits m) = in_none _ S.waiting quiet m
      go (primary_aborted e) = none_some Abort (sym undecided ∙ inv.provenance.verdicts _ b.line.time Abort e)

  mark_proved : (mark : Mark) → (mark ≡ Asked → ⊥) → mark_is Refuted mark ≡ false → mark_is Unproved mark ≡ false
  mark_proved Asked ne e = absurd (ne refl)
  mark_proved Confirmed ne e = refl
  mark_proved Denied ne e = absurd (both_ways _ e refl)

  module _ (time : ℕ) (undecided : told S (site_of time) time ≡ None) where
    marks_proved : (k : ℕ) (modes : List ℕ) (es : List (Entry V)) → length es ≡ length modes → ((b : Lot V) → In b (lots_from time k modes es) → In b (lots rules S)) → any_mark Refuted es ≡ false → any_mark Unproved es ≡ false
    marks_proved k modes [] same all e = refl
    marks_proved k [] (e ∷ es) same all r = absurd (let never : ⊥ = omega arith in never)
    marks_proved k (mode ∷ modes) (e ∷ es) same all r =
        let p = or_parts _ _ r in
        or_from _ _
        (mark_proved e.mark (not_asked (lot (line_of time k mode e) e.mark) (all _ (inl refl)) undecided) p.0)
        (marks_proved (k + 1) modes es (omega arith) (λ b i. all b (inr i)) p.1)

    -- Each writer read from is decided.
    module _ (lower : (b : Lot V) → In b (lots rules S) → b.line.time < time → (o : Outcome) × (told S (origin b.line) b.line.time ≡ Some o)) where
      outcome_proved : (read : ℕ) (o : Outcome) → told S (site_of time) read ≡ Some o → writer_is (knows_at S (site_of time)) Refuted read ≡ false → writer_is (knows_at S (site_of time)) Unproved read ≡ false
      outcome_proved read Commit e r = and_right _ _ (ap (λ k. not (says_commit k)) e)
      outcome_proved read Abort e r = absurd (both_ways _ r (ap says_abort e))

      writer_proved : (card read : ℕ) (v : V) → read < time → CameFrom rules S (site_of time) card read v → writer_is (knows_at S (site_of time)) Refuted read ≡ false → writer_is (knows_at S (site_of time)) Unproved read ≡ false
      writer_proved card read v before came r =
          ⊎_elim
          (λ o. and_left _ _ (ap not (eq-eqb read 0 o.0)))
          (λ w.
          let timed = w.timed in
          let k = lower w.writer w.noted (omega arith) in
          let here = told_here rules S hs inv quiet w.writer w.noted (site_of time) w.reached k.0 k.1 in
          outcome_proved read k.0 (subst (λ t. told S (site_of time) t ≡ Some k.0) timed here) r)
          came

      writers_proved : (k : ℕ) (modes : List ℕ) (es : List (Entry V)) (vs : List V) → ((b : Lot V) → In b (lots_from time k modes es) → In b (lots rules S)) → ReadAs rules S (site_of time) modes es vs → any_writer (knows_at S (site_of time)) Refuted (lines_from time k modes es) ≡ false → any_writer (knows_at S (site_of time)) Unproved (lines_from time k modes es) ≡ false
      writers_proved k [] es vs all read r = refl
      writers_proved k (mode ∷ modes) [] vs all read r = refl
      writers_proved k (mode ∷ modes) (e ∷ es) vs all read r =
          let p = or_parts _ _ r in
          let more : (ws : List V) → ReadAs rules S (site_of time) modes es ws → any_writer (knows_at S (site_of time)) Unproved (lines_from time (k + 1) modes es) ≡ false = λ ws q. writers_proved (k + 1) modes es ws (λ b i. all b (inr i)) q p.1 in
          cond_cases (reads mode) read
          (λ is q. or_from _ _ (and_right _ _ (writer_proved e.card e.read q.0 ((inv.shape.shaped (lot (line_of time k mode e) e.mark) (all _ (inl refl))).read_before is) q.3 (subst (λ t. (t && writer_is (knows_at S (site_of time)) Refuted e.read) ≡ false) is p.0))) (more q.1 q.4))
          (λ is q. or_from _ _ (and_left _ _ is) (more vs q))

  -- A verdict is due if nothing is doubtful but what is refuted.
  due_given : (x : Transaction V) (site : ℕ) → (doubted (knows_at S site) Refuted (rules.modes x.rule) x ≡ false → doubted (knows_at S site) Unproved (rules.modes x.rule) x ≡ false) → (o : Outcome) × (due (knows_at S site) (rules.modes x.rule) x ≡ Some o)
  due_given x site proved = go (doubted (knows_at S site) Refuted (rules.modes x.rule) x) proved
    where
      go : (b : Bool) → (b ≡ false → doubted (knows_at S site) Unproved (rules.modes x.rule) x ≡ false) → (o : Outcome) × (cond b (Some Abort) (cond (doubted (knows_at S site) Unproved (rules.modes x.rule) x) None (Some Commit)) ≡ Some o)
      go true p = (Abort, refl)
      go false p = (Commit, ap (λ b. cond b None (Some Commit)) (p refl))

  pub can_settle : (h : Noted V) → LowestOpen hs h → CanSettle rules S h
  can_settle h low =
      let r = record_of rules S 1 hs S.transactions inv.history.noted h low.noted in
      let x = r.0 in
      let m = r.1.matched in
      let number_is = m.number_is in
      let numbered : 1 ≤ h.number = omega arith in
      let place : r.1.place ≡ h.number - 1 = omega arith in
      let undecided : told S (site_of x.time) x.time ≡ None = sym m.outcome_is ∙ low.undecided in
      let present = inv.shape.present x r.1.started in
      let all : (b : Lot V) → In b (lots_of rules x) → In b (lots rules S) = λ b i. in_joined (lots_of rules) x b S.transactions r.1.started i in
      let verdict = due_given x (site_of x.time) (λ refuted.
      let p = or_parts _ _ refuted in
      or_from _ _
      (marks_proved x.time undecided 1 (rules.modes x.rule) (few_list x.entries) (eqb-true _ _ (and_parts _ _ (and_parts _ _ present).0).1) all p.0)
      (writers_proved x.time undecided (λ b i lt. lower x.time m.time_is b i lt) 1 (rules.modes x.rule) (few_list x.entries) h.read all m.read_are p.1)) in
      record {
        x = x;
        outcome = verdict.0;
        settling = record { numbered = numbered; found = subst (λ n. slice_get S.transactions n ≡ Some x) place r.1.found; present = present; undecided = undecided; due_is = verdict.1 };
        record_free = free (site_of x.time);
      }
    where
      lower : (time : ℕ) → h.time ≡ time → (b : Lot V) → In b (lots rules S) → b.line.time < time → (o : Outcome) × (told S (origin b.line) b.line.time ≡ Some o)
      lower time is b i lt =
          let k = noted_lot rules S hs inv b i in
          some_of (told S (origin b.line) b.line.time) (λ e. let le = low.lowest k.0 k.1 (k.3 ∙ e) in let timed = k.2 in omega arith)

      free : (s : ℕ) → length (S.verdicts s) < S.size.transactions
      free s =
          let few = inv.numbers.verdicts s in
          let lt = not_all (λ g. is_some g.outcome) h hs low.noted (ap is_some low.undecided) in
          let many = as_many rules S hs inv in
          let le = inv.clocks.not_over in
          omega arith
