-- What the delivery of a message leaves: where its line goes, which marks change, what is told. Assumes nothing.
use Rattle.std.proofs.Common.{◌≡◌, ℕ, ◌≤◌, Bool, true, false, cond, ◌&&◌, ◌||◌, eqb, ◌⊎◌, List, [], ◌∷◌, map, Some, None, Option, sym, refl, ap, ◌∙◌, subst, inl, inr, ⊎_elim, arith}
use Rattle.std.specs.List.{remove}
use Rattle.std.proofs.lemmas.Bool.{eq-eqb, and_from, cond-true, or_left, or_right}
use Rattle.terms.specs.declared.kind.Kind.{Kind}
use Rattle.terms.specs.declared.kind.Kind.TheVariants as kind
use Rattle.terms.specs.declared.mark.Mark.{Mark}
use Rattle.terms.specs.declared.mark.Mark.TheVariants.{Asked, Confirmed, Denied}
use Rattle.terms.specs.declared.outcome.Outcome.{Outcome}
use Rattle.terms.specs.declared.outcome.Outcome.TheVariants.{Commit, Abort}
use Rattle.terms.specs.Kinds.{kind_number, verdict_kind}
use Rattle.terms.specs.Lists.{In}
use Rattle.terms.specs.Times.{site_of}
use Rattle.records.specs.declared.line.Line.{Line}
use Rattle.records.specs.declared.message.Message.{Message}
use Rattle.records.specs.declared.transaction.Transaction.{Transaction}
use Rattle.records.specs.declared.verdict.Verdict.{Verdict}
use Rattle.knowledge.specs.Check as check
use Rattle.knowledge.specs.Knowledge.{verdict_on}
use Rattle.delivering.specs.declared.effect.Effect.{Effect}
use Rattle.delivering.specs.Effects.{landing, replies, recording, verdict_told}
use Rattle.delivering.specs.Marks.{marked}
use Rattle.steps.specs.Numbers.{stopped}
use Rattle.model.specs.Rules.{Rules}
use Rattle.model.proofs.State.{State, told, knows_at}
use Rattle.model.proofs.Lots.{Lot, lot, lots, all_lots, remark, primary, message, origin, Goes}
use Rattle.model.proofs.Moves.{Delivering, line_dropped, line_landed, line_confirmed, line_denied, line_marked, verdict_known, verdict_recorded, Taking, deliver_moves, delivered_state}
use Rattle.model.proofs.Cases.{says_abort_is}
use Rattle.model.proofs.Members.{in_left, in_last, in_one, in_taken, map_in, in_map}
use Rattle.model.proofs.Grown.{landed_stays, lands_there, told_stays, told_by, told_same}
use Rattle.model.proofs.Remarks.{lots_marked}
use Rattle.model.proofs.Parts.Shape.{Shape}
use Rattle.model.proofs.Parts.Provenance.{SentAs, as_line, as_reply, as_verdict}

-- What a message of a kind says of its line: CONFIRM and DENY answer it, any other kind changes no mark.
abbrev pub answer_kind : ℕ → Kind
answer_kind n = cond (eqb n 2) kind.Confirm (cond (eqb n 3) kind.Deny kind.Line)

verdict_no_answer : (outcome : Outcome) → answer_kind (kind_number (verdict_kind outcome)) ≡ kind.Line
verdict_no_answer Commit = refl
verdict_no_answer Abort = refl

-- What holds of both kinds of reply holds of a reply.
pub of_replies : (P : Kind → Type 0) → P kind.Confirm → P kind.Deny → (k : Kind) → (k ≡ kind.Confirm) ⊎ (k ≡ kind.Deny) → P k
of_replies P confirms denies k is = ⊎_elim (λ (e : k ≡ kind.Confirm). subst P (sym e) confirms) (λ (e : k ≡ kind.Deny). subst P (sym e) denies) is

-- A verdict's kind is 4 or 5.
pub verdicts_from_4 : (outcome : Outcome) → 4 ≤ kind_number (verdict_kind outcome)
verdicts_from_4 Commit = omega arith
verdicts_from_4 Abort = omega arith

pub a_verdict : (outcome : Outcome) (n : ℕ) → n ≡ kind_number (verdict_kind outcome) → (eqb n 4 || eqb n 5) ≡ true
a_verdict Commit n is = or_left _ _ (eq-eqb n 4 is)
a_verdict Abort n is = or_right _ _ (eq-eqb n 5 is)

pub same_verdict : (o p : Outcome) → kind_number (verdict_kind o) ≡ kind_number (verdict_kind p) → o ≡ p
same_verdict Commit Commit e = refl
same_verdict Commit Abort e = absurd (let never : ⊥ = omega arith in never)
same_verdict Abort Commit e = absurd (let never : ⊥ = omega arith in never)
same_verdict Abort Abort e = refl

unmarked : (b : Bool) (mark : Mark) → cond b (marked mark kind.Line) mark ≡ mark
unmarked true Asked = refl
unmarked true Confirmed = refl
unmarked true Denied = refl
unmarked false mark = refl

unremarked : {V : Type 0} (time number : ℕ) (bs : List (Lot V)) → bs ≡ map (remark kind.Line time number) bs
unremarked time number [] = refl
unremarked time number (b ∷ bs) = ap (λ mark. lot b.line mark ∷ bs) (sym (unmarked _ b.mark)) ∙ ap (λ rest. remark kind.Line time number b ∷ rest) (unremarked time number bs)

-- A mark after a remark: one that is not asked stays, and only an answer to the line itself changes it.
pub mark_stays : (b : Bool) (k : Kind) (mark is : Mark) → marked is k ≡ is → mark ≡ is → cond b (marked mark k) mark ≡ is
mark_stays true k mark is same e = ap (λ a. marked a k) e ∙ same
mark_stays false k mark is same e = e

pub was_asked : (b : Bool) (k : Kind) (mark : Mark) → cond b (marked mark k) mark ≡ Asked → mark ≡ Asked
was_asked b k Asked e = refl
was_asked true k Confirmed e = e
was_asked true k Denied e = e
was_asked false k Confirmed e = e
was_asked false k Denied e = e

pub newly_confirmed : (b : Bool) (k : Kind) (mark : Mark) → cond b (marked mark k) mark ≡ Confirmed → (mark ≡ Confirmed) ⊎ ((b ≡ true) × (k ≡ kind.Confirm))
newly_confirmed false k mark e = inl e
newly_confirmed true kind.Line Asked e = inl e
newly_confirmed true kind.Confirm Asked e = inr (refl, refl)
newly_confirmed true kind.Deny Asked e = absurd (let z : ◌≡◌ {A = ℕ} 0 1 = cc in let never : ⊥ = omega arith in never)
newly_confirmed true kind.Commit Asked e = inl e
newly_confirmed true kind.Abort Asked e = inl e
newly_confirmed true k Confirmed e = inl refl
newly_confirmed true k Denied e = inl e

-- A lot as the delivery of a message leaves it.
abbrev pub remarked : {V : Type 0} → Message V → Lot V → Lot V
remarked m = remark (answer_kind m.kind) m.line.time m.line.number

-- The mark of the line that a message is about.
pub remark_own : {V : Type 0} (m : Message V) (k : Kind) (b : Lot V) → answer_kind m.kind ≡ k → m.line ≡ b.line → (remarked m b).mark ≡ marked b.mark k
remark_own m k b is about = cond-true (eqb b.line.time m.line.time && eqb b.line.number m.line.number) _ _ (and_from _ _ (eq-eqb _ _ (ap (λ l. l.time) (sym about))) (eq-eqb _ _ (ap (λ l. l.number) (sym about)))) ∙ ap (marked b.mark) is

-- What became of a line that arrived, in the state before and the one after.
pub data LineTaken {V : Type 0} (S after : State V) (m : Message V) : Type 0 where
  dropped : told S m.to m.line.time ≡ Some Abort → LineTaken S after m
  landed : (primary S m.line ≡ m.to → ⊥) → In m.line (after.lines m.to) → LineTaken S after m
  confirmed : primary S m.line ≡ m.to → In m.line (after.lines m.to) → In (message 2 m.to m.from m.line) after.waiting → LineTaken S after m
  denied : primary S m.line ≡ m.to → In (message 3 m.to m.from m.line) after.waiting → LineTaken S after m

module _ {V : Type 0} (rules : Rules V) (S : State V) (m : Message V) where
  lots_unanswered : answer_kind m.kind ≡ kind.Line → lots rules S ≡ map (remarked m) (lots rules S)
  lots_unanswered is = subst (λ k. lots rules S ≡ map (remark k m.line.time m.line.number) (lots rules S)) (sym is) (unremarked m.line.time m.line.number (lots rules S))

  -- The lots after a delivery.
  pub lots_after : Shape rules S → (e : Effect V) (xs : List (Transaction V)) → Delivering rules S m e xs → all_lots rules xs ≡ map (remarked m) (lots rules S)
  lots_after shape e xs (line_dropped is a) = lots_unanswered (ap answer_kind is)
  lots_after shape e xs (line_landed is a p) = lots_unanswered (ap answer_kind is)
  lots_after shape e xs (line_confirmed is a p d) = lots_unanswered (ap answer_kind is)
  lots_after shape e xs (line_denied is a p d) = lots_unanswered (ap answer_kind is)
  lots_after shape e xs (line_marked k one is place x found timed) =
      lots_marked rules k m.line.number place S.transactions x found shape.times_differ
      ∙ ap (λ time. map (remark k time m.line.number) (lots rules S)) timed
      ∙ ap (λ j. map (remark j m.line.time m.line.number) (lots rules S)) (sym (ap answer_kind is ∙ of_replies (λ j. answer_kind (kind_number j) ≡ j) refl refl k one))
  lots_after shape e xs (verdict_known outcome before is t) = lots_unanswered (ap answer_kind is ∙ verdict_no_answer outcome)
  lots_after shape e xs (verdict_recorded outcome is t) = lots_unanswered (ap answer_kind is ∙ verdict_no_answer outcome)

  pub lot_after : Shape rules S → (e : Effect V) (xs : List (Transaction V)) → Delivering rules S m e xs → (b : Lot V) → In b (lots rules S) → In (remarked m b) (all_lots rules xs)
  lot_after shape e xs go b i = subst (In (remarked m b)) (sym (lots_after shape e xs go)) (in_map (remarked m) b (lots rules S) i)

  -- What holds of each lot after its remark holds of each lot after a delivery.
  pub each_delivered : Shape rules S → (e : Effect V) (xs : List (Transaction V)) → Delivering rules S m e xs → (P : Lot V → Type 0) → ((b : Lot V) → In b (lots rules S) → P (remarked m b)) → (b : Lot V) → In b (all_lots rules xs) → P b
  each_delivered shape e xs go P holds b i =
      let k = map_in (remarked m) b (lots rules S) (subst (In b) (lots_after shape e xs go) i) in
      subst P k.2 (holds k.0 k.1)

  -- What has landed or was told stays so, and what lands is there.
  pub lands_now : (place : ℕ) (e : Effect V) (xs : List (Transaction V)) → In m.line (landing e m) → In m.line ((delivered_state rules S place m e xs).lines m.to)
  lands_now place e xs i = lands_there S (remove S.waiting place) (stopped S.delivered 1) xs (deliver_moves rules S m e) m.line i

  pub landed_still : (place : ℕ) (e : Effect V) (xs : List (Transaction V)) (s : ℕ) (l : Line V) → In l (S.lines s) → In l ((delivered_state rules S place m e xs).lines s)
  landed_still place e xs = landed_stays S (remove S.waiting place) (stopped S.delivered 1) xs (deliver_moves rules S m e)

  pub told_still : (place : ℕ) (e : Effect V) (xs : List (Transaction V)) (s time : ℕ) (outcome : Outcome) → told S s time ≡ Some outcome → told (delivered_state rules S place m e xs) s time ≡ Some outcome
  told_still place e xs = told_stays S (remove S.waiting place) (stopped S.delivered 1) xs (deliver_moves rules S m e)

  -- What waited is the message delivered, or waits still.
  pub waits_still : (place : ℕ) (e : Effect V) (xs : List (Transaction V)) → Taking rules S place m → (r : Message V) → In r S.waiting → (m ≡ r) ⊎ In r (delivered_state rules S place m e xs).waiting
  waits_still place e xs taking r w = ⊎_elim (λ is. inl is) (λ i. inr (in_left r (remove S.waiting place) (replies e m) i)) (in_taken r m S.waiting place taking.waited w)

  -- What became of a line that arrived.
  pub line_taken : (place : ℕ) (e : Effect V) (xs : List (Transaction V)) → Delivering rules S m e xs → m.kind ≡ 1 → LineTaken S (delivered_state rules S place m e xs) m
  line_taken place e xs (line_dropped is a) one = dropped (says_abort_is _ a)
  line_taken place e xs (line_landed is a p) one = landed p (lands_now place e xs (inl refl))
  line_taken place e xs (line_confirmed is a p d) one = confirmed p (lands_now place e xs (inl refl)) (in_last (message 2 m.to m.from m.line) (remove S.waiting place))
  line_taken place e xs (line_denied is a p d) one = denied p (in_last (message 3 m.to m.from m.line) (remove S.waiting place))
  line_taken place e xs (line_marked k known is place' x found timed) one = let high = of_replies (λ j. 2 ≤ kind_number j) (omega arith) (omega arith) k known in absurd (let never : ⊥ = omega arith in never)
  line_taken place e xs (verdict_known outcome before is t) one = let high = verdicts_from_4 outcome in absurd (let never : ⊥ = omega arith in never)
  line_taken place e xs (verdict_recorded outcome is t) one = let high = verdicts_from_4 outcome in absurd (let never : ⊥ = omega arith in never)

  -- What lands is a line that arrived, and at its primary it passed the check.
  pub lands_line : (e : Effect V) (xs : List (Transaction V)) → Delivering rules S m e xs → (l : Line V) → In l (landing e m) → (m.kind ≡ 1) × (m.line ≡ l) × (primary S m.line ≡ m.to → check.denied (knows_at S m.to) m.line ≡ false)
  lands_line e xs (line_dropped is a) l i = absurd i
  lands_line e xs (line_landed is a away) l i = (is, in_one l m.line i, λ p. absurd (away p))
  lands_line e xs (line_confirmed is a p ok) l i = (is, in_one l m.line i, λ p. ok)
  lands_line e xs (line_denied is a p d) l i = absurd i
  lands_line e xs (line_marked k one is place x found timed) l i = absurd i
  lands_line e xs (verdict_known outcome before is t) l i = absurd i
  lands_line e xs (verdict_recorded outcome is t) l i = absurd i

  -- What is replied answers a line that arrived at its primary, and a line that is confirmed lands.
  pub replied : (e : Effect V) (xs : List (Transaction V)) → Delivering rules S m e xs → (r : Message V) → In r (replies e m) → (m.kind ≡ 1) × (primary S m.line ≡ m.to) × (((message 2 m.to m.from m.line ≡ r) × In m.line (landing e m)) ⊎ (message 3 m.to m.from m.line ≡ r))
  replied e xs (line_dropped is a) r i = absurd i
  replied e xs (line_landed is a p) r i = absurd i
  replied e xs (line_confirmed is a p d) r i = (is, p, inl (in_one r (message 2 m.to m.from m.line) i, inl refl))
  replied e xs (line_denied is a p d) r i = (is, p, inr (in_one r (message 3 m.to m.from m.line) i))
  replied e xs (line_marked k one is place x found timed) r i = absurd i
  replied e xs (verdict_known outcome before is t) r i = absurd i
  replied e xs (verdict_recorded outcome is t) r i = absurd i

  -- What is recorded is a verdict that arrived.
  pub records_verdict : (e : Effect V) (xs : List (Transaction V)) → Delivering rules S m e xs → (v : Verdict) → In v (recording e m) → (outcome : Outcome) × (m.kind ≡ kind_number (verdict_kind outcome)) × (verdict_told outcome m ≡ v)
  records_verdict e xs (line_dropped is a) v i = absurd i
  records_verdict e xs (line_landed is a p) v i = absurd i
  records_verdict e xs (line_confirmed is a p d) v i = absurd i
  records_verdict e xs (line_denied is a p d) v i = absurd i
  records_verdict e xs (line_marked k one is place x found timed) v i = absurd i
  records_verdict e xs (verdict_known outcome before is t) v i = absurd i
  records_verdict e xs (verdict_recorded outcome is t) v i = (outcome, is, in_one v (verdict_told outcome m) i)

  -- A line that waits went from its origin to where it goes.
  pub sent_line : m.kind ≡ 1 → SentAs rules S m → (m.from ≡ origin m.line) × Goes S m.line m.to
  sent_line one (as_line is from goes) = (from, goes)
  sent_line one (as_reply is to from) = absurd (let never : ⊥ = omega arith in never)
  sent_line one (as_verdict outcome is tells to) = let high = verdicts_from_4 outcome in absurd (let never : ⊥ = omega arith in never)

  -- The origin of a verdict that waits knows it.
  pub sent_verdict : (outcome : Outcome) → m.kind ≡ kind_number (verdict_kind outcome) → SentAs rules S m → told S (origin m.line) m.line.time ≡ Some outcome
  sent_verdict outcome says (as_line is from goes) = let high = verdicts_from_4 outcome in absurd (let never : ⊥ = omega arith in never)
  sent_verdict outcome says (as_reply is to from) = let high = verdicts_from_4 outcome in absurd (let never : ⊥ = omega arith in never)
  sent_verdict outcome says (as_verdict other is tells to) = tells ∙ ap Some (same_verdict other outcome (sym is ∙ says))

  -- So what a time's origin tells of it stays.
  pub told_at_home : (place : ℕ) (e : Effect V) (xs : List (Transaction V)) → SentAs rules S m → Delivering rules S m e xs → (time : ℕ) → told (delivered_state rules S place m e xs) (site_of time) time ≡ told S (site_of time) time
  told_at_home place e xs sent go time = by (verdict_on S.size (recording e m) time) refl
    where
      by : (o : Option Outcome) → verdict_on S.size (recording e m) time ≡ o → told (delivered_state rules S place m e xs) (site_of time) time ≡ told S (site_of time) time
      by None is = told_same S (remove S.waiting place) (stopped S.delivered 1) xs (deliver_moves rules S m e) (site_of time) time is
      by (Some o) is =
          let k = records_verdict e xs go _ (told_by S.size time o (recording e m) is) in
          let known : told S (site_of time) time ≡ Some k.0 = subst (λ t. told S (site_of t) t ≡ Some k.0) (ap (λ v. v.time) k.2) (sent_verdict k.0 k.1 sent) in
          told_still place e xs (site_of time) time k.0 known ∙ sym known
