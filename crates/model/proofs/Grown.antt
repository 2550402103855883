-- What a change at one site leaves: lines and verdicts only grow. Assumes nothing.
use Rattle.std.proofs.Common.{◌≡◌, ℕ, Bool, true, false, cond, ◌&&◌, eqb, ◌⊎◌, List, [], ◌∷◌, ◌++◌, Some, None, Option, sym, refl, ap, ◌∙◌, subst, inl, inr, ⊎_elim}
use Rattle.std.proofs.lemmas.Bool.{cases_eq, eq-eqb, ne_eqb, eqb-true, cond-true, cond-false, and_parts, and_from, and_right}
use Rattle.terms.specs.declared.outcome.Outcome.{Outcome}
use Rattle.terms.specs.Lists.{In}
use Rattle.records.specs.declared.line.Line.{Line}
use Rattle.records.specs.declared.message.Message.{Message}
use Rattle.records.specs.declared.size.Size.{Size}
use Rattle.records.specs.declared.transaction.Transaction.{Transaction}
use Rattle.records.specs.declared.verdict.Verdict.{Verdict}
use Rattle.records.specs.Present.{verdict_present, time_in_range}
use Rattle.knowledge.specs.Knowledge.{verdict_on}
use Rattle.model.specs.World.{Change}
use Rattle.model.proofs.State.{State, told, moved}
use Rattle.model.proofs.Cases.{none_some}
use Rattle.model.proofs.Members.{in_left, in_right, in_split}

-- Verdicts behind others: what was told stays, and what is new was not told before.
module _ (size : Size) (time : ℕ) where
  told_first : (b : Bool) (o : Outcome) (p q : Option Outcome) → (p ≡ Some o → q ≡ Some o) → (r : Outcome) → cond b (Some r) p ≡ Some o → cond b (Some r) q ≡ Some o
  told_first true o p q more r e = e
  told_first false o p q more r e = more e

  verdict_stays : (o : Outcome) (vs more : List Verdict) → verdict_on size vs time ≡ Some o → verdict_on size (vs ++ more) time ≡ Some o
  verdict_stays o [] more e = absurd (none_some o e)
  verdict_stays o (v ∷ vs) more e = told_first (verdict_present size v && eqb v.time time) o _ _ (verdict_stays o vs more) v.outcome e

  later_told : (b : Bool) (r : Outcome) (p q w : Option Outcome) → (p ≡ None → q ≡ w) → cond b (Some r) p ≡ None → cond b (Some r) q ≡ w
  later_told true r p q w more e = absurd (none_some r (sym e))
  later_told false r p q w more e = more e

  -- Where nothing was told, the further ones tell.
  verdict_later : (vs more : List Verdict) → verdict_on size vs time ≡ None → verdict_on size (vs ++ more) time ≡ verdict_on size more time
  verdict_later [] more e = refl
  verdict_later (v ∷ vs) more e = later_told (verdict_present size v && eqb v.time time) v.outcome _ _ _ (verdict_later vs more) e

  -- A verdict in range tells of its own time, and of no other.
  pub verdict_own : (outcome : Outcome) → time_in_range size time ≡ true → verdict_on size (record { time = time; outcome = outcome } ∷ []) time ≡ Some outcome
  verdict_own outcome ranged = cond-true _ _ _ (and_from _ _ ranged (eq-eqb time time refl))

  pub verdict_other : (v : Verdict) → (v.time ≡ time → ⊥) → verdict_on size (v ∷ []) time ≡ None
  verdict_other v other = cond-false _ _ _ (and_right _ _ (ne_eqb v.time time other))

  -- What verdicts tell is one of them.
  pub told_by : (outcome : Outcome) (vs : List Verdict) → verdict_on size vs time ≡ Some outcome → In (record { time = time; outcome = outcome }) vs
  told_by outcome [] e = absurd (none_some outcome e)
  told_by outcome (v ∷ vs) e = first (verdict_present size v && eqb v.time time) refl (told_by outcome vs) e
    where
      first :
          (b : Bool) → (verdict_present size v && eqb v.time time) ≡ b → (verdict_on size vs time ≡ Some outcome → In (record { time = time; outcome = outcome }) vs) →
          cond b (Some v.outcome) (verdict_on size vs time) ≡ Some outcome → In {X = Verdict} (record { time = time; outcome = outcome }) (v ∷ vs)
      first true is more t =
          let at : v.time ≡ time = eqb-true v.time time (and_parts (verdict_present size v) (eqb v.time time) is).1 in
          let says : v.outcome ≡ outcome = cc in
          inl (λ i. record { time = at i; outcome = says i })
      first false is more t = inr (more t)

module _ {V : Type 0} (S : State V) (waiting : List (Message V)) (delivered : ℕ) (xs : List (Transaction V)) (c : Change V) where
  abbrev after : State V
  after = moved S waiting delivered xs c

  -- The change is at its own site and nowhere else.
  at_site : {X : Type 0} (a b : X) (s : ℕ) → s ≡ c.site → cond (eqb s c.site) a b ≡ a
  at_site a b s e = cond-true _ a b (eq-eqb s c.site e)

  off_site : {X : Type 0} (a b : X) (s : ℕ) → (s ≡ c.site → ⊥) → cond (eqb s c.site) a b ≡ b
  off_site a b s ne = cond-false _ a b (ne_eqb s c.site ne)

  pub counter_there : after.counter c.site ≡ c.counter
  counter_there = at_site _ _ c.site refl

  pub counter_elsewhere : (s : ℕ) → (s ≡ c.site → ⊥) → after.counter s ≡ S.counter s
  counter_elsewhere s ne = off_site _ _ s ne

  in_grown : (b : Bool) (l : Line V) (ls more : List (Line V)) → In l ls → In l (cond b (ls ++ more) ls)
  in_grown true l ls more i = in_left l ls more i
  in_grown false l ls more i = i

  -- What has landed stays.
  pub landed_stays : (s : ℕ) (l : Line V) → In l (S.lines s) → In l (after.lines s)
  landed_stays s l i = in_grown (eqb s c.site) l (S.lines s) c.lines i

  -- What lands is there.
  pub lands_there : (l : Line V) → In l c.lines → In l (after.lines c.site)
  lands_there l i = subst (In l) (sym (at_site _ _ c.site refl)) (in_right l (S.lines c.site) c.lines i)

  -- What has landed was there before, or has landed now.
  pub landed_before : (s : ℕ) (l : Line V) → In l (after.lines s) → In l (S.lines s) ⊎ ((s ≡ c.site) × In l c.lines)
  landed_before s l i =
      ⊎_elim
      (λ (e : s ≡ c.site). ⊎_elim (λ old. inl old) (λ new. inr (e, new)) (in_split l (S.lines s) c.lines (subst (In l) (at_site _ _ s e) i)))
      (λ (ne : s ≡ c.site → ⊥). inl (subst (In l) (off_site _ _ s ne) i))
      (cases_eq s c.site)

  stays_told : (b : Bool) (time : ℕ) (o : Outcome) (vs more : List Verdict) → verdict_on S.size vs time ≡ Some o → verdict_on S.size (cond b (vs ++ more) vs) time ≡ Some o
  stays_told true time o vs more e = verdict_stays S.size time o vs more e
  stays_told false time o vs more e = e

  -- What was told stays told.
  pub told_stays : (s time : ℕ) (o : Outcome) → told S s time ≡ Some o → told after s time ≡ Some o
  told_stays s time o e = stays_told (eqb s c.site) time o (S.verdicts s) c.verdicts e

  -- Elsewhere nothing more is told.
  pub told_elsewhere : (s time : ℕ) → (s ≡ c.site → ⊥) → told after s time ≡ told S s time
  told_elsewhere s time ne = ap (λ vs. verdict_on S.size vs time) (off_site _ _ s ne)

  -- Where nothing was told, the change's verdicts tell.
  pub told_there : (time : ℕ) → told S c.site time ≡ None → told after c.site time ≡ verdict_on S.size c.verdicts time
  told_there time e = ap (λ vs. verdict_on S.size vs time) (at_site _ _ c.site refl) ∙ verdict_later S.size time (S.verdicts c.site) c.verdicts e

  -- A change that records no verdict on a time leaves what is told of it.
  pub told_same : (s time : ℕ) → verdict_on S.size c.verdicts time ≡ None → told after s time ≡ told S s time
  told_same s time quiet =
      ⊎_elim
      (λ (e : s ≡ c.site). same_there e (told S s time) refl)
      (λ (ne : s ≡ c.site → ⊥). told_elsewhere s time ne)
      (cases_eq s c.site)
    where
      same_there : s ≡ c.site → (o : Option Outcome) → told S s time ≡ o → told after s time ≡ told S s time
      same_there e None is = subst (λ k. told S k time ≡ None → told after k time ≡ told S k time) (sym e) (λ n. told_there time n ∙ quiet ∙ sym n) is
      same_there e (Some o) is = told_stays s time o is ∙ sym is
