-- A reply that marks a line: of all lots only that line's mark changes, and no time does. Assumes nothing.
use Rattle.std.proofs.Common.{◌≡◌, ℕ, zero, suc, ◌+◌, cond, ◌&&◌, eqb, List, [], ◌∷◌, ◌++◌, map, set, Some, sym, refl, ap, ◌∙◌, subst, inl, inr, arith}
use Rattle.std.specs.List.{slice_get}
use Rattle.std.proofs.lemmas.List.{map-append}
use Rattle.std.proofs.lemmas.Bool.{and_left, ne_eqb}
use Rattle.std.proofs.lemmas.Bool.Decides.{nat_tests}
use Rattle.terms.specs.declared.kind.Kind.{Kind}
use Rattle.terms.specs.Few.{few_list}
use Rattle.terms.specs.Lists.{In}
use Rattle.records.specs.declared.message.Message.{Message}
use Rattle.records.specs.declared.transaction.Entry.{Entry}
use Rattle.records.specs.declared.transaction.Transaction.{Transaction}
use Rattle.site.specs.Lines.{line_of}
use Rattle.delivering.specs.declared.effect.Effect.{Effect}
use Rattle.delivering.specs.Marks.{marked, marked_from, transaction_marked}
use Rattle.delivering.proofs.Marking.{marked_each}
use Rattle.model.specs.Rules.{Rules}
use Rattle.model.proofs.State.{State}
use Rattle.model.proofs.Lots.{Lot, lot, lots_from, lots_of, all_lots, remark}
use Rattle.model.proofs.Moves.{Delivering, line_dropped, line_landed, line_confirmed, line_denied, line_marked, verdict_known, verdict_recorded}
use Rattle.model.proofs.Cases.{none_some}
use Rattle.model.proofs.Members.{in_nth, in_map}
use Rattle.model.proofs.Drafts.{lots_timed, lot_owner}
use Rattle.model.proofs.Parts.Shape.{Distinct}

module _ {V : Type 0} (k : Kind) (time number : ℕ) where
  remark_others : (bs : List (Lot V)) → ((b : Lot V) → In b bs → b.line.time ≡ time → ⊥) → map (remark k time number) bs ≡ bs
  remark_others [] ne = refl
  remark_others (b ∷ bs) ne = ap (λ c. c ∷ map (remark k time number) bs) (ap (λ t. lot b.line (cond t (marked b.mark k) b.mark)) (and_left _ _ (ne_eqb b.line.time time (ne b (inl refl))))) ∙ ap (λ cs. b ∷ cs) (remark_others bs (λ c i. ne c (inr i)))

  lots_remarked : (from : ℕ) (modes : List ℕ) (es : List (Entry V)) → lots_from time from modes (marked_from k number from es) ≡ map (remark k time number) (lots_from time from modes es)
  lots_remarked from [] es = refl
  lots_remarked from (mode ∷ modes) [] = refl
  lots_remarked from (mode ∷ modes) (e ∷ es) =
      let same : eqb number from ≡ (eqb time time && eqb from number) = grind (arith, nat_tests) in
      ap (λ t. lot (line_of time from mode e) (cond t (marked e.mark k) e.mark) ∷ lots_from time (from + 1) modes (marked_from k number (from + 1) es)) same
      ∙ ap (λ bs. remark k time number (lot (line_of time from mode e) e.mark) ∷ bs) (lots_remarked (from + 1) modes es)

module _ {V : Type 0} (rules : Rules V) where
  -- The lots after a transaction was marked, where times differ.
  pub lots_marked : (k : Kind) (number place : ℕ) (xs : List (Transaction V)) (x : Transaction V) → slice_get xs place ≡ Some x → Distinct (map (λ y. y.time) xs) → all_lots rules (set xs place (transaction_marked k number x)) ≡ map (remark k x.time number) (all_lots rules xs)
  lots_marked k number place [] x found apart = absurd (none_some x found)
  lots_marked k number zero (y ∷ ys) x found apart =
      let same : y ≡ x = cc in
      let time_is : y.time ≡ x.time = ap (λ z. z.time) same in
      ap (λ bs. bs ++ all_lots rules ys) (marks_own x ∙ ap (λ z. map (remark k x.time number) (lots_of rules z)) (sym same))
      ∙ ap (λ bs. map (remark k x.time number) (lots_of rules y) ++ bs) (sym (remark_others k x.time number (all_lots rules ys) (not_later time_is)))
      ∙ sym (map-append (remark k x.time number) (lots_of rules y) (all_lots rules ys))
    where
      marks_own : (z : Transaction V) → lots_of rules (transaction_marked k number z) ≡ map (remark k z.time number) (lots_of rules z)
      marks_own z = ap (lots_from z.time 1 (rules.modes z.rule)) (marked_each k number z.entries) ∙ lots_remarked k z.time number 1 (rules.modes z.rule) (few_list z.entries)

      not_later : y.time ≡ x.time → (b : Lot V) → In b (all_lots rules ys) → b.line.time ≡ x.time → ⊥
      not_later is b i e = let o = lot_owner rules ys b i in apart.0 (subst (λ t. In t (map (λ z. z.time) ys)) (sym o.3 ∙ e ∙ sym is) (in_map (λ z. z.time) o.0 ys o.1))
  lots_marked k number (suc place) (y ∷ ys) x found apart =
      let ne : y.time ≡ x.time → ⊥ = λ e. apart.0 (subst (λ t. In t (map (λ z. z.time) ys)) (sym e) (in_map (λ z. z.time) x ys (in_nth x ys place found))) in
      ap (λ bs. lots_of rules y ++ bs) (lots_marked k number place ys x found apart.1)
      ∙ ap (λ bs. bs ++ map (remark k x.time number) (all_lots rules ys)) (sym (remark_others k x.time number (lots_of rules y) (λ b i e. ne (sym (lots_timed y.time 1 (rules.modes y.rule) (few_list y.entries) b i) ∙ e))))
      ∙ sym (map-append (remark k x.time number) (lots_of rules y) (all_lots rules ys))

  times_marked : (k : Kind) (number place : ℕ) (xs : List (Transaction V)) (x : Transaction V) → slice_get xs place ≡ Some x → map (λ y. y.time) (set xs place (transaction_marked k number x)) ≡ map (λ y. y.time) xs
  times_marked k number place [] x found = refl
  times_marked k number zero (y ∷ ys) x found = let same : x.time ≡ y.time = cc in ap (λ t. t ∷ map (λ z. z.time) ys) same
  times_marked k number (suc place) (y ∷ ys) x found = ap (λ ts. y.time ∷ ts) (times_marked k number place ys x found)

  -- A delivery leaves the transactions as they were, or marks one of them.
  pub marks_one : (S : State V) (m : Message V) (e : Effect V) (xs : List (Transaction V)) → Delivering rules S m e xs → (P : List (Transaction V) → Type 0) → P S.transactions → ((k : Kind) (place : ℕ) (x : Transaction V) → slice_get S.transactions place ≡ Some x → P (set S.transactions place (transaction_marked k m.line.number x))) → P xs
  marks_one S m e xs (line_dropped _ _) P same marks = same
  marks_one S m e xs (line_landed _ _ _) P same marks = same
  marks_one S m e xs (line_confirmed _ _ _ _) P same marks = same
  marks_one S m e xs (line_denied _ _ _ _) P same marks = same
  marks_one S m e xs (line_marked k _ _ place x found _) P same marks = marks k place x found
  marks_one S m e xs (verdict_known _ _ _ _) P same marks = same
  marks_one S m e xs (verdict_recorded _ _ _) P same marks = same

  -- So it leaves their times.
  pub times_after : (S : State V) (m : Message V) (e : Effect V) (xs : List (Transaction V)) → Delivering rules S m e xs → map (λ y. y.time) xs ≡ map (λ y. y.time) S.transactions
  times_after S m e xs go = marks_one S m e xs go (λ ys. map (λ y. y.time) ys ≡ map (λ y. y.time) S.transactions) refl (λ k place x found. times_marked k m.line.number place S.transactions x found)
