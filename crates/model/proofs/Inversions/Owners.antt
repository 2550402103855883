-- The receiver's own transaction that a reply is about. Assumes nothing.
use Rattle.std.proofs.Common.{◌≡◌, ℕ, suc, ◌+◌, ◌<◌, ◌≤◌, Bool, true, false, List, [], ◌∷◌, length, Some, sym, refl, ap, ◌∙◌, ⊎_elim, arith}
use Rattle.std.specs.List.{slice_get}
use Rattle.std.proofs.lemmas.Bool.{and_from, and_parts, eq-eqb, eqb-true, le-leb, both_ways, cond-true, cond-false}
use Rattle.terms.specs.declared.mark.Mark.{Mark}
use Rattle.terms.specs.Few.{few_list}
use Rattle.terms.specs.Lists.{In}
use Rattle.records.specs.declared.line.Line.{Line}
use Rattle.records.specs.declared.transaction.Entry.{Entry}
use Rattle.records.specs.declared.transaction.Transaction.{Transaction}
use Rattle.site.specs.Lines.{line_of}
use Rattle.delivering.specs.Marks.{has_line}
use Rattle.delivering.specs.Owns.{is_own, place_from, own_place}
use Rattle.model.specs.Rules.{Rules}
use Rattle.model.proofs.State.{State}
use Rattle.model.proofs.Lots.{Lot, lot, lots_from, lots_of, lots, origin}
use Rattle.model.proofs.Members.{in_nth}
use Rattle.model.proofs.Drafts.{lot_owner, own_lot}
use Rattle.model.proofs.Parts.Shape.{Shape}

-- The first of a list that passes a test, where one does.
record First {X : Type 0} (test : X → Bool) (from : ℕ) (xs : List X) : Type 0 where
  place : ℕ
  one : X
  placed : place_from test from xs ≡ Some (from + place)
  found : slice_get xs place ≡ Some one
  passes : test one ≡ true

first_of : {X : Type 0} (test : X → Bool) (from : ℕ) (x : X) (xs : List X) → In x xs → test x ≡ true → First test from xs
first_of test from x [] i passes = absurd i
first_of {X} test from x (y ∷ xs) i passes = go (λ later. first_of test (from + 1) x xs later passes) (test y) refl
  where
    go : (In x xs → First test (from + 1) xs) → (b : Bool) → test y ≡ b → First test from (y ∷ xs)
    go more true is = record { place = 0; one = y; placed = cond-true (test y) _ _ is ∙ ap Some (omega arith); found = refl; passes = is }
    go more false is =
        let rest = more (⊎_elim (λ (e : y ≡ x). absurd (both_ways (test y) is (ap test e ∙ passes))) (λ later. later) i) in
        let next : from + 1 + rest.place ≡ from + suc rest.place = omega arith in
        record { place = suc rest.place; one = rest.one; placed = cond-false (test y) _ _ is ∙ rest.placed ∙ ap Some next; found = rest.found; passes = rest.passes }

lots_numbered : {V : Type 0} (time from : ℕ) (modes : List ℕ) (es : List (Entry V)) (b : Lot V) → In b (lots_from time from modes es) → (from ≤ b.line.number) × (b.line.number < from + length es)
lots_numbered time from [] es b i = absurd i
lots_numbered time from (mode ∷ modes) [] b i = absurd i
lots_numbered time from (mode ∷ modes) (e ∷ es) b i =
    ⊎_elim
    (λ (is : lot (line_of time from mode e) e.mark ≡ b). let same : from ≡ b.line.number = ap (λ c. c.line.number) is in (omega arith, omega arith))
    (λ later. let rest = lots_numbered time (from + 1) modes es b later in (omega arith, omega arith))
    i

-- A transaction started, at its place, that has a line of this number.
pub record Own {V : Type 0} (rules : Rules V) (S : State V) (l : Line V) : Type 0 where
  pub place : ℕ
  pub x : Transaction V
  pub placed : own_place S.size S.cards rules.modes (origin l) l.time S.transactions ≡ Some place
  pub found : slice_get S.transactions place ≡ Some x
  pub timed : x.time ≡ l.time
  pub has : has_line (Some x) l.number ≡ true

module _ {V : Type 0} (rules : Rules V) (S : State V) (shape : Shape rules S) (l : Line V) (mark : Mark) (noted : In (lot l mark) (lots rules S)) where
  pub own_of_line : Own rules S l
  own_of_line = record { place = first.place; x = first.one; placed = placed; found = first.found; timed = same_as; has = has }
    where
      owner : (x : Transaction V) × In x S.transactions × In (lot l mark) (lots_of rules x) × (l.time ≡ x.time)
      owner = lot_owner rules S.transactions (lot l mark) noted

      test : Transaction V → Bool
      test x = is_own S.size S.cards rules.modes (origin l) l.time x

      first : First test 0 S.transactions
      first = first_of test 0 owner.0 S.transactions owner.1 (and_from _ _ (and_from _ _ (eq-eqb _ _ (sym owner.3)) (eq-eqb (origin l) (origin l) refl)) (shape.present owner.0 owner.1))

      placed : own_place S.size S.cards rules.modes (origin l) l.time S.transactions ≡ Some first.place
      placed = first.placed ∙ ap Some (omega arith)

      same_as : first.one.time ≡ l.time
      same_as = eqb-true _ _ (and_parts _ _ (and_parts _ _ first.passes).0).0

      has : has_line (Some first.one) l.number ≡ true
      has =
          let x : Transaction V = first.one in
          let own = own_lot rules S.transactions shape.times_differ x (in_nth x S.transactions first.place first.found) (lot l mark) noted (sym same_as) in
          let bounds = lots_numbered x.time 1 (rules.modes x.rule) (few_list x.entries) (lot l mark) own in
          and_from _ _ (le-leb 1 l.number (omega arith)) (le-leb l.number (length (few_list x.entries)) (omega arith))
