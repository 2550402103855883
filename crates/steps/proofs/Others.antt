-- The records of transactions that a delivery does not mark. Assumes nothing.
use Rattle.std.proofs.Common.{◌≡◌, ℕ, zero, suc, ◌+◌, ◌<◌, ◌≤◌, Bool, true, false, List, [], ◌∷◌, length, take, set, Some, None, Option, sym, refl, ap, ◌∙◌, ⊎_elim, arith}
use Rattle.std.specs.List.{slice_get}
use Rattle.std.proofs.lemmas.List.{length-take}
use Rattle.std.proofs.lemmas.Bool.{cond-true, cond-false, cases_Bool}
use Rattle.std.proofs.lemmas.Bool.Decides.{nat_tests}
use Rattle.terms.specs.Times.{site_of as origin_of}
use Rattle.records.specs.declared.message.Message.{Message}
use Rattle.records.specs.declared.transaction.Transaction.{Transaction}
use Rattle.delivering.specs.declared.effect.Effect.{Effect}
use Rattle.delivering.specs.declared.effect.Effect.TheVariants.{Nothing, Lands, Confirms, Denies, Marks, Records}
use Rattle.delivering.specs.Owns.{is_own, place_from, remarked}
use Rattle.steps.specs.Deliver.{place_of_own, OthersStay}
use Rattle.steps.specs.Handed.{Handed}

module _ {X : Type 0} where
  nth_set_other : (xs : List X) (k i : ℕ) (y : X) → (i ≡ k → ⊥) → slice_get (set xs k y) i ≡ slice_get xs i
  nth_set_other [] k i y ne = refl
  nth_set_other (x ∷ xs) zero zero y ne = elim (ne refl) [ ]
  nth_set_other (x ∷ xs) zero (suc i) y ne = refl
  nth_set_other (x ∷ xs) (suc k) zero y ne = refl
  nth_set_other (x ∷ xs) (suc k) (suc i) y ne = nth_set_other xs k i y (λ e. ne (ap suc e))

  nth_take : (n : ℕ) (xs : List X) (i : ℕ) → i < n → slice_get (take n xs) i ≡ slice_get xs i
  nth_take zero xs i h = absurd (omega arith)
  nth_take (suc n) [] i h = refl
  nth_take (suc n) (x ∷ xs) zero h = refl
  nth_take (suc n) (x ∷ xs) (suc i) h = nth_take n xs i (omega arith)

  module _ (test : X → Bool) where
    -- The place found is one of the list's, and what stands there passes the test.
    at_least : (xs : List X) (from k : ℕ) → place_from test from xs ≡ Some k → from ≤ k
    at_least [] from k p = grind arith
    at_least (x ∷ xs) from k p =
        ⊎_elim
        (λ (t : test x ≡ true). let s : Some from ≡ Some k = sym (cond-true (test x) _ _ t) ∙ p in let e : from ≡ k = cc in omega arith)
        (λ (f : test x ≡ false). let h = at_least xs (from + 1) k (sym (cond-false (test x) _ _ f) ∙ p) in omega arith)
        (cases_Bool (test x))

    at_most : (xs : List X) (from k : ℕ) → place_from test from xs ≡ Some k → k < from + length xs
    at_most [] from k p = grind arith
    at_most (x ∷ xs) from k p =
        ⊎_elim
        (λ (t : test x ≡ true). let s : Some from ≡ Some k = sym (cond-true (test x) _ _ t) ∙ p in let e : from ≡ k = cc in omega arith)
        (λ (f : test x ≡ false). let h = at_most xs (from + 1) k (sym (cond-false (test x) _ _ f) ∙ p) in omega arith)
        (cases_Bool (test x))

    found : (xs : List X) (from k i : ℕ) (x : X) → place_from test from xs ≡ Some k → from + i ≡ k → slice_get xs i ≡ Some x → test x ≡ true
    found [] from k i x p at n = grind arith
    found (y ∷ ys) from k zero x p at n =
        let same : y ≡ x = cc in
        ⊎_elim
        (λ (t : test y ≡ true). sym (ap test same) ∙ t)
        (λ (f : test y ≡ false). let h = at_least ys (from + 1) k (sym (cond-false (test y) _ _ f) ∙ p) in absurd (omega arith))
        (cases_Bool (test y))
    found (y ∷ ys) from k (suc i) x p at n =
        ⊎_elim
        (λ (t : test y ≡ true). let s : Some from ≡ Some k = sym (cond-true (test y) _ _ t) ∙ p in let e : from ≡ k = cc in absurd (omega arith))
        (λ (f : test y ≡ false). found ys (from + 1) k i x (sym (cond-false (test y) _ _ f) ∙ p) (omega arith) n)
        (cases_Bool (test y))

module _ {V : Type 0} (modes : ℕ → List ℕ) (m : Message V) (h : Handed V) (xs : List (Transaction V)) where
  abbrev passes : Transaction V → Bool
  passes = is_own h.size h.cards modes m.to m.line.time

  own_origin : (x : Transaction V) → passes x ≡ true → origin_of x.time ≡ m.to
  own_origin x p = grind (arith, nat_tests)

  kept : (k : ℕ) (y : Transaction V) → Some k ≡ place_of_own modes m h xs → OthersStay m.to xs (set xs k y)
  kept k y is i x n other =
      let started = take h.counts.started xs in
      let within = at_most passes started 0 k (sym is) in
      let short = length-take h.counts.started xs in
      nth_set_other xs k i y (λ (e : i ≡ k). other (own_origin x (found passes started 0 k i x (sym is) (let at : 0 + i ≡ k = omega arith in at) (nth_take h.counts.started xs i (omega arith) ∙ n))))
      ∙ n

  pub others : (e : Effect V) (place : Option ℕ) → place ≡ place_of_own modes m h xs → OthersStay m.to xs (remarked e place xs)
  others Nothing place is = λ i x n other. n
  others Lands place is = λ i x n other. n
  others Confirms place is = λ i x n other. n
  others Denies place is = λ i x n other. n
  others (Records outcome) place is = λ i x n other. n
  others (Marks y) None is = λ i x n other. n
  others (Marks y) (Some k) is = kept k y is
