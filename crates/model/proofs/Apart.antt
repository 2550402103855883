-- Lists whose members differ in a number, such as a time. Assumes nothing.
use Rattle.std.proofs.Common.{◌≡◌, ℕ, zero, suc, Bool, true, false, cond, List, [], ◌∷◌, ◌++◌, map, Some, filter, sym, refl, ap, subst, inl, inr, ⊎_elim}
use Rattle.std.specs.List.{slice_get}
use Rattle.terms.specs.Lists.{In}
use Rattle.model.proofs.Members.{in_nth, nth_in, in_push, in_map, map_in, kept_in}
use Rattle.model.proofs.Parts.Shape.{Distinct}

pub distinct_push : (ns : List ℕ) (n : ℕ) → Distinct ns → (In n ns → ⊥) → Distinct (ns ++ n ∷ [])
distinct_push [] n apart new = ((λ i. i), tt)
distinct_push (m ∷ ns) n apart new =
    ((λ i. ⊎_elim (λ (old : In m ns). apart.0 old) (λ (e : n ≡ m). new (inl (sym e))) (in_push m n ns i)), distinct_push ns n apart.1 (λ i. new (inr i)))

module _ {X : Type 0} (time : X → ℕ) where
  -- Equal times are at one place.
  pub one_place : (xs : List X) → Distinct (map time xs) → (i j : ℕ) (x y : X) → slice_get xs i ≡ Some x → slice_get xs j ≡ Some y → time x ≡ time y → i ≡ j
  one_place [] apart i j x y p q e = absurd (in_nth x [] i p)
  one_place (z ∷ xs) apart zero zero x y p q e = refl
  one_place (z ∷ xs) apart zero (suc j) x y p q e = absurd (apart.0 (subst (λ t. In t (map time xs)) (let same : time y ≡ time z = cc in same) (in_map time y xs (in_nth y xs j q))))
  one_place (z ∷ xs) apart (suc i) zero x y p q e = absurd (apart.0 (subst (λ t. In t (map time xs)) (let same : time x ≡ time z = cc in same) (in_map time x xs (in_nth x xs i p))))
  one_place (z ∷ xs) apart (suc i) (suc j) x y p q e = ap suc (one_place xs apart.1 i j x y p q e)

  pub one_of_time : (xs : List X) → Distinct (map time xs) → (x y : X) → In x xs → In y xs → time x ≡ time y → x ≡ y
  one_of_time xs apart x y i j e =
      let p = nth_in x xs i in
      let q = nth_in y xs j in
      let there : slice_get xs q.0 ≡ Some x = subst (λ k. slice_get xs k ≡ Some x) (one_place xs apart p.0 q.0 x y p.1 q.1 e) p.1 in
      cc (there, q.1)

  pub kept_distinct : (test : X → Bool) (xs : List X) → Distinct (map time xs) → Distinct (map time (filter test xs))
  kept_distinct test [] apart = tt
  kept_distinct test (x ∷ xs) apart = go (kept_distinct test xs apart.1) (test x)
    where
      out : In (time x) (map time (filter test xs)) → ⊥
      out i =
          let r = map_in time (time x) (filter test xs) i in
          apart.0 (subst (λ t. In t (map time xs)) r.2 (in_map time r.0 xs (kept_in test r.0 xs r.1).0))

      go : Distinct (map time (filter test xs)) → (b : Bool) → Distinct (map time (cond b (x ∷ filter test xs) (filter test xs)))
      go more true = (out, more)
      go more false = more
