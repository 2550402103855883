-- Putting things in the order of their times. Assumes nothing.
use Rattle.std.proofs.Common.{◌≡◌, ℕ, ◌<◌, Bool, true, false, cond, leb, List, [], ◌∷◌, map, sym, refl, subst, inl, inr, ⊎_elim, arith}
use Rattle.std.proofs.lemmas.Bool.{leb-true, leb-false}
use Rattle.terms.specs.Lists.{In}
use Rattle.model.specs.Single.{put_in_order, by_time}
use Rattle.model.proofs.Members.{in_map}
use Rattle.model.proofs.Parts.Shape.{Distinct}

-- Each has a lower time than all that follow.
abbrev pub Ordered : {X : Type 0} → (X → ℕ) → List X → Type 0
Ordered time [] = Unit {0}
Ordered {X} time (x ∷ xs) = ((y : X) → In y xs → time x < time y) × Ordered time xs

module _ {X : Type 0} (time : X → ℕ) where
  in_cond : (b : Bool) (y x z : X) (ys more : List X) → (In y more → In y (x ∷ z ∷ ys)) → In y (cond b (x ∷ z ∷ ys) (z ∷ more)) → In y (x ∷ z ∷ ys)
  in_cond true y x z ys more back i = i
  in_cond false y x z ys more back i = ⊎_elim (λ e. inr (inl e)) back i

  put_in : (x y : X) (ys : List X) → In y (put_in_order time x ys) → In y (x ∷ ys)
  put_in x y [] i = i
  put_in x y (z ∷ ys) i =
      in_cond (leb (time x) (time z)) y x z ys (put_in_order time x ys)
      (λ j. ⊎_elim (λ e. inl e) (λ k. inr (inr k)) (put_in x y ys j)) i

  cond_in : (b : Bool) (y x z : X) (ys more : List X) → (In y (x ∷ ys) → In y more) → In y (x ∷ z ∷ ys) → In y (cond b (x ∷ z ∷ ys) (z ∷ more))
  cond_in true y x z ys more on i = i
  cond_in false y x z ys more on i = ⊎_elim (λ e. inr (on (inl e))) (λ j. ⊎_elim (λ e. inl e) (λ k. inr (on (inr k))) j) i

  in_put : (x y : X) (ys : List X) → In y (x ∷ ys) → In y (put_in_order time x ys)
  in_put x y [] i = i
  in_put x y (z ∷ ys) i = cond_in (leb (time x) (time z)) y x z ys (put_in_order time x ys) (in_put x y ys) i

  -- Ordering forgets and adds none.
  pub by_time_in : (y : X) (xs : List X) → In y (by_time time xs) → In y xs
  by_time_in y [] i = i
  by_time_in y (x ∷ xs) i = ⊎_elim (λ e. inl e) (λ j. inr (by_time_in y xs j)) (put_in x y (by_time time xs) i)

  pub in_by_time : (y : X) (xs : List X) → In y xs → In y (by_time time xs)
  in_by_time y [] i = i
  in_by_time y (x ∷ xs) i = in_put x y (by_time time xs) (⊎_elim (λ e. inl e) (λ j. inr (in_by_time y xs j)) i)

  put_ordered : (x : X) (ys : List X) → ((y : X) → In y ys → time x ≡ time y → ⊥) → Ordered time ys → Ordered time (put_in_order time x ys)
  put_ordered x [] apart o = ((λ y i. absurd i), tt)
  put_ordered x (z ∷ ys) apart o = go (put_ordered x ys (λ y i. apart y (inr i)) o.1) (leb (time x) (time z)) refl
    where
      go : Ordered time (put_in_order time x ys) → (b : Bool) → leb (time x) (time z) ≡ b → Ordered time (cond b (x ∷ z ∷ ys) (z ∷ put_in_order time x ys))
      go more true e =
          let le = leb-true (time x) (time z) e in
          let ne = apart z (inl refl) in
          let lt : time x < time z = omega arith in
          ((λ y i. ⊎_elim (λ (q : z ≡ y). subst (λ w. time x < time w) q lt) (λ j. let l = o.0 y j in omega arith) i), o)
      go more false e =
          let lt = leb-false (time x) (time z) e in
          ((λ y i. ⊎_elim (λ (q : x ≡ y). subst (λ w. time z < time w) q lt) (λ j. o.0 y j) (put_in x y ys i)), more)

  pub by_time_ordered : (xs : List X) → Distinct (map time xs) → Ordered time (by_time time xs)
  by_time_ordered [] apart = tt
  by_time_ordered (x ∷ xs) apart =
      put_ordered x (by_time time xs)
      (λ y i e. apart.0 (subst (λ t. In t (map time xs)) (sym e) (in_map time y xs (by_time_in y xs i))))
      (by_time_ordered xs apart.1)
