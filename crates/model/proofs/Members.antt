-- What stands in a list. Assumes nothing.
use Rattle.std.proofs.Common.{◌≡◌, ℕ, zero, suc, ◌+◌, ◌<◌, ◌≤◌, Bool, true, false, cond, ◌⊎◌, List, [], ◌∷◌, ◌++◌, map, set, Some, filter, sym, refl, ap, ◌∙◌, subst, inl, inr, ⊎_elim, arith}
use Rattle.std.specs.List.{slice_get, remove, range_with_len, flat_map}
use Rattle.std.proofs.lemmas.Bool.{cond-true, cases_eq}
use Rattle.terms.specs.Lists.{In}
pub use Rattle.terms.proofs.Lists.{in_left, in_right}
use Rattle.model.proofs.Cases.{none_some}

module _ {X : Type 0} where
  pub in_split : (x : X) (xs ys : List X) → In x (xs ++ ys) → In x xs ⊎ In x ys
  in_split x [] ys h = inr h
  in_split x (y ∷ xs) ys h = ⊎_elim (λ e. inl (inl e)) (λ i. ⊎_elim (λ l. inl (inr l)) (λ r. inr r) (in_split x xs ys i)) h

  pub in_last : (x : X) (xs : List X) → In x (xs ++ x ∷ [])
  in_last x xs = in_right x xs (x ∷ []) (inl refl)

  pub in_one : (x y : X) → In x (y ∷ []) → y ≡ x
  in_one x y h = ⊎_elim (λ e. e) (λ n. absurd n) h

  pub in_push : (x y : X) (xs : List X) → In x (xs ++ y ∷ []) → In x xs ⊎ (y ≡ x)
  in_push x y xs h = ⊎_elim (λ l. inl l) (λ r. inr (in_one x y r)) (in_split x xs (y ∷ []) h)

  pub in_nth : (x : X) (xs : List X) (i : ℕ) → slice_get xs i ≡ Some x → In x xs
  in_nth x [] i e = absurd (none_some x e)
  in_nth x (y ∷ xs) zero e = inl (cc)
  in_nth x (y ∷ xs) (suc i) e = inr (in_nth x xs i e)

  pub nth_in : (x : X) (xs : List X) → In x xs → (i : ℕ) × (slice_get xs i ≡ Some x)
  nth_in x [] h = absurd h
  nth_in x (y ∷ xs) h = ⊎_elim (λ e. (zero, ap Some e)) (λ i. let r = nth_in x xs i in (suc r.0, r.1)) h

  -- What was taken out, or is still there.
  pub in_taken : (x y : X) (xs : List X) (i : ℕ) → slice_get xs i ≡ Some y → In x xs → (y ≡ x) ⊎ In x (remove xs i)
  in_taken x y [] i e h = absurd h
  in_taken x y (z ∷ xs) zero e h = ⊎_elim (λ q. let p : y ≡ x = cc in inl p) (λ r. inr r) h
  in_taken x y (z ∷ xs) (suc i) e h = ⊎_elim (λ q. inr (inl q)) (λ r. ⊎_elim (λ p. inl p) (λ s. inr (inr s)) (in_taken x y xs i e r)) h

  pub in_rest : (x : X) (xs : List X) (i : ℕ) → In x (remove xs i) → In x xs
  in_rest x [] zero h = absurd h
  in_rest x [] (suc i) h = absurd h
  in_rest x (z ∷ xs) zero h = inr h
  in_rest x (z ∷ xs) (suc i) h = ⊎_elim (λ q. inl q) (λ r. inr (in_rest x xs i r)) h

  pub in_set : (x y : X) (xs : List X) (i : ℕ) → In x (set xs i y) → (y ≡ x) ⊎ In x xs
  in_set x y [] i h = absurd h
  in_set x y (z ∷ xs) zero h = ⊎_elim (λ q. inl q) (λ r. inr (inr r)) h
  in_set x y (z ∷ xs) (suc i) h = ⊎_elim (λ q. inr (inl q)) (λ r. ⊎_elim (λ p. inl p) (λ s. inr (inr s)) (in_set x y xs i r)) h

  pub in_kept : (test : X → Bool) (x : X) (xs : List X) → In x xs → test x ≡ true → In x (filter test xs)
  in_kept test x [] h p = absurd h
  in_kept test x (y ∷ xs) h p =
      ⊎_elim
      (λ (e : y ≡ x). let q : test y ≡ true = ap test e ∙ p in subst (In x) (sym (cond-true (test y) _ _ q)) (inl e))
      (λ r. keep_going (test y) (in_kept test x xs r p))
      h
    where
      keep_going : (b : Bool) → In x (filter test xs) → In x (cond b (y ∷ filter test xs) (filter test xs))
      keep_going true i = inr i
      keep_going false i = i

  pub kept_in : (test : X → Bool) (x : X) (xs : List X) → In x (filter test xs) → In x xs × (test x ≡ true)
  kept_in test x [] h = absurd h
  kept_in test x (y ∷ xs) h = go (kept_in test x xs) (test y) refl h
    where
      go : (In x (filter test xs) → In x xs × (test x ≡ true)) → (b : Bool) → test y ≡ b → In x (cond b (y ∷ filter test xs) (filter test xs)) → In x (y ∷ xs) × (test x ≡ true)
      go more true e i = ⊎_elim (λ (q : y ≡ x). (inl q, ap test (sym q) ∙ e)) (λ r. let k = more r in (inr k.0, k.1)) i
      go more false e i = let k = more i in (inr k.0, k.1)

  pub in_none : (x : X) (xs : List X) → xs ≡ [] → In x xs → ⊥
  in_none x xs e h = absurd (subst (In x) e h)

module _ {X Y : Type 0} where
  pub in_map : (f : X → Y) (x : X) (xs : List X) → In x xs → In (f x) (map f xs)
  in_map f x [] h = absurd h
  in_map f x (y ∷ xs) h = ⊎_elim (λ e. inl (ap f e)) (λ i. inr (in_map f x xs i)) h

  pub map_in : (f : X → Y) (y : Y) (xs : List X) → In y (map f xs) → (x : X) × In x xs × (f x ≡ y)
  map_in f y [] h = absurd h
  map_in f y (x ∷ xs) h = ⊎_elim (λ e. (x, inl refl, e)) (λ i. let r = map_in f y xs i in (r.0, inr r.1, r.2)) h

  pub in_joined : (f : X → List Y) (x : X) (y : Y) (xs : List X) → In x xs → In y (f x) → In y (flat_map f xs)
  in_joined f x y [] h i = absurd h
  in_joined f x y (z ∷ xs) h i =
      ⊎_elim (λ (e : z ≡ x). in_left y (f z) _ (subst (λ w. In y (f w)) (sym e) i)) (λ r. in_right y (f z) _ (in_joined f x y xs r i)) h

  pub joined_in : (f : X → List Y) (y : Y) (xs : List X) → In y (flat_map f xs) → (x : X) × In x xs × In y (f x)
  joined_in f y [] h = absurd h
  joined_in f y (x ∷ xs) h =
      ⊎_elim (λ i. (x, inl refl, i)) (λ i. let r = joined_in f y xs i in (r.0, inr r.1, r.2)) (in_split y (f x) _ h)

-- The numbers from a on.
pub in_counting : (a n k : ℕ) → a ≤ k → k < a + n → In k (range_with_len a n)
in_counting a zero k low high = absurd (let never : ⊥ = omega arith in never)
in_counting a (suc n) k low high = ⊎_elim (λ (e : a ≡ k). inl e) (λ (ne : a ≡ k → ⊥). inr (in_counting (a + 1) n k (above ne) (omega arith))) (cases_eq a k)
  where
    above : (a ≡ k → ⊥) → a + 1 ≤ k
    above ne = omega arith
