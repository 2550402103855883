-- How many of a list pass a test. Assumes nothing.
use Rattle.std.proofs.Common.{◌≡◌, ℕ, zero, suc, ◌+◌, ◌*◌, ◌<◌, ◌≤◌, Bool, true, false, cond, eqb, List, [], ◌∷◌, ◌++◌, map, length, Some, filter, sym, refl, ap, ◌∙◌, subst, ⊎_elim, mul-suc, arith}
use Rattle.std.specs.List.{slice_get, remove, range_with_len, flat_map}
use Rattle.std.proofs.lemmas.Bool.{true≢false, cases_Bool, cases_eq, eq-eqb, ne_eqb}
use Rattle.terms.specs.Lists.{In}
use Rattle.site.specs.Lines.{picked}
use Rattle.model.proofs.Cases.{none_some}
use Rattle.model.proofs.Members.{nth_in}
use Rattle.model.proofs.Parts.Numbers.{how_many}

module _ {X : Type 0} (test : X → Bool) where
  pub how_many_append : (xs ys : List X) → how_many test (xs ++ ys) ≡ how_many test xs + how_many test ys
  how_many_append [] ys = omega arith
  how_many_append (x ∷ xs) ys = let more = how_many_append xs ys in omega arith

  -- One that is taken out is no longer counted.
  pub how_many_taken : (xs : List X) (i : ℕ) (x : X) → slice_get xs i ≡ Some x → how_many test xs ≡ how_many test (remove xs i) + cond (test x) 1 0
  how_many_taken [] i x e = absurd (none_some x e)
  how_many_taken (y ∷ xs) zero x e = let same : y ≡ x = cc in subst (λ z. cond (test y) 1 0 + how_many test xs ≡ how_many test xs + cond (test z) 1 0) same (omega arith)
  how_many_taken (y ∷ xs) (suc i) x e = let more = how_many_taken xs i x e in omega arith

  pub how_many_few : (xs : List X) → how_many test xs ≤ length xs
  how_many_few [] = omega arith
  how_many_few (x ∷ xs) = let more = how_many_few xs in ⊎_elim (λ (e : test x ≡ true). rw e (omega arith)) (λ (e : test x ≡ false). rw e (omega arith)) (cases_Bool (test x))

  pub how_many_none : (xs : List X) → ((x : X) → test x ≡ false) → how_many test xs ≡ 0
  how_many_none [] out = refl
  how_many_none (x ∷ xs) out = let more = how_many_none xs out in rw (out x) (omega arith)

  -- A filter keeps no more.
  how_many_kept : (keep : X → Bool) (xs : List X) → how_many test (filter keep xs) ≤ how_many test xs
  how_many_kept keep [] = omega arith
  how_many_kept keep (x ∷ xs) = let more = how_many_kept keep xs in ⊎_elim (λ (e : keep x ≡ true). rw e (omega arith)) (λ (e : keep x ≡ false). rw e (omega arith)) (cases_Bool (keep x))

module _ {X Y : Type 0} where
  pub how_many_map : (test : Y → Bool) (f : X → Y) (xs : List X) → how_many test (map f xs) ≡ how_many (λ x. test (f x)) xs
  how_many_map test f [] = refl
  how_many_map test f (x ∷ xs) = ap (λ n. cond (test (f x)) 1 0 + n) (how_many_map test f xs)

  -- Where each part counts at most a number, the parts together count at most as many times that number.
  pub joined_few : (test : Y → Bool) (f : X → List Y) (most : ℕ) → ((x : X) → how_many test (f x) ≤ most) → (xs : List X) → how_many test (flat_map f xs) ≤ most * length xs
  joined_few test f most few [] = omega arith
  joined_few test f most few (x ∷ xs) = let more = joined_few test f most few xs in omega (arith, few x, how_many_append test (f x) (flat_map f xs), mul-suc most (length xs))

-- A list has as many members as pass a test that all pass.
pub how_many_all : {X : Type 0} (xs : List X) → how_many (λ x. true) xs ≡ length xs
how_many_all [] = refl
how_many_all (x ∷ xs) = let more = how_many_all xs in omega arith

module _ {X : Type 0} (test : X → Bool) (x : X) (xs : List X) (i : In x xs) where
  pub one_passes : test x ≡ true → 1 ≤ how_many test xs
  one_passes passes = let p = nth_in x xs i in rw (how_many_taken test xs p.0 x p.1, passes) (omega arith)

  pub not_all : test x ≡ false → how_many test xs < length xs
  not_all fails =
      let p = nth_in x xs i in
      let rest = remove xs p.0 in
      rw (how_many_taken test xs p.0 x p.1, fails) (omega (arith, how_many_few test rest, how_many_taken (λ y. true) xs p.0 x p.1, how_many_all xs, how_many_all rest))

-- A number among those that are counted from another, and among those that a filter keeps of them.
module _ (s : ℕ) where
  abbrev pub is : ℕ → Bool
  is k = eqb k s

  counted_never : (a n : ℕ) → s < a → how_many is (range_with_len a n) ≡ 0
  counted_never a zero low = refl
  counted_never a (suc n) low = let more = counted_never (a + 1) n (omega arith) in rw (ne_eqb a s (λ e. omega arith)) (omega arith)

  counted_at_most : (a n : ℕ) → how_many is (range_with_len a n) ≤ 1
  counted_at_most a zero = omega arith
  counted_at_most a (suc n) =
      ⊎_elim
      (λ (e : a ≡ s). let none = counted_never (a + 1) n (omega arith) in rw (eq-eqb a s e) (omega arith))
      (λ (ne : a ≡ s → ⊥). let more = counted_at_most (a + 1) n in rw (ne_eqb a s ne) (omega arith))
      (cases_eq a s)

  counted_at_least : (a n : ℕ) → a ≤ s → s < a + n → 1 ≤ how_many is (range_with_len a n)
  counted_at_least a zero low high = omega arith
  counted_at_least a (suc n) low high =
      ⊎_elim
      (λ (e : a ≡ s). rw (eq-eqb a s e) (omega arith))
      (λ (ne : a ≡ s → ⊥). let more = counted_at_least (a + 1) n (above ne) (omega arith) in rw (ne_eqb a s ne) (omega arith))
      (cases_eq a s)
    where
      above : (a ≡ s → ⊥) → a + 1 ≤ s
      above ne = omega arith

  kept_without : (keep : ℕ → Bool) → keep s ≡ false → (xs : List ℕ) → how_many is (filter keep xs) ≡ 0
  kept_without keep out [] = refl
  kept_without keep out (x ∷ xs) =
      let more = kept_without keep out xs in
      ⊎_elim (λ (e : keep x ≡ true). rw e (rw (ne_eqb x s (λ same. true≢false (sym e ∙ ap keep same ∙ out))) (omega arith))) (λ (e : keep x ≡ false). rw e more) (cases_Bool (keep x))

  kept_besides : (keep : ℕ → Bool) → keep s ≡ false → (xs : List ℕ) → length (filter keep xs) + how_many is xs ≤ length xs
  kept_besides keep out [] = omega arith
  kept_besides keep out (x ∷ xs) =
      let more = kept_besides keep out xs in
      ⊎_elim
      (λ (e : keep x ≡ true). rw e (rw (ne_eqb x s (λ same. true≢false (sym e ∙ ap keep same ∙ out))) (omega arith)))
      (λ (e : keep x ≡ false). rw e (let bit = how_many_few is (x ∷ []) in omega arith))
      (cases_Bool (keep x))

  pub picked_once : (test : ℕ → Bool) → how_many is (picked test) ≤ 1
  picked_once test = omega (arith, how_many_kept is test (range_with_len 0 8), counted_at_most 0 8)

  pub picked_without : (test : ℕ → Bool) → test s ≡ false → how_many is (picked test) ≡ 0
  picked_without test out = kept_without test out (range_with_len 0 8)

  pub picked_few : (test : ℕ → Bool) → s < 8 → test s ≡ false → length (picked test) ≤ 7
  picked_few test low out = omega (arith, kept_besides test out (range_with_len 0 8), counted_at_least 0 8 (omega arith) low)
