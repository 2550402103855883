-- What `min_by_key` gives over numbered items: the first of least key. Assumes nothing.
use Rattle.std.proofs.Common.{◌≡◌, ℕ, suc, ◌+◌, ◌<◌, ◌≤◌, Bool, true, false, cond, ◌&&◌, List, [], ◌∷◌, map, length, Bor, Ordering, Less, Equal, Greater, refl, sym, ap, subst, ◌∙◌, nat_lt, nat_le, arith}
use Rattle.std.specs.Prelude.{Option, Some, None, MatchOption}
use Rattle.std.specs.List.{FoldsTo, best_of, enumerate_from}
use Rattle.std.specs.Ordering.{nat_cmp, min_by_ordering}
use Rattle.std.specs.Iterator.{Drains, DrainsIf, KeyTurn, PicksMinByKey}
use Rattle.std.specs.Fn.{CalledAt}
use Rattle.std.specs.Cmp.{ranks}
use Rattle.std.proofs.lemmas.Iterator.{YieldsList, items_from_drains}
use Rattle.std.proofs.lemmas.Bool.{lt-ltb, le-ltb, ltb-true, ltb-false}
use denote.Param.Members.{Mut}
use Rattle.terms.specs.Lists.{all}
use Rattle.carriers.specs.Choosing.{first_least}

by_test : {X : Type 0} (t : Bool) (l k : ℕ) (x y : X) → nat_lt l k ≡ t → cond t y x ≡ cond (nat_lt l k) y x
by_test t l k x y e = ap (λ b. cond b y x) (sym e)

chosen : {X Y : Type 0} (v : X → Y) (k l : ℕ) (o : Ordering) (x y : X) → nat_cmp k l ≡ o → v (min_by_ordering o x y) ≡ cond (nat_lt l k) (v y) (v x)
chosen v k l Less x y e = by_test false l k (v x) (v y) (le-ltb l k (let r = ranks k l in grind arith))
chosen v k l Equal x y e = by_test false l k (v x) (v y) (le-ltb l k (let r = ranks k l in grind arith))
chosen v k l Greater x y e = by_test true l k (v x) (v y) (lt-ltb l k (let r = ranks k l in grind arith))

same_choice : {X Y : Type 0} (v : X → Y) (o : Ordering) (x y : X) → min_by_ordering o (v x) (v y) ≡ v (min_by_ordering o x y)
same_choice v Less x y = refl
same_choice v Equal x y = refl
same_choice v Greater x y = refl

module _ {A B F : Type 0} (g : Mut F (Bor A × Unit {0}) ℕ) (f : F) (v : A → B) (key : B → ℕ) (calls : (x : A) (k : ℕ) (h : F) → CalledAt g f x k h → (h ≡ f) × (k ≡ key (v x))) where
  picked : (xs : List A) (x y : A) (h : F) (k : ℕ) (q : F × ℕ) → h ≡ f → k ≡ key (v x) → FoldsTo {P = (F × ℕ) × A} (KeyTurn min_by_ordering min_by_ordering g nat_cmp) ((h, k), x) xs (q, y) → v y ≡ best_of (λ a b. nat_lt (key a) (key b)) (v x) (map v xs)
  picked [] x y h k q same is folds = ap (λ p. v p.1) (sym folds)
  picked (z ∷ zs) x y h k q same is folds =
      let turn = folds.1 in
      let Call : F → Type 0 = λ p. CalledAt g p z turn.0 folds.0.0.0 in
      let call = calls z turn.0 folds.0.0.0 (subst Call same turn.2) in
      let pick = chosen v k turn.0 turn.1 x z turn.3 in
      let both = same_choice (λ a. key (v a)) turn.1 x z in
      let better : v folds.0.1 ≡ cond (nat_lt (key (v z)) (key (v x))) (v z) (v x) = cc in
      picked zs folds.0.1 y folds.0.0.0 folds.0.0.1 q call.0 (cc) folds.2 ∙ ap (λ b. best_of (λ a b. nat_lt (key a) (key b)) b (map v zs)) better

module _ {X : Type 0} (key : X → ℕ) where
  abbrev nearer : ℕ × X → ℕ × X → Bool
  nearer a b = nat_lt (key a.1) (key b.1)

  still_all : (b x : X) (xs : List X) → key b ≤ key x → all (λ y. nat_le (key x) (key y)) xs ≡ true → all (λ y. nat_le (key b) (key y)) xs ≡ true
  still_all b x [] le h = refl
  still_all b x (y ∷ ys) le h = let rest = still_all b x ys le in grind arith

  step : (n i : ℕ) (b x : X) (xs : List X) (t : Bool) → nat_lt (key x) (key b) ≡ t → ((j : ℕ) (c : X) → (best_of nearer (j, c) (enumerate_from (n + 1) xs)).0 ≡ cond (all (λ y. nat_le (key c) (key y)) xs) j (n + 1 + first_least key xs)) → (best_of nearer (cond t (n, x) (i, b)) (enumerate_from (n + 1) xs)).0 ≡ cond (nat_le (key b) (key x) && all (λ y. nat_le (key b) (key y)) xs) i (n + first_least key (x ∷ xs))
  step n i b x xs true e rest = let r = rest n x in let l = ltb-true _ _ e in grind arith
  step n i b x xs false e rest = let r = rest i b in let l = ltb-false _ _ e in let s = still_all b x xs l in grind arith

  best_place : (n i : ℕ) (b : X) (xs : List X) → (best_of nearer (i, b) (enumerate_from n xs)).0 ≡ cond (all (λ y. nat_le (key b) (key y)) xs) i (n + first_least key xs)
  best_place n i b [] = refl
  best_place n i b (x ∷ xs) = step n i b x xs (nat_lt (key x) (key b)) refl (λ j c. best_place (n + 1) j c xs)

all_drained : {S A : Type 0} (steps : S → Option A → S → Type 0) (s : S) (xs : List A) → Drains steps s xs → DrainsIf steps (Unit {0}) s xs
all_drained steps s xs d = (d.1.0, d.1.1, λ _. (d.0, d.1.2))

module _ {S A F X : Type 0} {steps : S → Option A → S → Type 0} {v : A → ℕ × X} (g : Mut F (Bor A × Unit {0}) ℕ) (f : F) (key : X → ℕ) (s : S) where
  pub first_picked : (xs : List X) (r : Option A) → YieldsList steps v s (enumerate_from 0 xs) → PicksMinByKey steps g nat_cmp s f r → ((x : A) (k : ℕ) (h : F) → CalledAt g f x k h → (h ≡ f) × (k ≡ key (v x).1)) → MatchOption r (xs ≡ []) (λ y. (0 < length xs) × ((v y).0 ≡ first_least key xs))
  first_picked [] None yields picks calls = refl
  first_picked (x ∷ xs) None yields picks calls = let items = items_from_drains {v = v} [] (all_drained steps s [] picks) yields in cc
  first_picked [] (Some y) yields picks calls = let items = items_from_drains {v = v} (picks.0 ∷ picks.1) (all_drained steps s (picks.0 ∷ picks.1) picks.5) yields in cc
  first_picked (x ∷ xs) (Some y) yields picks calls =
      let items = items_from_drains {v = v} (picks.0 ∷ picks.1) (all_drained steps s (picks.0 ∷ picks.1) picks.5) yields in
      let head : v picks.0 ≡ (0, x) = cc in
      let tail : map v picks.1 ≡ enumerate_from 1 xs = cc in
      let call = calls picks.0 picks.2 picks.3 picks.6 in
      let best = picked g f v (λ b. key b.1) calls picks.1 picks.0 y picks.3 picks.2 picks.4 call.0 call.1 picks.7 in
      let moved : v y ≡ best_of (nearer key) (0, x) (enumerate_from 1 xs) = cc in
      let place = best_place key 1 0 x xs in
      let next : 1 + first_least key xs ≡ suc (first_least key xs) = omega arith in
      (omega arith, cc)
