-- Values by card number: reading and writing one. Assumes nothing.
use Rattle.std.proofs.Common.{◌≡◌, ℕ, zero, suc, List, [], ◌∷◌, map, get_or, set, Some, refl, ap}
use Rattle.std.specs.List.{slice_get}
use Rattle.model.proofs.Cases.{none_some, same_some}

module _ {X : Type 0} where
  pub nth_value : (xs : List X) (i : ℕ) (x d : X) → slice_get xs i ≡ Some x → get_or xs i d ≡ x
  nth_value [] i x d e = absurd (none_some x e)
  nth_value (y ∷ xs) zero x d e = same_some y x e
  nth_value (y ∷ xs) (suc i) x d e = nth_value xs i x d e

  pub nth_set_same : (xs : List X) (i : ℕ) (x y : X) → slice_get xs i ≡ Some x → slice_get (set xs i y) i ≡ Some y
  nth_set_same [] i x y e = absurd (none_some x e)
  nth_set_same (z ∷ xs) zero x y e = refl
  nth_set_same (z ∷ xs) (suc i) x y e = nth_set_same xs i x y e

  pub nth_set_other : (xs : List X) (i j : ℕ) (y : X) → (i ≡ j → ⊥) → slice_get (set xs i y) j ≡ slice_get xs j
  nth_set_other [] i j y ne = refl
  nth_set_other (z ∷ xs) zero zero y ne = absurd (ne refl)
  nth_set_other (z ∷ xs) zero (suc j) y ne = refl
  nth_set_other (z ∷ xs) (suc i) zero y ne = refl
  nth_set_other (z ∷ xs) (suc i) (suc j) y ne = nth_set_other xs i j y (λ e. ne (ap suc e))

pub nth_map : {X Y : Type 0} (f : X → Y) (xs : List X) (i : ℕ) (x : X) → slice_get xs i ≡ Some x → slice_get (map f xs) i ≡ Some (f x)
nth_map f [] i x e = absurd (none_some x e)
nth_map f (z ∷ xs) zero x e = ap (λ w. Some (f w)) (same_some z x e)
nth_map f (z ∷ xs) (suc i) x e = nth_map f xs i x e
