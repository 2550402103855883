-- Each transaction noted with its record, and each record with what was noted. Assumes nothing.
use Rattle.std.proofs.Common.{◌≡◌, ℕ, zero, suc, ◌+◌, ◌≤◌, List, [], ◌∷◌, map, length, is_some, Some, sym, refl, ap, ◌∙◌, subst, inl, inr, ⊎_elim, arith}
use Rattle.std.specs.List.{slice_get}
use Rattle.std.proofs.lemmas.List.{length-map}
use Rattle.terms.specs.Lists.{In}
use Rattle.terms.specs.Times.{site_of}
use Rattle.records.specs.declared.transaction.Transaction.{Transaction}
use Rattle.model.specs.Rules.{Rules}
use Rattle.model.specs.Single.{Noted}
use Rattle.model.proofs.State.{State, told}
use Rattle.model.proofs.Lots.{Lot, lots, origin}
use Rattle.model.proofs.Invariant.{Invariant}
use Rattle.model.proofs.Counts.{how_many_few}
use Rattle.model.proofs.Drafts.{lot_owner}
use Rattle.model.proofs.Parts.History.{NotedAs, NotedFrom}
use Rattle.model.proofs.Parts.Numbers.{settled_ones}

module _ {V : Type 0} (rules : Rules V) (S : State V) where
  -- A transaction noted together with its record, where numbers go from n on.
  pub record Paired (n : ℕ) (hs : List (Noted V)) (xs : List (Transaction V)) (h : Noted V) (x : Transaction V) : Type 0 where
    pub noted : In h hs
    pub started : In x xs
    pub place : ℕ
    pub found : slice_get xs place ≡ Some x
    pub matched : NotedAs rules S (place + n) h x

  further : (n : ℕ) (h g : Noted V) (hs : List (Noted V)) (x y : Transaction V) (xs : List (Transaction V)) → Paired (n + 1) hs xs h x → Paired n (g ∷ hs) (y ∷ xs) h x
  further n h g hs x y xs p =
      record {
        noted = inr p.noted;
        started = inr p.started;
        place = suc p.place;
        found = p.found;
        matched = let e : p.place + (n + 1) ≡ suc p.place + n = omega arith in subst (λ k. NotedAs rules S k h x) e p.matched;
      }

  first : (n : ℕ) (h : Noted V) (hs : List (Noted V)) (x : Transaction V) (xs : List (Transaction V)) → NotedAs rules S n h x → Paired n (h ∷ hs) (x ∷ xs) h x
  first n h hs x xs a =
      record {
        noted = inl refl;
        started = inl refl;
        place = zero;
        found = refl;
        matched = let e : n ≡ zero + n = omega arith in subst (λ k. NotedAs rules S k h x) e a;
      }

  -- The record of a transaction noted.
  pub record_of : (n : ℕ) (hs : List (Noted V)) (xs : List (Transaction V)) → NotedFrom rules S n hs xs → (h : Noted V) → In h hs → (x : Transaction V) × Paired n hs xs h x
  record_of n [] xs all h i = absurd i
  record_of n (g ∷ hs) [] all h i = absurd all
  record_of n (g ∷ hs) (y ∷ xs) all h i =
      ⊎_elim
      (λ (e : g ≡ h). (y, subst (λ k. Paired n (g ∷ hs) (y ∷ xs) k y) e (first n g hs y xs all.0)))
      (λ j. let r = record_of (n + 1) hs xs all.1 h j in (r.0, further n h g hs r.0 y xs r.1))
      i

  -- What was noted of a transaction with a record.
  noted_of : (n : ℕ) (hs : List (Noted V)) (xs : List (Transaction V)) → NotedFrom rules S n hs xs → (x : Transaction V) → In x xs → (h : Noted V) × Paired n hs xs h x
  noted_of n hs [] all x i = absurd i
  noted_of n [] (y ∷ xs) all x i = absurd all
  noted_of n (g ∷ hs) (y ∷ xs) all x i =
      ⊎_elim
      (λ (e : y ≡ x). (g, subst (λ k. Paired n (g ∷ hs) (y ∷ xs) g k) e (first n g hs y xs all.0)))
      (λ j. let r = noted_of (n + 1) hs xs all.1 x j in (r.0, further n r.0 g hs x y xs r.1))
      i

  pub same_times : (n : ℕ) (hs : List (Noted V)) (xs : List (Transaction V)) → NotedFrom rules S n hs xs → map (λ x. x.time) xs ≡ map (λ h. h.time) hs
  same_times n [] [] all = refl
  same_times n [] (x ∷ xs) all = absurd all
  same_times n (h ∷ hs) [] all = absurd all
  same_times n (h ∷ hs) (x ∷ xs) all = λ i. sym all.0.time_is i ∷ same_times (n + 1) hs xs all.1 i

  -- As many are noted as have records, and no more are settled.
  module _ (hs : List (Noted V)) (inv : Invariant rules S hs) where
    pub as_many : length S.transactions ≡ length hs
    as_many = sym (length-map S.transactions (λ x. x.time)) ∙ ap length (same_times 1 hs S.transactions inv.history.noted) ∙ length-map hs (λ h. h.time)

    pub settled_few : settled_ones hs ≤ length S.transactions
    settled_few = omega (arith, how_many_few (λ (h : Noted V). is_some h.outcome) hs, as_many)

    -- What was noted of the transaction of a lot.
    pub noted_lot : (b : Lot V) → In b (lots rules S) → (h : Noted V) × In h hs × (h.time ≡ b.line.time) × (h.outcome ≡ told S (origin b.line) b.line.time)
    noted_lot b i =
        let own = lot_owner rules S.transactions b i in
        let p = noted_of 1 hs S.transactions inv.history.noted own.0 own.1 in
        (p.0, p.1.noted, p.1.matched.time_is ∙ sym own.3, p.1.matched.outcome_is ∙ ap (λ t. told S (site_of t) t) (sym own.3))
