-- Numbers: no record that a delivery needs is ever missing, and few messages are put. Assumes nothing.
use Rattle.std.proofs.Common.{◌≡◌, ℕ, ◌+◌, ◌*◌, ◌≤◌, Bool, cond, ◌&&◌, ◌||◌, eqb, List, [], ◌∷◌, length, is_some}
use Rattle.records.specs.declared.message.Message.{Message}
use Rattle.model.specs.Single.{Noted}
use Rattle.model.proofs.State.{State}
use Rattle.model.proofs.Lots.{primary}

abbrev pub how_many : {X : Type 0} → (X → Bool) → List X → ℕ
how_many test [] = 0
how_many test (x ∷ xs) = cond (test x) 1 0 + how_many test xs

abbrev pub line_for : {V : Type 0} → ℕ → Message V → Bool
line_for site m = eqb m.kind 1 && eqb m.to site

abbrev pub verdict_for : {V : Type 0} → ℕ → Message V → Bool
verdict_for site m = (eqb m.kind 4 || eqb m.kind 5) && eqb m.to site

-- A line that waits for the primary of its card, and so may have a reply put.
abbrev pub line_for_primary : {V : Type 0} → State V → Message V → Bool
line_for_primary S m = eqb m.kind 1 && eqb m.to (primary S m.line)

abbrev pub settled_ones : {V : Type 0} → List (Noted V) → ℕ
settled_ones hs = how_many (λ h. is_some h.outcome) hs

pub record Numbers {V : Type 0} (S : State V) (hs : List (Noted V)) : Type 0 where
  pub lines : (s : ℕ) → length (S.lines s) + how_many (line_for s) S.waiting ≤ 4 * length S.transactions
  pub verdicts : (s : ℕ) → length (S.verdicts s) + how_many (verdict_for s) S.waiting ≤ settled_ones hs
  pub put_few : S.put + how_many (line_for_primary S) S.waiting ≤ 32 * length S.transactions + 7 * settled_ones hs
  pub put_is : S.put ≡ S.delivered + length S.waiting
