-- A table of records whose first ones are used. Assumes nothing.
use Rattle.std.specs.Prelude.{◌≡◌, ℕ, ◌+◌, ◌<◌, ◌≤◌, List, [], ◌∷◌, ◌++◌, length, take, drop, Some, None, Option, slice_set}
use Rattle.std.specs.List.{slice_get}

-- The record at a place, if there is one.
abbrev pub at_place : {X : Type 0} → List X → Option ℕ → Option X
at_place table None = None
at_place table (Some i) = slice_get table i

-- The table with another record at a place; without a place, or past the end, it stays.
abbrev pub replaced : {X : Type 0} → List X → Option ℕ → X → List X
replaced table None x = table
replaced table (Some i) x = slice_set table i x

-- The table with some records written from a place on.
abbrev pub written : {X : Type 0} → List X → ℕ → List X → List X
written table at [] = table
written table at (x ∷ xs) = written (slice_set table at x) (at + 1) xs

-- The used records are those before followed by some more, and what lies past them stays.
pub record Joined {X : Type 0} (before : List X) (used : ℕ) (more : List X) (now_used : ℕ) (after : List X) : Type 0 where
  pub count : now_used ≡ used + length more
  pub front : take now_used after ≡ take used before ++ more
  pub past : drop now_used after ≡ drop now_used before

pub record Unchanged {X : Type 0} (before : List X) (used : ℕ) (now_used : ℕ) (after : List X) : Type 0 where
  pub count : now_used ≡ used
  pub kept : after ≡ before

-- A call that writes some more records behind the used ones if as many are free, and else nothing.
pub record Extends {X : Type 0} (before : List X) (used : ℕ) (more : List X) (now_used : ℕ) (after : List X) : Type 0 where
  pub joins : used + length more ≤ length before → Joined before used more now_used after
  pub full : length before < used + length more → Unchanged before used now_used after
