-- A table of records that a delivery writes one record into: what a call that extends it by one record leaves. Assumes
-- nothing.
use Rattle.std.specs.Prelude.{ℕ, ◌+◌, cond, List, length, nat_lt, slice_set}

-- A record is written behind the used ones if one is free.
abbrev pub appended : {X : Type 0} → List X → ℕ → X → List X
appended table used x = cond (nat_lt used (length table)) (slice_set table used x) table

abbrev pub used_after : {X : Type 0} → List X → ℕ → ℕ
used_after table used = cond (nat_lt used (length table)) (used + 1) used
