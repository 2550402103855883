-- What the pieces of a text should be, one after the other. Assumes nothing.
use Rattle.std.specs.Prelude.{ℕ, ◌+◌, cond, List, length, Some, None, Ok, Err, Option, Result, nat_le}
use Rattle.script.specs.Pieces.{fields, head, others, empty}

-- A form ends here with what was read, or wants one more piece that its reader can read, or does either.
pub data Form (X : Type 0) : Type 1 where
  ends : X → Form X
  wants : {A : Type 0} → (List ℕ → Option A) → (A → Form X) → Form X
  may_end : X → Form X → Form X

-- A form that makes something else of what was read.
abbrev pub mapped : {X Y : Type 0} → (X → Y) → Form X → Form Y
mapped f (ends x) = ends (f x)
mapped f (wants reader more) = wants reader (λ a. mapped f (more a))
mapped f (may_end x more) = may_end (f x) (mapped f more)

-- What a reader makes of something that may be missing.
abbrev pub read : {T A : Type 0} → (T → Option A) → Option T → Option A
read reader None = None
read reader (Some t) = reader t

-- What the pieces from a place on give, or the place of the first that is missing, extra or unreadable.
abbrev pub parsed : {X : Type 0} → Form X → ℕ → List (List ℕ) → Result X ℕ
parsed (ends x) place ps = cond (empty ps) (Ok x) (Err place)
parsed (wants reader more) place ps =
    elim (read reader (head ps)) [ None ↦ Err place | Some a ↦ parsed (more a) (place + 1) (others ps) ]
parsed (may_end x more) place ps = cond (empty ps) (Ok x) (parsed more place ps)

-- A line of at most 80 bytes, its fields parted by tabs; if it has not this form, the place of its first bad field.
abbrev pub line_parsed : {X : Type 0} → Form X → List ℕ → Result X ℕ
line_parsed form line = cond (nat_le (length line) 80) (parsed form 1 (fields line)) (Err 1)
