-- What a carrier holds, and which of the waiting messages it takes. Assumes nothing.
use Rattle.std.specs.Prelude.{◌≡◌, ℕ, suc, ◌+◌, ◌-◌, ◌*◌, ◌%◌, ◌<◌, cond, ◌≢◌, List, [], ◌∷◌, length, nat_le, slice_index_or}
use Rattle.records.specs.declared.message.Message.{Message}
use Rattle.terms.specs.Lists.{all}
use Rattle.carrier.specs.Carrying.{Queue}

abbrev pub queue_of : {V : Type 0} → List (Message V) → ℕ → Queue V
queue_of waiting limit = record { waiting = waiting; limit = limit }

-- The tray counts round its messages by the hint.
abbrev pub tray_place : {V : Type 0} → List (Message V) → ℕ → ℕ
tray_place waiting hint = hint % length waiting

-- The lane of a message: one for each pair of sites, going round at 64.
abbrev pub lane : {V : Type 0} → Message V → ℕ
lane m = (m.from * 8 + m.to) % 64

-- The lane reached from the hint's by some steps.
abbrev pub reached : ℕ → ℕ → ℕ
reached hint steps = (hint + steps) % 64

-- How many lanes are passed from the hint's to another.
abbrev pub distance : ℕ → ℕ → ℕ
distance hint to = (to + 64 - hint % 64) % 64

-- The place of the first of least key: none after it has a smaller one.
abbrev pub first_least : {X : Type 0} → (X → ℕ) → List X → ℕ
first_least key [] = 0
first_least key (x ∷ xs) = cond (all (λ y. nat_le (key x) (key y)) xs) 0 (suc (first_least key xs))

-- The lanes take the first message of the nearest lane.
abbrev pub lanes_place : {V : Type 0} → List (Message V) → ℕ → ℕ
lanes_place waiting hint = first_least (λ m. distance hint (lane m)) waiting

-- A place is what going round the lanes finds first: the lanes passed are empty, the message at the place is in the lane
-- reached, and no earlier one is.
pub record FoundFirst {V : Type 0} (waiting : List (Message V)) (hint place : ℕ) : Type 0 where
  pub waits : place < length waiting
  pub steps : ℕ
  pub passed : (j k : ℕ) (d : Message V) → j < steps → k < length waiting → lane (slice_index_or waiting k d) ≢ reached hint j
  pub within : (d : Message V) → lane (slice_index_or waiting place d) ≡ reached hint steps
  pub first : (k : ℕ) (d : Message V) → k < place → lane (slice_index_or waiting k d) ≢ reached hint steps
