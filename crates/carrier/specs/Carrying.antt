-- What a carrier holds, and what a put and a take do with it. Assumes nothing.
use Rattle.std.specs.Prelude.{◌≡◌, ℕ, ◌+◌, ◌-◌, ◌<◌, ◌≤◌, List, [], ◌++◌, length, Ok, Err, Result, slice_index_or}
use Rattle.std.specs.List.{remove}
use Rattle.records.specs.declared.message.Message.{Message}
use Rattle.terms.specs.declared.fault.Refusal.{Refusal}
use Rattle.carrier.specs.declared.carrier.Taken.{Taken}
use Rattle.carrier.specs.declared.fault.CarrierFault.{CarrierFault}
use Rattle.carrier.specs.declared.fault.CarrierFault.TheVariants.{Full, Empty}

-- 15: fewer free places than the call would put. 16: nothing waiting.
abbrev pub refusal_of : CarrierFault → Refusal
refusal_of Full = record { number = 15; line = 0; code = 0 }
refusal_of Empty = record { number = 16; line = 0; code = 0 }

-- The messages that wait, in the order put, and how many may.
pub record Queue (V : Type 0) : Type 0 where
  pub waiting : List (Message V)
  pub limit : ℕ

-- How many messages could still be put.
abbrev pub places_left : {V : Type 0} → Queue V → ℕ
places_left queue = queue.limit - length queue.waiting

-- More messages were appended to those that waited.
pub record Appended {V : Type 0} (before : Queue V) (more : List (Message V)) (after : Queue V) : Type 0 where
  pub free : length before.waiting + length more ≤ before.limit
  pub waiting : after.waiting ≡ before.waiting ++ more
  pub same : after.limit ≡ before.limit

-- There were fewer free places than messages to put, and nothing changed.
pub record Crowded {V : Type 0} (before : Queue V) (more : List (Message V)) (after : Queue V) (fault : CarrierFault) : Type 0 where
  pub why : fault ≡ Full
  pub crowd : before.limit < length before.waiting + length more
  pub kept : after ≡ before

-- A call that puts all of some messages, or none.
abbrev pub PutOf : {V : Type 0} → Queue V → List (Message V) → Result (Unit {0}) CarrierFault → Queue V → Type 0
PutOf before more (Ok _) after = Appended before more after
PutOf before more (Err fault) after = Crowded before more after fault

-- The message at the place chosen was removed and answered with its place; the others keep their order.
pub record Removed {V : Type 0} (before : Queue V) (chosen : ℕ) (taken : Taken V) (after : Queue V) : Type 0 where
  pub waits : chosen < length before.waiting
  pub at : taken.place ≡ chosen
  pub message : taken.message ≡ slice_index_or before.waiting chosen taken.message
  pub waiting : after.waiting ≡ remove before.waiting chosen
  pub same : after.limit ≡ before.limit

-- Nothing waited, and nothing changed.
pub record Nothing {V : Type 0} (before after : Queue V) (fault : CarrierFault) : Type 0 where
  pub why : fault ≡ Empty
  pub none : before.waiting ≡ []
  pub kept : after ≡ before

-- A call that takes the message at a place.
abbrev pub TakeOf : {V : Type 0} → Queue V → ℕ → Result (Taken V) CarrierFault → Queue V → Type 0
TakeOf before chosen (Ok taken) after = Removed before chosen taken after
TakeOf before chosen (Err fault) after = Nothing before after fault
