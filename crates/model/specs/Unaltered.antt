-- What a refusal leaves: the world as it was; a foreign message is gone, and a replay that the book declines leaves the
-- values reached. Assumes nothing.
use Rattle.std.specs.Prelude.{◌≡◌, ℕ, List, Err, ◌≢◌}
use Rattle.terms.specs.declared.fault.Refusal.{Refusal}
use Rattle.records.specs.declared.card.Card.{Card}
use Rattle.starting.specs.declared.start.Order.{Order}
use Rattle.model.specs.Rules.{Rules}
use Rattle.model.specs.World.{World}
use Rattle.model.specs.Replay.{replays}
use Rattle.model.specs.Calls.{Reply, sets_up, declares, opens, starts, without, delivers, settles, closes}

-- A call that is refused leaves this world.
abbrev pub Leaves : {A V : Type 0} → World V → Reply A V → Type 0
Leaves w r = (f : Refusal) → r.answer ≡ Err f → r.world ≡ w

pub record Unaltered {V : Type 0} (rules : Rules V) (w : World V) : Type 0 where
  pub by_setting_up : Leaves w (sets_up w)
  pub by_declaring : (card : Card V) → Leaves w (declares w card)
  pub by_opening : Leaves w (opens w)
  pub by_starting : (order : Order V) → Leaves w (starts rules w order)
  pub by_settling : (n : ℕ) → Leaves w (settles rules w n)
  pub by_closing : Leaves w (closes rules w)
  -- 17 has removed the message, which is not counted; any other refusal leaves all as it was.
  pub by_delivering : (place : ℕ) (f : Refusal) → (delivers rules w place).answer ≡ Err f → ((f.number ≢ 17) → (delivers rules w place).world ≡ w) × (f.number ≡ 17 → (delivers rules w place).world ≡ without w place)
  -- A replay alters only the table of values, and only 11 alters that: it leaves the values reached.
  pub by_replaying : (table : List V) (f : Refusal) → (replays rules w table).answer ≡ Err f → (f.number ≢ 11) → (replays rules w table).table ≡ table
