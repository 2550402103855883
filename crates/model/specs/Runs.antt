-- Runs of a sitting: lists of calls with their answers, from a world just opened. Assumes nothing.
use Rattle.std.specs.Prelude.{◌≡◌, ℕ, ◌≤◌, true, false, List, [], ◌∷◌, ◌++◌, replicate, Ok, Err, Result}
use Rattle.terms.specs.declared.outcome.Outcome.{Outcome}
use Rattle.terms.specs.declared.fault.Refusal.{Refusal}
use Rattle.terms.specs.Few.{few_list}
use Rattle.book.specs.Meaning.{Answer, declines, gives}
use Rattle.records.specs.declared.card.Card.{Card}
use Rattle.records.specs.declared.message.Message.{Message}
use Rattle.starting.specs.declared.start.Order.{Order}
use Rattle.starting.specs.Reading.{values_read}
use Rattle.model.specs.Rules.{Rules}
use Rattle.model.specs.World.{World, too_short, site_in}
use Rattle.model.specs.Calls.{Started, size_allowed, sets_up, declares, opens, starts, delivers, settles, closes}

-- A world just opened: nothing is used but cards, and nothing waits.
pub record Opened {V : Type 0} (w : World V) : Type 0 where
  pub sized : size_allowed w.size ≡ true
  pub long : too_short w ≡ false
  pub few_cards : w.declared ≤ 64
  pub none_started : w.started ≡ 0
  pub none_landed : w.landed ≡ replicate 8 0
  pub none_recorded : w.recorded ≡ replicate 8 0
  pub none_counted : w.counters ≡ replicate 8 0
  pub none_put : w.put ≡ 0
  pub none_delivered : w.delivered ≡ 0
  pub none_waiting : w.waiting ≡ []
  pub room : 28 ≤ w.limit

-- A world that is being set up: by an accepted set up and any calls to declare a card.
pub data Prepared {V : Type 0} : World V → Type 0 where
  set_up : (w : World V) → (sets_up w).answer ≡ Ok tt → Prepared (sets_up w).world
  declared_more : {w : World V} → Prepared w → (card : Card V) → Prepared (declares w card).world

-- An accepted open of such a world leaves one just opened.
abbrev pub OpensRight : {V : Type 0} → World V → Type 0
OpensRight w = Prepared w → (opens w).answer ≡ Ok tt → Opened (opens w).world

-- The calls of an open sitting; a delivery is of the message at any place.
pub data Call (V : Type 0) : Type 0 where
  start_at : Order V → Call V
  deliver_from : ℕ → Call V
  settle_one : ℕ → Call V

-- A call with its answer. An accepted start also notes what it handed to the rule and what the rule gave back.
pub data Event (V : Type 0) : Type 0 where
  start_accepted : Order V → Started → List V → List V → Event V
  start_declined : Order V → Refusal → Event V
  delivery_accepted : Message V → Event V
  delivery_declined : Refusal → Event V
  settle_accepted : ℕ → Outcome → Event V
  settle_declined : ℕ → Refusal → Event V
  close_accepted : Event V
  close_declined : Refusal → Event V

abbrev pub given_by : {V : Type 0} → Answer V → List V
given_by (declines code) = []
given_by (gives values) = values

-- What a start hands to its rule: the values that the origin reads.
abbrev pub handed : {V : Type 0} → Rules V → World V → Order V → List V
handed rules w order = values_read (site_in w order.origin) order.argument (rules.modes order.rule) (few_list order.cards)

-- What the rule gives back.
abbrev pub given : {V : Type 0} → Rules V → World V → Order V → List V
given rules w order = given_by (rules.answer order.rule order.argument (handed rules w order))

abbrev pub start_event : {V : Type 0} → Order V → List V → List V → Result Started Refusal → Event V
start_event order read written (Ok started) = start_accepted order started read written
start_event order read written (Err f) = start_declined order f

abbrev pub delivery_event : {V : Type 0} → Result (Message V) Refusal → Event V
delivery_event (Ok m) = delivery_accepted m
delivery_event (Err f) = delivery_declined f

abbrev pub settle_event : {V : Type 0} → ℕ → Result Outcome Refusal → Event V
settle_event n (Ok outcome) = settle_accepted n outcome
settle_event n (Err f) = settle_declined n f

-- The event that a call makes of a world, and the world that it leaves.
abbrev pub event_of : {V : Type 0} → Rules V → World V → Call V → Event V
event_of rules w (start_at order) = start_event order (handed rules w order) (given rules w order) (starts rules w order).answer
event_of rules w (deliver_from place) = delivery_event (delivers rules w place).answer
event_of rules w (settle_one n) = settle_event n (settles rules w n).answer

abbrev pub world_after : {V : Type 0} → Rules V → World V → Call V → World V
world_after rules w (start_at order) = (starts rules w order).world
world_after rules w (deliver_from place) = (delivers rules w place).world
world_after rules w (settle_one n) = (settles rules w n).world

-- The sitting that opened with a world has come through some events to another, and is still open.
pub data Run {V : Type 0} (rules : Rules V) (opened : World V) : List (Event V) → World V → Type 0 where
  begun : Run rules opened [] opened
  acted : {es : List (Event V)} {w : World V} → Run rules opened es w → (call : Call V) → Run rules opened (es ++ event_of rules w call ∷ []) (world_after rules w call)
  stayed : {es : List (Event V)} {w : World V} → Run rules opened es w → (f : Refusal) → (closes rules w).answer ≡ Err f → Run rules opened (es ++ close_declined f ∷ []) w

-- A world is reached: by a run, which an accepted close may have ended.
pub data Reached {V : Type 0} (rules : Rules V) (opened : World V) : List (Event V) → World V → Type 0 where
  working : {es : List (Event V)} {w : World V} → Run rules opened es w → Reached rules opened es w
  closed : {es : List (Event V)} {w : World V} → Run rules opened es w → (closes rules w).answer ≡ Ok tt → Reached rules opened (es ++ close_accepted ∷ []) w
