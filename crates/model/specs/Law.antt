-- The law over every run of a sitting. Assumes nothing.
use Rattle.std.specs.Prelude.{◌≡◌, ℕ, ◌+◌, ◌*◌, ◌≤◌, true, List, [], ◌∷◌, map, length, Some, None, Ok, Option, ◌≢◌}
use Rattle.std.specs.List.{slice_get}
use Rattle.terms.specs.declared.outcome.Outcome.{Outcome}
use Rattle.terms.specs.declared.fault.Refusal.{Refusal}
use Rattle.terms.specs.Lists.{In}
use Rattle.book.specs.Meaning.{gives}
use Rattle.records.specs.declared.card.Card.{Card}
use Rattle.records.specs.Present.{card_at, holds}
use Rattle.model.specs.Rules.{Rules}
use Rattle.model.specs.World.{World, declared_cards}
use Rattle.model.specs.Calls.{settles, current_question, committed_question}
use Rattle.model.specs.Runs.{Event, delivery_declined, Opened, Reached}
use Rattle.model.specs.Single.{Noted, notes, committed_ones, values_now, answer_alone, run_alone, run_singly}

abbrev pub opening_values : {V : Type 0} → World V → List V
opening_values w = map (λ card. card.opening) (declared_cards w)

-- Run one at a time from some values, each of the transactions reads and writes exactly what it read and wrote in the
-- sitting, and the book declines none.
abbrev pub AsAlone : {V : Type 0} → Rules V → List V → List (Noted V) → Type 0
AsAlone rules values [] = Unit {0}
AsAlone rules values (x ∷ xs) =
    (values_now values x.argument (rules.modes x.rule) x.cards ≡ x.read) × (answer_alone rules values x ≡ gives x.written) × AsAlone rules (run_alone rules values x) xs

-- A transaction is open, and no open one has a lower time.
pub record LowestOpen {V : Type 0} (xs : List (Noted V)) (x : Noted V) : Type 0 where
  pub noted : In x xs
  pub undecided : x.outcome ≡ None
  pub lowest : (y : Noted V) → In y xs → y.outcome ≡ None → x.time ≤ y.time

abbrev pub AllDecided : {V : Type 0} → List (Noted V) → Type 0
AllDecided {V} xs = (x : Noted V) → In x xs → x.outcome ≢ None

-- A site's replica of a card has a value, as current and as committed value.
pub record Shows {V : Type 0} (w : World V) (site card : ℕ) (value : Option V) : Type 0 where
  pub as_current : current_question w site card ≡ Ok value
  pub as_committed : committed_question w site card ≡ Ok value

-- What holds of the opened world, the calls with their answers and the world reached.
pub record Law {V : Type 0} (rules : Rules V) (opened : World V) (events : List (Event V)) (w : World V) : Type 0 where
  -- The committed transactions, run one at a time by rising time from the opening values, read and write exactly what
  -- they read and wrote in the sitting, and the book declines none of them.
  pub one_at_a_time : AsAlone rules (opening_values opened) (committed_ones events)
  -- With no message waiting and no transaction open, the replica of each card at each of its holders has the value that
  -- this run leaves.
  pub replicas_agree :
      w.waiting ≡ [] → AllDecided (notes events) → (number : ℕ) (card : Card V) → card_at w.size (declared_cards w) number ≡ Some card →
      (site : ℕ) → holds card.holders site ≡ true → Shows w site number (slice_get (run_singly rules (opening_values opened) (committed_ones events)) number)
  -- With no message waiting, settling the open transaction of lowest time is accepted.
  pub lowest_settles :
      w.waiting ≡ [] → (x : Noted V) → LowestOpen (notes events) x → (outcome : Outcome) × ((settles rules w x.number).answer ≡ Ok outcome)
  -- Messages put are messages delivered and waiting, at most 39 for each transaction; no delivery is foreign: one is
  -- declined only for want of a message.
  pub messages_counted : w.put ≡ w.delivered + length w.waiting
  pub messages_few : w.put ≤ 39 * length (notes events)
  pub none_foreign : (f : Refusal) → In (delivery_declined f) events → f.number ≡ 16

-- The law holds of every run from an opened world.
abbrev pub HoldsOf : {V : Type 0} → Rules V → World V → Type 0
HoldsOf {V} rules opened = Opened opened → (events : List (Event V)) (w : World V) → Reached rules opened events w → Law rules opened events w
