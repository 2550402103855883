-- The calls of a sitting: from a world and input to an answer and a world. Assumes nothing.
use Rattle.std.specs.Prelude.{ℕ, ◌+◌, ◌-◌, Bool, cond, not, ◌&&◌, ◌||◌, List, [], ◌∷◌, map, length, replicate, is_some, Some, None, Ok, Err, Option, Result, ◌==◌, nat_le, nat_lt, slice_set}
use Rattle.std.specs.List.{slice_get, remove, range_with_len}
use Rattle.terms.specs.declared.outcome.Outcome.{Outcome}
use Rattle.terms.specs.declared.fault.Refusal.{Refusal}
use Rattle.terms.specs.Lists.{none}
use Rattle.terms.specs.Times.{site_of}
use Rattle.records.specs.declared.card.Card.{Card}
use Rattle.records.specs.declared.line.Line.{Line}
use Rattle.records.specs.declared.message.Message.{Message}
use Rattle.records.specs.declared.size.Size.{Size}
use Rattle.records.specs.declared.transaction.Transaction.{Transaction}
use Rattle.records.specs.declared.verdict.Verdict.{Verdict}
use Rattle.records.specs.Present.{card_at, card_present, transaction_present, holds}
use Rattle.knowledge.specs.declared.versions.Version.{Version}
use Rattle.knowledge.specs.Knowledge.{Site, known}
use Rattle.knowledge.specs.Versions.{current, committed_value}
use Rattle.site.specs.declared.fault.SiteFault.{SiteFault}
use Rattle.site.specs.Faults.{site_told}
use Rattle.starting.specs.declared.start.Order.{Order}
use Rattle.starting.specs.declared.start.Room as start_rooms
use Rattle.starting.specs.Landing.{start_landing}
use Rattle.starting.specs.Starting.{start_answer, start_messages}
use Rattle.delivering.specs.declared.effect.Effect.{Effect}
use Rattle.delivering.specs.declared.effect.Room as deliver_rooms
use Rattle.delivering.specs.Delivery.{delivery, raised}
use Rattle.delivering.specs.Effects.{landing, recording, replies}
use Rattle.delivering.specs.Owns.{own_place, remarked}
use Rattle.site.specs.Tables.{at_place}
use Rattle.settling.specs.Settling.{settlement, verdict_messages}
use Rattle.steps.specs.Numbers.{stopped}
use Rattle.model.specs.Rules.{Rules}
use Rattle.model.specs.World.{World, Change, line_share, verdict_share, too_short, declared_cards, started_ones, counter_at, landed_at, recorded_at, site_in, free_places, changed}

-- An answer, or a refusal, and the world that it leaves.
pub record Reply (A V : Type 0) : Type 0 where
  pub answer : Result A Refusal
  pub world : World V

abbrev pub accepts : {A V : Type 0} → A → World V → Reply A V
accepts a w = record { answer = Ok a; world = w }

abbrev pub declines_with : {A V : Type 0} → Refusal → World V → Reply A V
declines_with f w = record { answer = Err f; world = w }

-- A refusal that names no line and carries no code.
abbrev pub number : ℕ → Refusal
number n = record { number = n; line = 0; code = 0 }

-- A call with tables that are too short is refused with 1 before anything else.
abbrev pub with_tables : {A V : Type 0} → World V → Reply A V → Reply A V
with_tables w r = cond (too_short w) (declines_with (number 1) w) r

-- Setting up: n from 2 to 8, T from 1 to 512.
abbrev pub size_allowed : Size → Bool
size_allowed size = nat_le 2 size.sites && nat_le size.sites 8 && nat_le 1 size.transactions && nat_le size.transactions 512

-- The world of a sitting that is being set up, with the tables and the carrier handed in.
abbrev pub new_world : {V : Type 0} → Size → List (Card V) → List (Transaction V) → List (Line V) → List Verdict → List (Message V) → ℕ → World V
new_world size cards transactions lines verdicts waiting limit =
    record {
      size = size;
      declared = 0;
      started = 0;
      landed = replicate 8 0;
      recorded = replicate 8 0;
      counters = replicate 8 0;
      put = 0;
      delivered = 0;
      cards = cards;
      transactions = transactions;
      lines = lines;
      verdicts = verdicts;
      waiting = waiting;
      limit = limit;
    }

-- A world with nothing used of the same tables.
abbrev pub emptied : {V : Type 0} → World V → World V
emptied w = new_world w.size w.cards w.transactions w.lines w.verdicts w.waiting w.limit

-- Setting up with the size, the tables and the carrier of a world leaves nothing used: 2, then 1.
abbrev pub sets_up : {V : Type 0} → World V → Reply (Unit {0}) V
sets_up w =
    cond (size_allowed w.size)
    (with_tables w (accepts tt (emptied w)))
    (declines_with (number 2) w)

abbrev pub with_card : {V : Type 0} → World V → Card V → World V
with_card w card =
    record {
      size = w.size;
      declared = w.declared + 1;
      started = w.started;
      landed = w.landed;
      recorded = w.recorded;
      counters = w.counters;
      put = w.put;
      delivered = w.delivered;
      cards = slice_set w.cards w.declared card;
      transactions = w.transactions;
      lines = w.lines;
      verdicts = w.verdicts;
      waiting = w.waiting;
      limit = w.limit;
    }

-- Declaring a card answers its number: 1, then 12 if 64 are declared, then 3.
abbrev pub declares : {V : Type 0} → World V → Card V → Reply ℕ V
declares w card =
    with_tables w
    (cond (nat_le 64 w.declared) (declines_with (number 12) w)
    (cond (card_present w.size card) (accepts w.declared (with_card w card)) (declines_with (number 3) w)))

-- 1, then 13 if the carrier has messages or a limit below 28.
abbrev pub opens : {V : Type 0} → World V → Reply (Unit {0}) V
opens w = with_tables w (cond (nat_lt 0 (length w.waiting) || nat_lt w.limit 28) (declines_with (number 13) w) (accepts tt w))

-- The number and the time of a transaction that was started.
pub record Started : Type 0 where
  pub number : ℕ
  pub time : ℕ

abbrev pub start_room : {V : Type 0} → World V → ℕ → start_rooms.Room
start_room w site = record { counter = counter_at w site; started = w.started; lines = line_share w.size - landed_at w site; places = free_places w }

-- What a start leaves: its lines at the origin, but for those denied there, and its messages.
abbrev pub start_change : {V : Type 0} → Rules V → World V → Order V → Transaction V → Change V
start_change rules w order x =
    record {
      site = order.origin;
      counter = counter_at w order.origin + 1;
      lines = start_landing (rules.modes order.rule) x;
      verdicts = [];
      messages = start_messages w.size (declared_cards w) order.origin (rules.modes order.rule) x;
    }

abbrev pub starts_as : {V : Type 0} → Rules V → World V → Order V → Result (Transaction V) SiteFault → Reply Started V
starts_as rules w order (Err fault) = declines_with (site_told fault) w
starts_as rules w order (Ok x) =
    accepts (record { number = w.started + 1; time = x.time })
    (changed w w.waiting w.delivered (w.started + 1) (slice_set w.transactions w.started x) (start_change rules w order x))

-- The transaction that a start makes at a site, or why it makes none.
abbrev pub start_outcome : {V : Type 0} → Rules V → World V → Order V → Result (Transaction V) SiteFault
start_outcome rules w order =
    start_answer (rules.modes order.rule) (rules.answer order.rule) (site_in w order.origin) order (start_room w order.origin)

-- Starting: 1, 4, then what the site refuses.
abbrev pub starts : {V : Type 0} → Rules V → World V → Order V → Reply Started V
starts rules w order =
    with_tables w (cond (nat_lt order.origin w.size.sites) (starts_as rules w order (start_outcome rules w order)) (declines_with (number 4) w))

-- The world without the message at a place, which is not counted.
abbrev pub without : {V : Type 0} → World V → ℕ → World V
without w place =
    record {
      size = w.size;
      declared = w.declared;
      started = w.started;
      landed = w.landed;
      recorded = w.recorded;
      counters = w.counters;
      put = w.put;
      delivered = w.delivered;
      cards = w.cards;
      transactions = w.transactions;
      lines = w.lines;
      verdicts = w.verdicts;
      waiting = remove w.waiting place;
      limit = w.limit;
    }

abbrev pub deliver_room : {V : Type 0} → World V → ℕ → deliver_rooms.Room
deliver_room w site =
    record { line = nat_lt (landed_at w site) (line_share w.size); verdict = nat_lt (recorded_at w site) (verdict_share w.size) }

-- The place of the receiver's own transaction that a message is about.
abbrev pub own_of : {V : Type 0} → Rules V → World V → Message V → Option ℕ
own_of rules w m = own_place w.size (declared_cards w) rules.modes m.to m.line.time (started_ones w)

-- What a delivery leaves at the receiver.
abbrev pub deliver_change : {V : Type 0} → World V → Message V → Effect V → Change V
deliver_change w m e =
    record {
      site = m.to;
      counter = raised (counter_at w m.to) m.line.time;
      lines = landing e m;
      verdicts = recording e m;
      messages = replies e m;
    }

abbrev pub delivers_as : {V : Type 0} → Rules V → World V → ℕ → Message V → Result (Effect V) SiteFault → Reply (Message V) V
delivers_as rules w place m (Err fault) = declines_with (site_told fault) (without w place)
delivers_as rules w place m (Ok e) =
    accepts m
    (changed w (remove w.waiting place) (stopped w.delivered 1) w.started (remarked e (own_of rules w m) w.transactions) (deliver_change w m e))

-- What a message does at its receiver, or that it is foreign.
abbrev pub deliver_outcome : {V : Type 0} → Rules V → World V → Message V → Result (Effect V) SiteFault
deliver_outcome rules w m = delivery (site_in w m.to) (deliver_room w m.to) (at_place (started_ones w) (own_of rules w m)) m

abbrev pub delivers_at : {V : Type 0} → Rules V → World V → ℕ → Option (Message V) → Reply (Message V) V
delivers_at rules w place None = declines_with (number 16) w
delivers_at rules w place (Some m) = delivers_as rules w place m (deliver_outcome rules w m)

-- Delivering the message at the place that the carrier chose: 1, 16 if nothing waits, 17.
abbrev pub delivers : {V : Type 0} → Rules V → World V → ℕ → Reply (Message V) V
delivers rules w place = with_tables w (delivers_at rules w place (slice_get w.waiting place))

abbrev pub if_there : {V : Type 0} → Rules V → World V → Option (Transaction V) → Option (Transaction V)
if_there rules w None = None
if_there rules w (Some x) = cond (transaction_present w.size (declared_cards w) (length (rules.modes x.rule)) x) (Some x) None

abbrev pub numbered_one : {V : Type 0} → List (Transaction V) → ℕ → Option (Transaction V)
numbered_one xs n = cond (n == 0) None (slice_get xs (n - 1))

-- The transaction with a number, from 1, if its record is in range.
abbrev pub transaction_at : {V : Type 0} → Rules V → World V → ℕ → Option (Transaction V)
transaction_at rules w n = if_there rules w (numbered_one (started_ones w) n)

abbrev pub settle_outcome : {V : Type 0} → Rules V → World V → Transaction V → Result Outcome SiteFault
settle_outcome rules w x =
    let s = site_of x.time in
    settlement (site_in w s) (nat_lt (recorded_at w s) (verdict_share w.size)) (free_places w) (rules.modes x.rule) x

-- What a settlement leaves at the origin: the verdict, and the messages that tell it.
abbrev pub settle_change : {V : Type 0} → Rules V → World V → Transaction V → Outcome → Change V
settle_change rules w x outcome =
    let s = site_of x.time in
    record {
      site = s;
      counter = counter_at w s;
      lines = [];
      verdicts = record { time = x.time; outcome = outcome } ∷ [];
      messages = verdict_messages (site_in w s) (rules.modes x.rule) x outcome;
    }

abbrev pub settles_as : {V : Type 0} → Rules V → World V → Transaction V → Result Outcome SiteFault → Reply Outcome V
settles_as rules w x (Err fault) = declines_with (site_told fault) w
settles_as rules w x (Ok outcome) = accepts outcome (changed w w.waiting w.delivered w.started w.transactions (settle_change rules w x outcome))

abbrev pub settles_at : {V : Type 0} → Rules V → World V → Option (Transaction V) → Reply Outcome V
settles_at rules w None = declines_with (number 5) w
settles_at rules w (Some x) = settles_as rules w x (settle_outcome rules w x)

-- Settling the transaction with a number: 1, 5, then what its origin refuses.
abbrev pub settles : {V : Type 0} → Rules V → World V → ℕ → Reply Outcome V
settles rules w n = with_tables w (settles_at rules w (transaction_at rules w n))

-- A transaction is undecided if it is in range and its origin knows no verdict.
abbrev pub undecided : {V : Type 0} → Rules V → World V → Transaction V → Bool
undecided rules w x =
    transaction_present w.size (declared_cards w) (length (rules.modes x.rule)) x && not (is_some (known (site_in w (site_of x.time)) x.time))

-- Closing: 1, then 20 if a message waits or a transaction is undecided.
abbrev pub closes : {V : Type 0} → Rules V → World V → Reply (Unit {0}) V
closes rules w =
    with_tables w (cond (length w.waiting == 0 && none (undecided rules w) (started_ones w)) (accepts tt w) (declines_with (number 20) w))

-- A site without a replica of a card shows none.
abbrev pub shown : {V : Type 0} → ℕ → Option (Card V) → Option (Version V) → Result (Option V) Refusal
shown site None version = Err (number 8)
shown site (Some card) None = Ok None
shown site (Some card) (Some version) = Ok (cond (holds card.holders site) (Some version.value) None)

-- The value questions: 1, 4, 8.
abbrev pub value_question : {V : Type 0} → (Site V → ℕ → Option (Version V)) → World V → ℕ → ℕ → Result (Option V) Refusal
value_question ask w site card =
    cond (too_short w) (Err (number 1))
    (cond (nat_lt site w.size.sites) (shown site (card_at w.size (declared_cards w) card) (ask (site_in w site) card)) (Err (number 4)))

abbrev pub current_question : {V : Type 0} → World V → ℕ → ℕ → Result (Option V) Refusal
current_question w site card = value_question current w site card

abbrev pub committed_question : {V : Type 0} → World V → ℕ → ℕ → Result (Option V) Refusal
committed_question w site card = value_question committed_value w site card

-- All eight counters, 0 for a site that is absent.
abbrev pub counters_question : {V : Type 0} → World V → List ℕ
counters_question w = map (λ s. cond (nat_lt s w.size.sites) (counter_at w s) 0) (range_with_len 0 8)

-- Messages put and delivered.
abbrev pub counts_question : {V : Type 0} → World V → ℕ × ℕ
counts_question w = (w.put, w.delivered)
