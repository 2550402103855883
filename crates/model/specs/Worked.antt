-- One small sitting, call by call, with the answers worked out from the rules by hand. Assumes nothing.
use Rattle.std.specs.Prelude.{ℕ, ◌+◌, cond, List, [], ◌∷◌, ◌++◌, replicate, Some, None, Ok, Err, fold, Option, Result, ◌==◌, slice_index}
use Rattle.terms.specs.declared.few.Few.TheVariants.{Nothing, One}
use Rattle.terms.specs.declared.outcome.Outcome.TheVariants.{Commit}
use Rattle.terms.specs.declared.fault.Refusal.{Refusal}
use Rattle.terms.specs.Outcomes.{outcome_number}
use Rattle.book.specs.Meaning.{gives}
use Rattle.records.specs.declared.card.Card.{Card}
use Rattle.starting.specs.declared.start.Order.{Order}
use Rattle.model.specs.Rules.{Rules}
use Rattle.model.specs.World.{World}
use Rattle.model.specs.Calls.{new_world, declares, opens, starts, delivers, settles, closes, committed_question, counters_question, counts_question}
use Rattle.model.specs.Replay.{replays}

-- Rule 1 sets the card, any other adds to it.
abbrev pub small_book : Rules ℕ
small_book =
    record {
      modes = λ rule. cond (rule == 1) (2 ∷ []) (3 ∷ []);
      answer = λ rule argument read. gives (cond (rule == 1) argument (slice_index read 0 + argument) ∷ []);
    }

pub data Asked : Type 0 where
  declare_card : Card ℕ → Asked
  open_it : Asked
  start_on_0 : ℕ → ℕ → ℕ → Asked
  deliver_at : ℕ → Asked
  settle_it : ℕ → Asked
  close_it : Asked
  value_of_0 : ℕ → Asked
  all_counters : Asked
  all_counts : Asked
  replay_into : List ℕ → Asked

-- An answer as numbers: 0 and what is answered, or the refusal's number.
abbrev pub in_numbers : {A : Type 0} → (A → List ℕ) → Result A Refusal → List ℕ
in_numbers tell (Ok a) = 0 ∷ tell a
in_numbers tell (Err f) = f.number ∷ []

abbrev pub value_told : Option ℕ → List ℕ
value_told None = []
value_told (Some v) = v ∷ []

-- A start at a site of a rule with an argument, on card 0.
abbrev pub order_on_0 : ℕ → ℕ → ℕ → Order ℕ
order_on_0 site rule argument = record { origin = site; rule = rule; argument = argument; cards = One 0 }

abbrev pub answer_to : World ℕ → Asked → List ℕ
answer_to w (declare_card card) = in_numbers (λ n. n ∷ []) (declares w card).answer
answer_to w open_it = in_numbers (λ _. []) (opens w).answer
answer_to w (start_on_0 site rule argument) = in_numbers (λ s. s.number ∷ s.time ∷ []) (starts small_book w (order_on_0 site rule argument)).answer
answer_to w (deliver_at place) = in_numbers (λ m. m.kind ∷ m.from ∷ m.to ∷ m.line.time ∷ []) (delivers small_book w place).answer
answer_to w (settle_it n) = in_numbers (λ o. outcome_number o ∷ []) (settles small_book w n).answer
answer_to w close_it = in_numbers (λ _. []) (closes small_book w).answer
answer_to w (value_of_0 site) = in_numbers value_told (committed_question w site 0)
answer_to w all_counters = counters_question w
answer_to w all_counts = (counts_question w).0 ∷ (counts_question w).1 ∷ []
answer_to w (replay_into table) = in_numbers (λ ran. ran ∷ []) (replays small_book w table).answer ++ (replays small_book w table).table

abbrev pub world_left : World ℕ → Asked → World ℕ
world_left w (declare_card card) = (declares w card).world
world_left w open_it = (opens w).world
world_left w (start_on_0 site rule argument) = (starts small_book w (order_on_0 site rule argument)).world
world_left w (deliver_at place) = (delivers small_book w place).world
world_left w (settle_it n) = (settles small_book w n).world
world_left w close_it = w
world_left w (value_of_0 site) = w
world_left w all_counters = w
world_left w all_counts = w
world_left w (replay_into table) = w

abbrev pub answers : World ℕ → List Asked → List (List ℕ)
answers w [] = []
answers w (a ∷ more) = answer_to w a ∷ answers (world_left w a) more

abbrev pub world_after_all : World ℕ → List Asked → World ℕ
world_after_all w calls = fold world_left w calls

-- Two sites, T 8, tables of just the length, filled with records that count for nothing.
abbrev pub small_world : World ℕ
small_world =
    new_world (record { sites = 2; transactions = 8 }) (replicate 64 (record { opening = 0; holders = 0; primary = 0 }))
    (replicate 8 (record { time = 0; rule = 0; argument = 0; entries = Nothing })) (replicate 64 (record { time = 0; number = 0; card = 0; mode = 0; read = 0; value = 0 }))
    (replicate 16 (record { time = 0; outcome = Commit })) [] 64

-- A card of both sites with primary 0 and opening value 10. Site 1 adds 5 at time 9; site 0 sets 7 at time 8, which lies
-- inside the interval from 0 to 9. The set is confirmed at home and commits; the addition is denied and aborts. A replay
-- runs the one that committed, and leaves what lies behind the declared card.
abbrev pub asked : List Asked
asked =
    declare_card (record { opening = 10; holders = 3; primary = 0 })
    ∷ open_it
    ∷ start_on_0 1 2 5
    ∷ start_on_0 0 1 7
    ∷ deliver_at 0
    ∷ settle_it 2
    ∷ deliver_at 2
    ∷ deliver_at 0
    ∷ deliver_at 0
    ∷ settle_it 1
    ∷ close_it
    ∷ deliver_at 0
    ∷ close_it
    ∷ value_of_0 1
    ∷ all_counters
    ∷ all_counts
    ∷ replay_into (0 ∷ 5 ∷ [])
    ∷ []

abbrev pub expected : List (List ℕ)
expected =
    (0 ∷ 0 ∷ [])
    ∷ (0 ∷ [])
    ∷ (0 ∷ 1 ∷ 9 ∷ [])
    ∷ (0 ∷ 2 ∷ 8 ∷ [])
    ∷ (0 ∷ 1 ∷ 1 ∷ 0 ∷ 9 ∷ [])
    ∷ (0 ∷ 1 ∷ [])
    ∷ (0 ∷ 4 ∷ 0 ∷ 1 ∷ 8 ∷ [])
    ∷ (0 ∷ 1 ∷ 0 ∷ 1 ∷ 8 ∷ [])
    ∷ (0 ∷ 3 ∷ 0 ∷ 1 ∷ 9 ∷ [])
    ∷ (0 ∷ 2 ∷ [])
    ∷ (20 ∷ [])
    ∷ (0 ∷ 5 ∷ 1 ∷ 0 ∷ 9 ∷ [])
    ∷ (0 ∷ [])
    ∷ (0 ∷ 7 ∷ [])
    ∷ (1 ∷ 1 ∷ 0 ∷ 0 ∷ 0 ∷ 0 ∷ 0 ∷ 0 ∷ [])
    ∷ (5 ∷ 5 ∷ [])
    ∷ (0 ∷ 1 ∷ 7 ∷ 5 ∷ [])
    ∷ []
