-- Replay: the committed transactions of a sitting run again by rising time. Assumes nothing.
use Rattle.std.specs.Prelude.{ℕ, ◌+◌, Bool, cond, ◌&&◌, ◌||◌, List, [], ◌∷◌, map, length, Some, None, Ok, Err, fold, filter, Option, Result, nat_lt}
use Rattle.terms.specs.declared.fault.Refusal.{Refusal}
use Rattle.terms.specs.Few.{few_list}
use Rattle.terms.specs.Times.{site_of}
use Rattle.book.specs.Meaning.{Answer, declines, gives}
use Rattle.records.specs.declared.card.Card.{Card}
use Rattle.records.specs.declared.size.Size.{Size}
use Rattle.records.specs.declared.transaction.Transaction.{Transaction}
use Rattle.records.specs.Present.{card_present, transaction_present}
use Rattle.knowledge.specs.Knowledge.{committed}
use Rattle.model.specs.Rules.{Rules}
use Rattle.model.specs.World.{World, too_short, declared_cards, started_ones, site_in}
use Rattle.model.specs.Calls.{number}
use Rattle.model.specs.Single.{by_time, values_now, values_with}

-- The values reached, how many transactions were run, and the code with which the book declined one, which ends it.
pub record Replay (V : Type 0) : Type 0 where
  pub values : List V
  pub ran : ℕ
  pub declined : Option ℕ

abbrev pub cards_of : {V : Type 0} → Transaction V → List ℕ
cards_of x = map (λ e. e.card) (few_list x.entries)

abbrev pub replay_answered : {V : Type 0} → Rules V → Replay V → Transaction V → Answer V → Replay V
replay_answered rules r x (declines code) = record { values = r.values; ran = r.ran; declined = Some code }
replay_answered rules r x (gives written) = record { values = values_with r.values (rules.modes x.rule) (cards_of x) written; ran = r.ran + 1; declined = None }

abbrev pub replay_unless : {V : Type 0} → Rules V → Replay V → Transaction V → Option ℕ → Replay V
replay_unless rules r x (Some code) = r
replay_unless rules r x None = replay_answered rules r x (rules.answer x.rule x.argument (values_now r.values x.argument (rules.modes x.rule) (cards_of x)))

-- One transaction more, unless the book has declined one.
abbrev pub replay_one : {V : Type 0} → Rules V → Replay V → Transaction V → Replay V
replay_one rules r x = replay_unless rules r x r.declined

-- A transaction in range that its origin knows as committed.
abbrev pub is_committed : {V : Type 0} → Rules V → World V → Transaction V → Bool
is_committed rules w x =
    transaction_present w.size (declared_cards w) (length (rules.modes x.rule)) x && committed (site_in w (site_of x.time)) x.time

-- The opening value of each card in range at its number; the entry of any other stays.
abbrev pub with_openings : {V : Type 0} → Size → List (Card V) → List V → List V
with_openings size [] values = values
with_openings size (card ∷ cards) [] = []
with_openings size (card ∷ cards) (v ∷ values) = cond (card_present size card) card.opening v ∷ with_openings size cards values

abbrev pub replayed : {V : Type 0} → Rules V → World V → List V → Replay V
replayed rules w table =
    fold (replay_one rules) (record { values = with_openings w.size (declared_cards w) table; ran = 0; declined = None }) (by_time (λ x. x.time) (filter (is_committed rules w) (started_ones w)))

abbrev pub replay_answer : {V : Type 0} → Replay V → Option ℕ → Result ℕ Refusal
replay_answer r None = Ok r.ran
replay_answer r (Some code) = Err (record { number = 11; line = 0; code = code })

-- The answer of a replay, and the table that it leaves.
pub record ReplayReply (V : Type 0) : Type 0 where
  pub answer : Result ℕ Refusal
  pub table : List V

-- Replaying into a table of values: 1 also if it has fewer than there are cards declared; 11 leaves the values reached.
abbrev pub replays : {V : Type 0} → Rules V → World V → List V → ReplayReply V
replays rules w table =
    cond (too_short w || nat_lt (length table) w.declared) (record { answer = Err (number 1); table = table })
    (let r = replayed rules w table in record { answer = replay_answer r r.declined; table = r.values })
