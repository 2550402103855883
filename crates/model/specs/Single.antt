-- The single-file run: committed transactions one at a time by rising time, from the opening values and the calls with
-- their answers alone. Assumes nothing.
use Rattle.std.specs.Prelude.{ℕ, cond, List, [], ◌∷◌, ◌++◌, map, drop, Some, None, fold, filter, Option, ◌==◌, nat_le, slice_index_or, slice_set}
use Rattle.terms.specs.declared.outcome.Outcome.{Outcome}
use Rattle.terms.specs.Few.{few_list}
use Rattle.terms.specs.Modes.{reads, writes}
use Rattle.book.specs.Meaning.{Answer, declines, gives}
use Rattle.knowledge.specs.Knowledge.{says_commit}
use Rattle.model.specs.Rules.{Rules}
use Rattle.model.specs.Runs.{Event, start_accepted, start_declined, delivery_accepted, delivery_declined, settle_accepted, settle_declined, close_accepted, close_declined}

-- What the list of calls tells of a transaction: number, time, rule, argument and cards, what it read and wrote in the
-- sitting, and its outcome, none while it is open.
pub record Noted (V : Type 0) : Type 0 where
  pub number : ℕ
  pub time : ℕ
  pub rule : ℕ
  pub argument : V
  pub cards : List ℕ
  pub read : List V
  pub written : List V
  pub outcome : Option Outcome

-- From open to committed or aborted.
abbrev pub turned : Outcome → Option Outcome → Option Outcome
turned outcome None = Some outcome
turned outcome (Some before) = Some before

abbrev pub decided : {V : Type 0} → ℕ → Outcome → Noted V → Noted V
decided n outcome x =
    record {
      number = x.number;
      time = x.time;
      rule = x.rule;
      argument = x.argument;
      cards = x.cards;
      read = x.read;
      written = x.written;
      outcome = cond (x.number == n) (turned outcome x.outcome) x.outcome;
    }

-- An accepted start opens a transaction, an accepted settle decides one; everything else changes nothing.
abbrev pub note : {V : Type 0} → List (Noted V) → Event V → List (Noted V)
note xs (start_accepted order started read written) =
    xs ++ record { number = started.number; time = started.time; rule = order.rule; argument = order.argument; cards = few_list order.cards; read = read; written = written; outcome = None } ∷ []
note xs (start_declined order f) = xs
note xs (delivery_accepted m) = xs
note xs (delivery_declined f) = xs
note xs (settle_accepted n outcome) = map (decided n outcome) xs
note xs (settle_declined n f) = xs
note xs close_accepted = xs
note xs (close_declined f) = xs

abbrev pub notes : {V : Type 0} → List (Event V) → List (Noted V)
notes events = fold note [] events

-- One of some before the first that has no lower time.
abbrev pub put_in_order : {X : Type 0} → (X → ℕ) → X → List X → List X
put_in_order time x [] = x ∷ []
put_in_order time x (y ∷ ys) = cond (nat_le (time x) (time y)) (x ∷ y ∷ ys) (y ∷ put_in_order time x ys)

-- By rising time; equal times in the order in which they stood.
abbrev pub by_time : {X : Type 0} → (X → ℕ) → List X → List X
by_time time [] = []
by_time time (x ∷ xs) = put_in_order time x (by_time time xs)

-- The committed transactions by rising time.
abbrev pub committed_ones : {V : Type 0} → List (Event V) → List (Noted V)
committed_ones events = by_time (λ x. x.time) (filter (λ x. says_commit x.outcome) (notes events))

-- The present values of the cards that lines of modes 1 and 3 read, in line order; a card that does not exist, which no
-- accepted start names, would read as the argument.
abbrev pub values_now : {V : Type 0} → List V → V → List ℕ → List ℕ → List V
values_now values argument [] cards = []
values_now values argument (mode ∷ modes) [] = []
values_now values argument (mode ∷ modes) (card ∷ cards) =
    cond (reads mode) (slice_index_or values card argument ∷ values_now values argument modes cards) (values_now values argument modes cards)

abbrev pub with_first : {V : Type 0} → List V → ℕ → List V → List V
with_first values card [] = values
with_first values card (v ∷ vs) = slice_set values card v

-- The values after those written went to the cards of modes 2 and 3, in line order.
abbrev pub values_with : {V : Type 0} → List V → List ℕ → List ℕ → List V → List V
values_with values [] cards written = values
values_with values (mode ∷ modes) [] written = values
values_with values (mode ∷ modes) (card ∷ cards) written =
    cond (writes mode) (values_with (with_first values card written) modes cards (drop 1 written)) (values_with values modes cards written)

-- What the book answers to a transaction that is run alone on some values.
abbrev pub answer_alone : {V : Type 0} → Rules V → List V → Noted V → Answer V
answer_alone rules values x = rules.answer x.rule x.argument (values_now values x.argument (rules.modes x.rule) x.cards)

abbrev pub values_given : {V : Type 0} → Rules V → List V → Noted V → Answer V → List V
values_given rules values x (declines code) = values
values_given rules values x (gives written) = values_with values (rules.modes x.rule) x.cards written

-- The values after a transaction was run alone; what the book declines writes nothing.
abbrev pub run_alone : {V : Type 0} → Rules V → List V → Noted V → List V
run_alone rules values x = values_given rules values x (answer_alone rules values x)

-- The values after some transactions were run one at a time.
abbrev pub run_singly : {V : Type 0} → Rules V → List V → List (Noted V) → List V
run_singly rules values xs = fold (run_alone rules) values xs
