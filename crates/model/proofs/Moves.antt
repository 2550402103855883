-- The accepted calls as the proof sees them: what is known of each, and the state that it leaves. Assumes nothing.
use Rattle.std.proofs.Common.{◌≡◌, ℕ, ◌+◌, ◌-◌, ◌<◌, ◌≤◌, true, false, ◌⊎◌, List, [], ◌∷◌, ◌++◌, length, set, Some, None}
use Rattle.std.specs.List.{slice_get, remove}
use Rattle.terms.specs.declared.kind.Kind.{Kind}
use Rattle.terms.specs.declared.kind.Kind.TheVariants as kind
use Rattle.terms.specs.declared.outcome.Outcome.{Outcome}
use Rattle.terms.specs.Few.{few_list}
use Rattle.terms.specs.Kinds.{kind_number, verdict_kind}
use Rattle.terms.specs.Times.{time_at, site_of}
use Rattle.book.specs.Meaning.{gives, ModesKnown, written_lines}
use Rattle.records.specs.declared.message.Message.{Message}
use Rattle.records.specs.declared.transaction.Transaction.{Transaction}
use Rattle.records.specs.Present.{time_in_range, transaction_present}
use Rattle.knowledge.specs.Check.{denied}
use Rattle.knowledge.specs.Knowledge.{aborted}
use Rattle.starting.specs.declared.start.Order.{Order}
use Rattle.starting.specs.Drafting.{cards_fault, drafted}
use Rattle.starting.specs.Landing.{start_landing}
use Rattle.starting.specs.Reading.{values_read}
use Rattle.starting.specs.Starting.{start_messages}
use Rattle.delivering.specs.declared.effect.Effect.{Effect}
use Rattle.delivering.specs.declared.effect.Effect.TheVariants.{Nothing, Lands, Confirms, Denies, Marks, Records}
use Rattle.delivering.specs.Delivery.{raised}
use Rattle.delivering.specs.Effects.{landing, recording, replies}
use Rattle.delivering.specs.Marks.{transaction_marked}
use Rattle.settling.specs.Settling.{due, verdict_messages}
use Rattle.steps.specs.Numbers.{stopped}
use Rattle.model.specs.Rules.{Rules}
use Rattle.model.specs.World.{Change}
use Rattle.model.proofs.State.{State, knows_at, told, moved}
use Rattle.model.proofs.Lots.{primary}

module _ {V : Type 0} (rules : Rules V) (S : State V) where
  -- What a start at this state hands to its rule.
  abbrev pub reads_of : Order V → List V
  reads_of order = values_read (knows_at S order.origin) order.argument (rules.modes order.rule) (few_list order.cards)

  -- An accepted start.
  pub record Starting (order : Order V) (x : Transaction V) (written : List V) : Type 0 where
    pub here : order.origin < S.size.sites
    pub not_full : length S.transactions < S.size.transactions
    pub time_is : x.time ≡ time_at (S.counter order.origin + 1) order.origin
    pub rule_is : x.rule ≡ order.rule
    pub some_lines : 0 < length (rules.modes order.rule)
    pub few_lines : length (rules.modes order.rule) ≤ 4
    pub known_modes : ModesKnown (rules.modes order.rule)
    pub one_each : length written ≡ written_lines (rules.modes order.rule)
    pub paired : length (rules.modes order.rule) ≡ length (few_list order.cards)
    pub faultless : cards_fault S.size S.cards order.origin [] 1 (few_list order.cards) ≡ None
    pub gave : rules.answer order.rule order.argument (reads_of order) ≡ gives written
    pub entries_are : few_list x.entries ≡ drafted (knows_at S order.origin) order.origin x.time order.argument 1 (rules.modes order.rule) (few_list order.cards) written

  abbrev pub start_moves : Order V → Transaction V → Change V
  start_moves order x =
      record {
        site = order.origin;
        counter = S.counter order.origin + 1;
        lines = start_landing (rules.modes order.rule) x;
        verdicts = [];
        messages = start_messages S.size S.cards order.origin (rules.modes order.rule) x;
      }

  abbrev pub started_state : Order V → Transaction V → State V
  started_state order x = moved S S.waiting S.delivered (S.transactions ++ x ∷ []) (start_moves order x)

  -- An accepted delivery: what is known of the message, its effect, and the transactions that it leaves.
  pub data Delivering (m : Message V) : Effect V → List (Transaction V) → Type 0 where
    line_dropped : m.kind ≡ 1 → aborted (knows_at S m.to) m.line.time ≡ true → Delivering m Nothing S.transactions
    line_landed : m.kind ≡ 1 → aborted (knows_at S m.to) m.line.time ≡ false → (primary S m.line ≡ m.to → ⊥) → Delivering m Lands S.transactions
    line_confirmed : m.kind ≡ 1 → aborted (knows_at S m.to) m.line.time ≡ false → primary S m.line ≡ m.to → denied (knows_at S m.to) m.line ≡ false → Delivering m Confirms S.transactions
    line_denied : m.kind ≡ 1 → aborted (knows_at S m.to) m.line.time ≡ false → primary S m.line ≡ m.to → denied (knows_at S m.to) m.line ≡ true → Delivering m Denies S.transactions
    line_marked : (k : Kind) → (k ≡ kind.Confirm) ⊎ (k ≡ kind.Deny) → m.kind ≡ kind_number k → (place : ℕ) (x : Transaction V) → slice_get S.transactions place ≡ Some x → x.time ≡ m.line.time → Delivering m (Marks (transaction_marked k m.line.number x)) (set S.transactions place (transaction_marked k m.line.number x))
    verdict_known : (outcome before : Outcome) → m.kind ≡ kind_number (verdict_kind outcome) → told S m.to m.line.time ≡ Some before → Delivering m Nothing S.transactions
    verdict_recorded : (outcome : Outcome) → m.kind ≡ kind_number (verdict_kind outcome) → told S m.to m.line.time ≡ None → Delivering m (Records outcome) S.transactions

  -- Where the message waited, and that it names sites and a time of the sitting.
  pub record Taking (place : ℕ) (m : Message V) : Type 0 where
    pub waited : slice_get S.waiting place ≡ Some m
    pub from_there : m.from < S.size.sites
    pub to_there : m.to < S.size.sites
    pub ranged : time_in_range S.size m.line.time ≡ true

  abbrev pub deliver_moves : Message V → Effect V → Change V
  deliver_moves m e =
      record {
        site = m.to;
        counter = raised (S.counter m.to) m.line.time;
        lines = landing e m;
        verdicts = recording e m;
        messages = replies e m;
      }

  abbrev pub delivered_state : ℕ → Message V → Effect V → List (Transaction V) → State V
  delivered_state place m e xs = moved S (remove S.waiting place) (stopped S.delivered 1) xs (deliver_moves m e)

  -- An accepted settlement of the transaction with a number.
  pub record Settling (n : ℕ) (x : Transaction V) (outcome : Outcome) : Type 0 where
    pub numbered : 1 ≤ n
    pub found : slice_get S.transactions (n - 1) ≡ Some x
    pub present : transaction_present S.size S.cards (length (rules.modes x.rule)) x ≡ true
    pub undecided : told S (site_of x.time) x.time ≡ None
    pub due_is : due (knows_at S (site_of x.time)) (rules.modes x.rule) x ≡ Some outcome

  abbrev pub settle_moves : Transaction V → Outcome → Change V
  settle_moves x outcome =
      record {
        site = site_of x.time;
        counter = S.counter (site_of x.time);
        lines = [];
        verdicts = record { time = x.time; outcome = outcome } ∷ [];
        messages = verdict_messages (knows_at S (site_of x.time)) (rules.modes x.rule) x outcome;
      }

  abbrev pub settled_state : Transaction V → Outcome → State V
  settled_state x outcome = moved S S.waiting S.delivered S.transactions (settle_moves x outcome)
