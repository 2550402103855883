-- What the list of calls tells of each transaction is what its record and its origin tell; what it read came from the
-- opening values or from a transaction started. Assumes nothing.
use Rattle.std.proofs.Common.{◌≡◌, ℕ, ◌+◌, true, cond, ◌⊎◌, List, [], ◌∷◌, map, Some, None, Option}
use Rattle.terms.specs.Few.{few_list}
use Rattle.terms.specs.Lists.{In}
use Rattle.terms.specs.Modes.{reads, writes}
use Rattle.terms.specs.Times.{site_of}
use Rattle.book.specs.Meaning.{gives}
use Rattle.records.specs.declared.card.Card.{Card}
use Rattle.records.specs.declared.transaction.Entry.{Entry}
use Rattle.records.specs.declared.transaction.Transaction.{Transaction}
use Rattle.records.specs.Present.{card_at}
use Rattle.model.specs.Rules.{Rules}
use Rattle.model.specs.Single.{Noted}
use Rattle.model.proofs.State.{State, told}
use Rattle.model.proofs.Lots.{Lot, lots, origin, Goes}

-- A line of a transaction started wrote a value to a card at a time, and a site is its origin or was sent it.
pub record WrittenBy {V : Type 0} (rules : Rules V) (S : State V) (site card time : ℕ) (value : V) : Type 0 where
  pub writer : Lot V
  pub noted : In writer (lots rules S)
  pub timed : writer.line.time ≡ time
  pub on_card : writer.line.card ≡ card
  pub does_write : writes writer.line.mode ≡ true
  pub wrote : writer.line.value ≡ value
  pub reached : (origin writer.line ≡ site) ⊎ Goes S writer.line site

abbrev pub opening_of : {V : Type 0} → Option (Card V) → Option V
opening_of None = None
opening_of (Some card) = Some card.opening

-- A value of a card with a time, as a site may have read it.
abbrev pub CameFrom : {V : Type 0} → Rules V → State V → ℕ → ℕ → ℕ → V → Type 0
CameFrom rules S site card time value = ((time ≡ 0) × (opening_of (card_at S.size S.cards card) ≡ Some value)) ⊎ WrittenBy rules S site card time value

-- The values read, one for each line that reads, in line order.
abbrev pub ReadAs : {V : Type 0} → Rules V → State V → ℕ → List ℕ → List (Entry V) → List V → Type 0
ReadAs rules S site [] es vs = vs ≡ []
ReadAs rules S site (mode ∷ modes) [] vs = vs ≡ []
ReadAs {V} rules S site (mode ∷ modes) (e ∷ es) vs =
    cond (reads mode) ((v : V) × (rest : List V) × (vs ≡ v ∷ rest) × CameFrom rules S site e.card e.read v × ReadAs rules S site modes es rest) (ReadAs rules S site modes es vs)

-- The values written, in line order.
abbrev pub values_written : {V : Type 0} → List ℕ → List (Entry V) → List V
values_written [] es = []
values_written (mode ∷ modes) [] = []
values_written (mode ∷ modes) (e ∷ es) = cond (writes mode) (e.value ∷ values_written modes es) (values_written modes es)

pub record NotedAs {V : Type 0} (rules : Rules V) (S : State V) (n : ℕ) (h : Noted V) (x : Transaction V) : Type 0 where
  pub number_is : h.number ≡ n
  pub time_is : h.time ≡ x.time
  pub rule_is : h.rule ≡ x.rule
  pub cards_are : h.cards ≡ map (λ e. e.card) (few_list x.entries)
  pub outcome_is : h.outcome ≡ told S (site_of x.time) x.time
  pub answered : rules.answer h.rule h.argument h.read ≡ gives h.written
  pub written_are : values_written (rules.modes x.rule) (few_list x.entries) ≡ h.written
  pub read_are : ReadAs rules S (site_of x.time) (rules.modes x.rule) (few_list x.entries) h.read

-- Each transaction noted, from a number on, with its record.
abbrev pub NotedFrom : {V : Type 0} → Rules V → State V → ℕ → List (Noted V) → List (Transaction V) → Type 0
NotedFrom rules S n [] [] = Unit {0}
NotedFrom rules S n [] (x ∷ xs) = ⊥
NotedFrom rules S n (h ∷ hs) [] = ⊥
NotedFrom rules S n (h ∷ hs) (x ∷ xs) = NotedAs rules S n h x × NotedFrom rules S (n + 1) hs xs

pub record History {V : Type 0} (rules : Rules V) (S : State V) (hs : List (Noted V)) : Type 0 where
  pub noted : NotedFrom rules S 1 hs S.transactions
