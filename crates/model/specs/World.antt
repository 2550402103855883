-- An open sitting: its numbers, its four tables and its carrier. Assumes nothing.
use Rattle.std.specs.Prelude.{ℕ, ◌+◌, ◌-◌, ◌*◌, Bool, ◌||◌, List, ◌++◌, length, take, nat_lt, slice_index, slice_set}
use Rattle.records.specs.declared.card.Card.{Card}
use Rattle.records.specs.declared.line.Line.{Line}
use Rattle.records.specs.declared.message.Message.{Message}
use Rattle.records.specs.declared.size.Size.{Size}
use Rattle.records.specs.declared.transaction.Transaction.{Transaction}
use Rattle.records.specs.declared.verdict.Verdict.{Verdict}
use Rattle.knowledge.specs.Knowledge.{Site}
use Rattle.steps.specs.Numbers.{stopped}
use Rattle.model.specs.Tables.{used_of, written_at}

pub record World (V : Type 0) : Type 0 where
  -- n and T
  pub size : Size
  -- used records: cards, transactions, and by site lines and verdicts
  pub declared : ℕ
  pub started : ℕ
  pub landed : List ℕ
  pub recorded : List ℕ
  -- the counter of each site
  pub counters : List ℕ
  -- messages put and delivered
  pub put : ℕ
  pub delivered : ℕ
  -- the tables
  pub cards : List (Card V)
  pub transactions : List (Transaction V)
  pub lines : List (Line V)
  pub verdicts : List Verdict
  -- the carrier
  pub waiting : List (Message V)
  pub limit : ℕ

-- Of the line table each site has 4 × T records, of the verdict table T.
abbrev pub line_share : Size → ℕ
line_share size = 4 * size.transactions

abbrev pub verdict_share : Size → ℕ
verdict_share size = size.transactions

-- A table is too short: fewer than 64 cards, T transactions, n × 4 × T lines or n × T verdicts.
abbrev pub too_short : {V : Type 0} → World V → Bool
too_short w =
    nat_lt (length w.cards) 64
    || nat_lt (length w.transactions) w.size.transactions
    || nat_lt (length w.lines) (w.size.sites * line_share w.size)
    || nat_lt (length w.verdicts) (w.size.sites * verdict_share w.size)

abbrev pub declared_cards : {V : Type 0} → World V → List (Card V)
declared_cards w = take w.declared w.cards

abbrev pub started_ones : {V : Type 0} → World V → List (Transaction V)
started_ones w = take w.started w.transactions

abbrev pub counter_at : {V : Type 0} → World V → ℕ → ℕ
counter_at w site = slice_index w.counters site

abbrev pub landed_at : {V : Type 0} → World V → ℕ → ℕ
landed_at w site = slice_index w.landed site

abbrev pub recorded_at : {V : Type 0} → World V → ℕ → ℕ
recorded_at w site = slice_index w.recorded site

-- What a site knows: its own used records, beside the size and the declared cards.
abbrev pub site_in : {V : Type 0} → World V → ℕ → Site V
site_in w site =
    record {
      size = w.size;
      cards = declared_cards w;
      lines = used_of w.lines (line_share w.size) site (landed_at w site);
      verdicts = used_of w.verdicts (verdict_share w.size) site (recorded_at w site);
    }

-- How many messages the carrier could still take.
abbrev pub free_places : {V : Type 0} → World V → ℕ
free_places w = w.limit - length w.waiting

-- What a step leaves at one site: its counter, the lines and verdicts behind those that it had, and the messages put.
pub record Change (V : Type 0) : Type 0 where
  pub site : ℕ
  pub counter : ℕ
  pub lines : List (Line V)
  pub verdicts : List Verdict
  pub messages : List (Message V)

-- The world after a change at one site, where the messages that wait, the count of those delivered and the transactions
-- are as given.
abbrev pub changed : {V : Type 0} → World V → List (Message V) → ℕ → ℕ → List (Transaction V) → Change V → World V
changed w waiting delivered started transactions c =
    record {
      size = w.size;
      declared = w.declared;
      started = started;
      landed = slice_set w.landed c.site (landed_at w c.site + length c.lines);
      recorded = slice_set w.recorded c.site (recorded_at w c.site + length c.verdicts);
      counters = slice_set w.counters c.site c.counter;
      put = stopped w.put (length c.messages);
      delivered = delivered;
      cards = w.cards;
      transactions = transactions;
      lines = written_at w.lines (c.site * line_share w.size + landed_at w c.site) c.lines;
      verdicts = written_at w.verdicts (c.site * verdict_share w.size + recorded_at w c.site) c.verdicts;
      waiting = waiting ++ c.messages;
      limit = w.limit;
    }
