-- Which used records are in range; any other counts as absent. Assumes nothing.
use Rattle.std.specs.Prelude.{ℕ, ◌/◌, ◌%◌, ◌^◌, Bool, cond, ◌&&◌, List, length, is_some, Some, None, Option, ◌==◌, nat_le, nat_lt}
use Rattle.std.specs.List.{slice_get}
use Rattle.records.specs.declared.card.Card.{Card}
use Rattle.records.specs.declared.line.Line.{Line}
use Rattle.records.specs.declared.size.Size.{Size}
use Rattle.records.specs.declared.transaction.Entry.{Entry}
use Rattle.records.specs.declared.transaction.Transaction.{Transaction}
use Rattle.records.specs.declared.verdict.Verdict.{Verdict}
use Rattle.terms.specs.Few.{few_list}
use Rattle.terms.specs.Lists.{all}
use Rattle.terms.specs.Modes.{mode_of}
use Rattle.terms.specs.Times.{counter_of, site_of}

-- A counter that a transaction may have: 1 to T.
abbrev pub counter_in_range : Size → ℕ → Bool
counter_in_range size counter = nat_lt 0 counter && nat_le counter size.transactions

-- A time that a transaction may have: its counter is in range and its site is there.
abbrev pub time_in_range : Size → ℕ → Bool
time_in_range size time = counter_in_range size (counter_of time) && nat_lt (site_of time) size.sites

-- Bit s of a holder mask is site s.
abbrev pub holds : ℕ → ℕ → Bool
holds holders site = holders / 2 ^ site % 2 == 1

-- A card is absent if its holders are 0 or name an absent site, or its primary is no holder.
abbrev pub card_present : {V : Type 0} → Size → Card V → Bool
card_present size card = nat_lt 0 card.holders && nat_lt card.holders (2 ^ size.sites) && holds card.holders card.primary

abbrev pub if_present : {V : Type 0} → Size → Option (Card V) → Option (Card V)
if_present size None = None
if_present size (Some card) = cond (card_present size card) (Some card) None

-- The card with a number, of those declared, if it is present.
abbrev pub card_at : {V : Type 0} → Size → List (Card V) → ℕ → Option (Card V)
card_at size cards number = if_present size (slice_get cards number)

-- A line is absent if its time, number, card or mode is out of range or its time read is above its time.
abbrev pub line_present : {V : Type 0} → Size → List (Card V) → Line V → Bool
line_present size cards l =
    time_in_range size l.time && nat_le 1 l.number && nat_le l.number 4 && is_some (card_at size cards l.card) && is_some (mode_of l.mode) && nat_le l.read l.time

-- A verdict is absent if its time is out of range.
abbrev pub verdict_present : Size → Verdict → Bool
verdict_present size v = time_in_range size v.time

-- A transaction's entry is out of range if its card is absent or its time read is above the transaction's time.
abbrev pub entry_present : {V : Type 0} → Size → List (Card V) → ℕ → Entry V → Bool
entry_present size cards time e = is_some (card_at size cards e.card) && nat_le e.read time

-- A transaction is absent if its time is out of range, the book lacks its rule (0 lines), it has not one entry for each
-- line of its rule, or one of these is out of range.
abbrev pub transaction_present : {V : Type 0} → Size → List (Card V) → ℕ → Transaction V → Bool
transaction_present size cards lines x =
    time_in_range size x.time && nat_lt 0 lines && length (few_list x.entries) == lines && all (entry_present size cards x.time) (few_list x.entries)
