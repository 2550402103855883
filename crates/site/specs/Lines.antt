-- A transaction's lines, and where they go. Assumes nothing.
use Rattle.std.specs.Prelude.{ℕ, ◌+◌, Bool, false, cond, not, ◌&&◌, ◌||◌, List, [], ◌∷◌, Some, None, filter, Option, ◌==◌}
use Rattle.std.specs.List.{range_with_len}
use Rattle.terms.specs.Few.{few_list}
use Rattle.terms.specs.Modes.{writes}
use Rattle.records.specs.declared.card.Card.{Card}
use Rattle.records.specs.declared.line.Line.{Line}
use Rattle.records.specs.declared.size.Size.{Size}
use Rattle.records.specs.declared.transaction.Entry.{Entry}
use Rattle.records.specs.declared.transaction.Transaction.{Transaction}
use Rattle.records.specs.Present.{holds, card_at}

-- An entry of a transaction as the line that it is, with its number and its rule's mode.
abbrev pub line_of : {V : Type 0} → ℕ → ℕ → ℕ → Entry V → Line V
line_of time number mode e = record { time = time; number = number; card = e.card; mode = mode; read = e.read; value = e.value }

abbrev pub lines_from : {V : Type 0} → ℕ → ℕ → List ℕ → List (Entry V) → List (Line V)
lines_from time number [] es = []
lines_from time number (mode ∷ modes) [] = []
lines_from time number (mode ∷ modes) (e ∷ es) = line_of time number mode e ∷ lines_from time (number + 1) modes es

-- The lines of a transaction whose rule has these modes, numbered from 1.
abbrev pub lines_of : {V : Type 0} → List ℕ → Transaction V → List (Line V)
lines_of modes x = lines_from x.time 1 modes (few_list x.entries)

-- A site holds a card, if there is one.
abbrev pub is_holder : {V : Type 0} → Option (Card V) → ℕ → Bool
is_holder None site = false
is_holder (Some card) site = holds card.holders site

-- A line goes from its origin to every other holder of its card if it writes, else to a primary elsewhere.
abbrev pub goes_to : {V : Type 0} → ℕ → ℕ → Option (Card V) → ℕ → Bool
goes_to origin mode None site = false
goes_to origin mode (Some card) site = not (site == origin) && cond (writes mode) (holds card.holders site) (site == card.primary)

-- The sites that a test picks, rising.
abbrev pub picked : (ℕ → Bool) → List ℕ
picked test = filter test (range_with_len 0 8)

abbrev pub is_sent : {V : Type 0} → Size → List (Card V) → ℕ → List (Line V) → ℕ → Bool
is_sent size cards origin [] site = false
is_sent size cards origin (l ∷ ls) site = goes_to origin l.mode (card_at size cards l.card) site || is_sent size cards origin ls site

-- The sites that were sent one of some lines.
abbrev pub sent_sites : {V : Type 0} → Size → List (Card V) → ℕ → List (Line V) → List ℕ
sent_sites size cards origin ls = picked (is_sent size cards origin ls)
