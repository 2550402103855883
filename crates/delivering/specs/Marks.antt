-- What a reply leaves on the transaction whose line it answers. Assumes nothing.
use Rattle.std.specs.Prelude.{◌≡◌, ℕ, ◌+◌, Bool, false, cond, ◌&&◌, List, [], ◌∷◌, length, Some, None, Option, ◌==◌, nat_le}
use Rattle.terms.specs.Few.{few_list, few_of}
use Rattle.terms.specs.declared.few.Few.{Few}
use Rattle.terms.specs.declared.kind.Kind.{Kind}
use Rattle.terms.specs.declared.kind.Kind.TheVariants.{Line, Confirm, Deny, Commit, Abort}
use Rattle.terms.specs.declared.mark.Mark.{Mark}
use Rattle.terms.specs.declared.mark.Mark.TheVariants.{Asked, Confirmed, Denied}
use Rattle.records.specs.declared.card.Card.{Card}
use Rattle.records.specs.declared.size.Size.{Size}
use Rattle.records.specs.declared.transaction.Entry.{Entry}
use Rattle.records.specs.declared.transaction.Transaction.{Transaction}
use Rattle.records.specs.Present.{transaction_present}

-- Only a mark that is still asked changes, and only by a CONFIRM or a DENY.
abbrev pub marked : Mark → Kind → Mark
marked Asked Line = Asked
marked Asked Confirm = Confirmed
marked Asked Deny = Denied
marked Asked Commit = Asked
marked Asked Abort = Asked
marked Confirmed kind = Confirmed
marked Denied kind = Denied

abbrev pub entry_marked : {V : Type 0} → Kind → Bool → Entry V → Entry V
entry_marked kind here e = record { card = e.card; read = e.read; value = e.value; mark = cond here (marked e.mark kind) e.mark }

-- Some entries, numbered from a number on, with the one of this number marked; the others stay.
abbrev pub marked_from : {V : Type 0} → Kind → ℕ → ℕ → List (Entry V) → List (Entry V)
marked_from kind number from [] = []
marked_from kind number from (e ∷ es) = entry_marked kind (number == from) e ∷ marked_from kind number (from + 1) es

-- The entry with this number, from 1, is marked; the others stay.
abbrev pub entries_marked : {V : Type 0} → Kind → ℕ → Few (Entry V) → Few (Entry V)
entries_marked kind number es = few_of (marked_from kind number 1 (few_list es))

abbrev pub transaction_marked : {V : Type 0} → Kind → ℕ → Transaction V → Transaction V
transaction_marked kind number x = record { time = x.time; rule = x.rule; argument = x.argument; entries = entries_marked kind number x.entries }

-- There is such a transaction, and it has a line with this number, from 1.
abbrev pub has_line : {V : Type 0} → Option (Transaction V) → ℕ → Bool
has_line None number = false
has_line (Some x) number = nat_le 1 number && nat_le number (length (few_list x.entries))

-- Of two records of a transaction one is in range exactly if the other is.
abbrev pub PresentAlike : {V : Type 0} → Transaction V → Transaction V → Type 0
PresentAlike {V} x y = (size : Size) (cards : List (Card V)) (lines : ℕ) → transaction_present size cards lines x ≡ transaction_present size cards lines y
