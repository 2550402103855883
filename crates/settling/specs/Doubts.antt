-- What speaks against a transaction at its origin. Assumes nothing.
use Rattle.std.specs.Prelude.{ℕ, Bool, true, false, not, ◌&&◌, List, ◌==◌}
use Rattle.std.specs.List.{list_any}
use Rattle.terms.specs.declared.mark.Mark.{Mark}
use Rattle.terms.specs.declared.mark.Mark.TheVariants.{Asked, Confirmed, Denied}
use Rattle.terms.specs.Modes.{reads}
use Rattle.records.specs.declared.line.Line.{Line}
use Rattle.records.specs.declared.transaction.Entry.{Entry}
use Rattle.knowledge.specs.Knowledge.{Site, aborted, committed}
use Rattle.settling.specs.declared.doubt.Doubt.{Doubt}
use Rattle.settling.specs.declared.doubt.Doubt.TheVariants.{Refuted, Unproved}

-- A line's mark refutes it if it is denied, and leaves it unproved if it is not confirmed.
abbrev pub mark_is : Doubt → Mark → Bool
mark_is Refuted Asked = false
mark_is Refuted Confirmed = false
mark_is Refuted Denied = true
mark_is Unproved Asked = true
mark_is Unproved Confirmed = false
mark_is Unproved Denied = true

abbrev pub any_mark : {V : Type 0} → Doubt → List (Entry V) → Bool
any_mark doubt es = list_any (λ e. mark_is doubt e.mark) es

-- A time read refutes what read it if it is known as aborted, and leaves it unproved if it is neither 0 nor known as
-- committed.
abbrev pub writer_is : {V : Type 0} → Site V → Doubt → ℕ → Bool
writer_is site Refuted time = aborted site time
writer_is site Unproved time = not (time == 0) && not (committed site time)

-- Whether a time read by a line of mode 1 or 3 is so.
abbrev pub any_writer : {V : Type 0} → Site V → Doubt → List (Line V) → Bool
any_writer site doubt ls = list_any (λ l. reads l.mode && writer_is site doubt l.read) ls
