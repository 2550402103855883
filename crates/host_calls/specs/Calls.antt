-- What the calls from C answer. Assumes nothing.
use Rattle.std.specs.Prelude.{ℕ, Bool, false, cond, List, is_ok, Some, None, Ok, Err, Option, Result, ◌==◌}
use Rattle.books.specs.Dates.{earlier}
use Rattle.books.specs.declared.date.Date.{Date}
use Rattle.commands.specs.Commands.{command_form}
use Rattle.script.specs.Dates.{date_text}
use Rattle.script.specs.Numbers.{numeral}

-- The number of the bad field, from 1, or 0 if none is bad.
abbrev pub bad_field : {X : Type 0} → Result X ℕ → ℕ
bad_field (Ok x) = 0
bad_field (Err place) = place

-- Book 1 has the forms with tallies, book 2 those with dates; any other has no form, so that field 1 is bad.
abbrev pub line_check : ℕ → List ℕ → ℕ
line_check book line =
    cond (book == 1) (bad_field (command_form numeral line))
    (cond (book == 2) (bad_field (command_form date_text line)) 1)

abbrev pub has_form : ℕ → List ℕ → Bool
has_form book line =
    cond (book == 1) (is_ok (command_form numeral line))
    (cond (book == 2) (is_ok (command_form date_text line)) false)

-- 1: the first is earlier; 2: the second is; 0: neither is; 3: one of them is no date.
abbrev pub dates_compared : Option Date → Option Date → ℕ
dates_compared None second = 3
dates_compared (Some a) None = 3
dates_compared (Some a) (Some b) = cond (earlier a b) 1 (cond (earlier b a) 2 0)
