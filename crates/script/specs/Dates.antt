-- Dates in a text. Assumes nothing.
use Rattle.std.specs.Prelude.{ℕ, ◌^◌, ◌<◌, List, [], ◌∷◌, decimal, Option}
use Rattle.std.specs.Result.{result_ok}
use Rattle.books.specs.declared.date.Date.{Date}
use Rattle.script.specs.Forms.{Form, ends, wants, read, parsed}
use Rattle.script.specs.Numbers.{numeral, below}
use Rattle.script.specs.Pieces.{pieces, joined}

-- The year has 16 bits, the month and the day have 8.
abbrev pub date_form : Form Date
date_form =
    wants (λ text. read (below (2 ^ 16)) (numeral text)) (λ year.
    wants (λ text. read (below (2 ^ 8)) (numeral text)) (λ month.
    wants (λ text. read (below (2 ^ 8)) (numeral text)) (λ day.
    ends (record { year = year; month = month; day = day }))))

-- Three numbers parted by hyphens.
abbrev pub date_text : List ℕ → Option Date
date_text text = result_ok (parsed date_form 1 (pieces 45 text))

-- The text of a date, with no zeros in front of its numbers.
abbrev pub date_written : Date → List ℕ
date_written d = joined 45 (decimal d.year ∷ decimal d.month ∷ decimal d.day ∷ [])

-- A date's numbers have their bits.
pub record DateFits (d : Date) : Type 0 where
  pub year : d.year < 2 ^ 16
  pub month : d.month < 2 ^ 8
  pub day : d.day < 2 ^ 8
