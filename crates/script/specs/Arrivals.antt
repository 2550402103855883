-- The lines of the arrivals script. Assumes nothing.
use Rattle.std.specs.Prelude.{ℕ, cond, List, length, Err, Result, nat_le}
use Rattle.script.specs.declared.arrival.Arrival.{Arrival}
use Rattle.script.specs.declared.arrival.Arrival.TheVariants.{Opening, Line, Verdict, Value}
use Rattle.script.specs.declared.word.Word.{Word}
use Rattle.script.specs.declared.word.Word.TheVariants.{Opening as opening_word, Line as line_word, Verdict as verdict_word, Value as value_word}
use Rattle.script.specs.Dates.{date_text}
use Rattle.script.specs.Forms.{Form, ends, wants, parsed}
use Rattle.script.specs.Numbers.{numeral}
use Rattle.script.specs.Outcomes.{outcome_text}
use Rattle.script.specs.Pieces.{fields}
use Rattle.script.specs.Words.{word_of}

-- What follows each word.
abbrev pub opening_form : Form Arrival
opening_form = wants date_text (λ date. ends (Opening date))

abbrev pub line_form : Form Arrival
line_form =
    wants numeral (λ time. wants numeral (λ mode. wants numeral (λ read. wants date_text (λ date. ends (Line time mode read date)))))

abbrev pub verdict_form : Form Arrival
verdict_form = wants numeral (λ time. wants outcome_text (λ outcome. ends (Verdict time outcome)))

abbrev pub value_form : Form Arrival
value_form = ends Value

abbrev pub fields_after : Word → Form Arrival
fields_after opening_word = opening_form
fields_after line_word = line_form
fields_after verdict_word = verdict_form
fields_after value_word = value_form

-- A line of at most 80 bytes, its fields parted by tabs; if it has no form, the place of its first bad field.
abbrev pub arrival_form : List ℕ → Result Arrival ℕ
arrival_form line = cond (nat_le (length line) 80) (parsed (wants word_of fields_after) 1 (fields line)) (Err 1)
