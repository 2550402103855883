-- The lines of a sitting's script, with the book's own way to tell a value. Assumes nothing.
use Rattle.std.specs.Prelude.{ℕ, List, Option, Result}
use Rattle.terms.specs.declared.few.Few.{Few}
use Rattle.terms.specs.declared.few.Few.TheVariants.{One, Two, Three, Four}
use Rattle.script.specs.Forms.{Form, ends, wants, may_end, mapped, line_parsed}
use Rattle.script.specs.Numbers.{numeral}
use Rattle.commands.specs.declared.command.Command.{Command}
use Rattle.commands.specs.declared.command.Command.TheVariants.{Sites, Card, Open, Start, Deliver, Settle, Value, Close}
use Rattle.commands.specs.declared.word.Word.{Word}
use Rattle.commands.specs.declared.word.Word.TheVariants.{Sites as sites_word, Card as card_word, Open as open_word, Start as start_word, Deliver as deliver_word, Settle as settle_word, Value as value_word, Close as close_word}
use Rattle.commands.specs.Words.{word_of}

abbrev pub sites_form : {V : Type 0} → Form (Command V)
sites_form = wants numeral (λ count. wants numeral (λ transactions. ends (Sites count transactions)))

abbrev pub card_form : {V : Type 0} → (List ℕ → Option V) → Form (Command V)
card_form told = wants numeral (λ holders. wants numeral (λ primary. wants told (λ opening. ends (Card holders primary opening))))

-- One card to four.
abbrev pub cards_form : Form (Few ℕ)
cards_form =
    wants numeral (λ a. may_end (One a)
    (wants numeral (λ b. may_end (Two a b)
    (wants numeral (λ c. may_end (Three a b c)
    (wants numeral (λ d. ends (Four a b c d))))))))

abbrev pub start_form : {V : Type 0} → (List ℕ → Option V) → Form (Command V)
start_form told =
    wants numeral (λ site. wants numeral (λ rule. wants told (λ argument. mapped (Start site rule argument) cards_form)))

abbrev pub deliver_form : {V : Type 0} → Form (Command V)
deliver_form = wants numeral (λ hint. ends (Deliver hint))

abbrev pub settle_form : {V : Type 0} → Form (Command V)
settle_form = wants numeral (λ number. ends (Settle number))

abbrev pub value_form : {V : Type 0} → Form (Command V)
value_form = wants numeral (λ site. wants numeral (λ card. ends (Value site card)))

-- What follows each word.
abbrev pub fields_after : {V : Type 0} → (List ℕ → Option V) → Word → Form (Command V)
fields_after told sites_word = sites_form
fields_after told card_word = card_form told
fields_after told open_word = ends Open
fields_after told start_word = start_form told
fields_after told deliver_word = deliver_form
fields_after told settle_word = settle_form
fields_after told value_word = value_form
fields_after told close_word = ends Close

abbrev pub command_fields : {V : Type 0} → (List ℕ → Option V) → Form (Command V)
command_fields told = wants word_of (fields_after told)

-- The command that a line tells, or the place of its first bad field.
abbrev pub command_form : {V : Type 0} → (List ℕ → Option V) → List ℕ → Result (Command V) ℕ
command_form told line = line_parsed (command_fields told) line
