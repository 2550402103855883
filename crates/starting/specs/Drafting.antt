-- The transaction that a start makes. Assumes nothing.
use Rattle.std.specs.Prelude.{ℕ, ◌+◌, cond, List, [], ◌∷◌, drop, is_some, Some, None, Option, ◌==◌, slice_index_or}
use Rattle.terms.specs.declared.mark.Mark.{Mark}
use Rattle.terms.specs.declared.mark.Mark.TheVariants.{Asked, Confirmed, Denied}
use Rattle.terms.specs.Faults.{among}
use Rattle.terms.specs.Modes.{reads, writes}
use Rattle.records.specs.declared.card.Card.{Card}
use Rattle.records.specs.declared.line.Line.{Line}
use Rattle.records.specs.declared.size.Size.{Size}
use Rattle.records.specs.declared.transaction.Entry.{Entry}
use Rattle.records.specs.Present.{card_at}
use Rattle.knowledge.specs.Check.{denied}
use Rattle.knowledge.specs.Knowledge.{Site}
use Rattle.site.specs.declared.fault.SiteFault.{SiteFault}
use Rattle.site.specs.declared.fault.SiteFault.TheVariants.{NoCard, CardTwice, NotHeld}
use Rattle.site.specs.Lines.{is_holder}
use Rattle.starting.specs.Reading.{version_read}

-- What is wrong with the card of a line at a start: there is none, it was given before, or the site does not hold it.
abbrev pub card_fault : {V : Type 0} → Size → List (Card V) → ℕ → List ℕ → ℕ → ℕ → Option SiteFault
card_fault size cards site before line card =
    cond (is_some (card_at size cards card)) (cond (among card before) (Some (CardTwice line)) (cond (is_holder (card_at size cards card) site) None (Some (NotHeld line)))) (Some (NoCard line))

abbrev pub or_else : Option SiteFault → Option SiteFault → Option SiteFault
or_else (Some fault) other = Some fault
or_else None other = other

-- The first such fault, line by line.
abbrev pub cards_fault : {V : Type 0} → Size → List (Card V) → ℕ → List ℕ → ℕ → List ℕ → Option SiteFault
cards_fault size cards site before line [] = None
cards_fault size cards site before line (c ∷ cs) = or_else (card_fault size cards site before line c) (cards_fault size cards site (c ∷ before) (line + 1) cs)

-- The origin checks a line if it is the card's primary, and marks it confirmed or denied; any other line is asked.
abbrev pub mark_by : {V : Type 0} → Site V → ℕ → Line V → Option (Card V) → Mark
mark_by site origin l None = Asked
mark_by site origin l (Some card) = cond (card.primary == origin) (cond (denied site l) Denied Confirmed) Asked

abbrev pub first_mark : {V : Type 0} → Site V → ℕ → Line V → Mark
first_mark site origin l = mark_by site origin l (card_at site.size site.cards l.card)

-- A line of a start: it has the time of the version read, in mode 2 its own time, and the value written, in mode 1 the
-- value read. The values to be written come in line order.
abbrev pub drafted_line : {V : Type 0} → Site V → ℕ → V → ℕ → ℕ → ℕ → List V → Line V
drafted_line site time argument number mode card written =
    record {
      time = time;
      number = number;
      card = card;
      mode = mode;
      read = cond (reads mode) (version_read site argument card).time time;
      value = cond (writes mode) (slice_index_or written 0 argument) (version_read site argument card).value;
    }

abbrev pub entry_of : {V : Type 0} → Line V → Mark → Entry V
entry_of l mark = record { card = l.card; read = l.read; value = l.value; mark = mark }

abbrev pub drafted_entry : {V : Type 0} → Site V → ℕ → ℕ → V → ℕ → ℕ → ℕ → List V → Entry V
drafted_entry site origin time argument number mode card written =
    let l = drafted_line site time argument number mode card written in entry_of l (first_mark site origin l)

abbrev pub still_to_write : {V : Type 0} → ℕ → List V → List V
still_to_write mode written = cond (writes mode) (drop 1 written) written

-- The entries of the transaction, line by line from a number on.
abbrev pub drafted : {V : Type 0} → Site V → ℕ → ℕ → V → ℕ → List ℕ → List ℕ → List V → List (Entry V)
drafted site origin time argument number [] cards written = []
drafted site origin time argument number (mode ∷ modes) [] written = []
drafted site origin time argument number (mode ∷ modes) (card ∷ cards) written =
    drafted_entry site origin time argument number mode card written ∷ drafted site origin time argument (number + 1) modes cards (still_to_write mode written)
