-- Starting a transaction at its origin. Assumes nothing.
use Rattle.std.specs.Prelude.{ℕ, ◌+◌, Bool, cond, ◌||◌, List, [], map, length, Some, None, Ok, Err, Option, Result, ◌==◌, nat_le, nat_lt}
use Rattle.std.specs.List.{flat_map}
use Rattle.terms.specs.Few.{few_list, few_of}
use Rattle.terms.specs.Times.{whole}
use Rattle.book.specs.Meaning.{Answer, declines, gives}
use Rattle.records.specs.declared.card.Card.{Card}
use Rattle.records.specs.declared.line.Line.{Line}
use Rattle.records.specs.declared.message.Message.{Message}
use Rattle.records.specs.declared.size.Size.{Size}
use Rattle.records.specs.declared.transaction.Transaction.{Transaction}
use Rattle.records.specs.Present.{card_at}
use Rattle.knowledge.specs.Knowledge.{Site}
use Rattle.site.specs.declared.fault.SiteFault.{SiteFault}
use Rattle.site.specs.declared.fault.SiteFault.TheVariants.{UnknownRule, WrongCount, Declined, NoRecords, NoPlaces}
use Rattle.site.specs.Lines.{lines_of, goes_to, picked}
use Rattle.starting.specs.declared.start.Order.{Order}
use Rattle.starting.specs.declared.start.Room.{Room}
use Rattle.starting.specs.Drafting.{cards_fault, drafted}
use Rattle.starting.specs.Reading.{values_read}

-- A start takes the time after the site's counter.
abbrev pub next_time : ℕ → ℕ → Option ℕ
next_time counter site = whole (record { counter = counter + 1; site = site })

-- No transaction can be started if T are, or fewer than 4 line records of the site are free.
abbrev pub no_records : Size → Room → Bool
no_records size room = nat_le size.transactions room.started || nat_lt room.lines 4

-- A line goes to each site that it has to be sent to, by site number.
abbrev pub line_messages : {V : Type 0} → Size → List (Card V) → ℕ → Line V → List (Message V)
line_messages size cards origin l = map (λ s. record { kind = 1; from = origin; to = s; line = l }) (picked (goes_to origin l.mode (card_at size cards l.card)))

-- The messages of a start, by line and then by site number.
abbrev pub start_messages : {V : Type 0} → Size → List (Card V) → ℕ → List ℕ → Transaction V → List (Message V)
start_messages size cards origin modes x = flat_map (line_messages size cards origin) (lines_of modes x)

abbrev pub if_places : {V : Type 0} → Site V → Order V → Room → List ℕ → Transaction V → Result (Transaction V) SiteFault
if_places site order room modes x =
    cond (nat_lt room.places (length (start_messages site.size site.cards order.origin modes x))) (Err NoPlaces) (Ok x)

-- The transaction that writes what the book gives.
abbrev pub answered : {V : Type 0} → Site V → Order V → Room → ℕ → List ℕ → Answer V → Result (Transaction V) SiteFault
answered site order room time modes (declines code) = Err (Declined (record { code = code }))
answered site order room time modes (gives written) =
    if_places site order room modes (record { time = time; rule = order.rule; argument = order.argument; entries = few_of (drafted site order.origin time order.argument 1 modes (few_list order.cards) written) })

abbrev pub unless_fault : {X : Type 0} → Option SiteFault → Result X SiteFault → Result X SiteFault
unless_fault (Some fault) r = Err fault
unless_fault None r = r

-- 8, 9 and 10 line by line, then 11 and 15.
abbrev pub checked : {V : Type 0} → List ℕ → (V → List V → Answer V) → Site V → Order V → Room → ℕ → Result (Transaction V) SiteFault
checked modes answer site order room time =
    unless_fault (cards_fault site.size site.cards order.origin [] 1 (few_list order.cards))
    (answered site order room time modes (answer order.argument (values_read site order.argument modes (few_list order.cards))))

-- 6 and 7.
abbrev pub ruled : {V : Type 0} → List ℕ → (V → List V → Answer V) → Site V → Order V → Room → ℕ → Result (Transaction V) SiteFault
ruled modes answer site order room time =
    cond (length modes == 0) (Err UnknownRule) (cond (length modes == length (few_list order.cards)) (checked modes answer site order room time) (Err WrongCount))

abbrev pub timed : {V : Type 0} → List ℕ → (V → List V → Answer V) → Site V → Order V → Room → Option ℕ → Result (Transaction V) SiteFault
timed modes answer site order room None = Err NoRecords
timed modes answer site order room (Some time) = ruled modes answer site order room time

-- A start: 14, for want of records or of a time that 32 bits can hold, comes first.
abbrev pub start_answer : {V : Type 0} → List ℕ → (V → List V → Answer V) → Site V → Order V → Room → Result (Transaction V) SiteFault
start_answer modes answer site order room =
    cond (no_records site.size room) (Err NoRecords) (timed modes answer site order room (next_time room.counter order.origin))
