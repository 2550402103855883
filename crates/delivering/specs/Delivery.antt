-- What a site does with one message that is delivered to it. Assumes nothing.
use Rattle.std.specs.Prelude.{ℕ, max, Bool, true, false, cond, ◌&&◌, is_some, Some, None, Ok, Err, Option, Result, ◌==◌, nat_lt}
use Rattle.terms.specs.Kinds.{kind_of}
use Rattle.terms.specs.Times.{counter_of}
use Rattle.terms.specs.declared.kind.Kind.{Kind}
use Rattle.terms.specs.declared.kind.Kind.TheVariants.{Line, Confirm, Deny, Commit, Abort}
use Rattle.terms.specs.declared.outcome.Outcome.{Outcome}
use Rattle.terms.specs.declared.outcome.Outcome.TheVariants as outcome
use Rattle.records.specs.declared.card.Card.{Card}
use Rattle.records.specs.declared.message.Message.{Message}
use Rattle.records.specs.declared.size.Size.{Size}
use Rattle.records.specs.declared.transaction.Transaction.{Transaction}
use Rattle.records.specs.Present.{time_in_range, line_present, card_at}
use Rattle.knowledge.specs.Check.{denied}
use Rattle.knowledge.specs.Knowledge.{Site, known, aborted}
use Rattle.site.specs.declared.fault.SiteFault.{SiteFault}
use Rattle.site.specs.declared.fault.SiteFault.TheVariants.{Foreign}
use Rattle.site.specs.Lines.{is_holder}
use Rattle.delivering.specs.declared.effect.Effect.{Effect}
use Rattle.delivering.specs.declared.effect.Effect.TheVariants.{Nothing, Lands, Confirms, Denies, Marks, Records}
use Rattle.delivering.specs.declared.effect.Room.{Room}
use Rattle.delivering.specs.Effects.{fits}
use Rattle.delivering.specs.Marks.{transaction_marked, has_line}

-- The receiver's counter after a message about this time.
abbrev pub raised : ℕ → ℕ → ℕ
raised counter time = max counter (counter_of time)

-- Both ends of a message are sites of the sitting, and its time is one that a transaction may have.
abbrev pub in_range : {V : Type 0} → Size → Message V → Bool
in_range size m = nat_lt m.from size.sites && nat_lt m.to size.sites && time_in_range size m.line.time

abbrev pub is_primary : {V : Type 0} → Option (Card V) → ℕ → Bool
is_primary None site = false
is_primary (Some card) site = card.primary == site

-- The message's card as the site has it declared.
abbrev pub card_of : {V : Type 0} → Site V → Message V → Option (Card V)
card_of site m = card_at site.size site.cards m.line.card

-- The message's line is in range, and the receiver holds its card.
abbrev pub line_here : {V : Type 0} → Site V → Message V → Bool
line_here site m = line_present site.size site.cards m.line && is_holder (card_of site m) m.to

-- A message of each kind is one for its receiver: the line of a LINE or a reply is here, and a reply answers a line of
-- the receiver's own transaction.
abbrev pub expected : {V : Type 0} → Site V → Option (Transaction V) → Kind → Message V → Bool
expected site own Line m = line_here site m
expected site own Confirm m = line_here site m && has_line own m.line.number
expected site own Deny m = line_here site m && has_line own m.line.number
expected site own Commit m = true
expected site own Abort m = true

-- A line known as aborted is dropped. The primary denies or confirms any other; another holder lands it without a reply.
abbrev pub line_effect : {V : Type 0} → Site V → Message V → Effect V
line_effect site m =
    cond (aborted site m.line.time) Nothing
    (cond (is_primary (card_of site m) m.to)
    (cond (denied site m.line) Denies Confirms)
    Lands)

-- A reply marks the line of the receiver's transaction; without one it is foreign.
abbrev pub mark_effect : {V : Type 0} → Option (Transaction V) → Kind → Message V → Effect V
mark_effect None kind m = Nothing
mark_effect (Some x) kind m = Marks (transaction_marked kind m.line.number x)

-- A verdict is recorded unless one is known.
abbrev pub verdict_effect : {V : Type 0} → Site V → Outcome → Message V → Effect V
verdict_effect site outcome m = cond (is_some (known site m.line.time)) Nothing (Records outcome)

abbrev pub effect_of : {V : Type 0} → Site V → Option (Transaction V) → Kind → Message V → Effect V
effect_of site own Line m = line_effect site m
effect_of site own Confirm m = mark_effect own Confirm m
effect_of site own Deny m = mark_effect own Deny m
effect_of site own Commit m = verdict_effect site outcome.Commit m
effect_of site own Abort m = verdict_effect site outcome.Abort m

abbrev pub if_fits : {V : Type 0} → Room → Effect V → Result (Effect V) SiteFault
if_fits room e = cond (fits room e) (Ok e) (Err Foreign)

abbrev pub delivery_of : {V : Type 0} → Site V → Room → Option (Transaction V) → Option Kind → Message V → Result (Effect V) SiteFault
delivery_of site room own None m = Err Foreign
delivery_of site room own (Some kind) m =
    cond (in_range site.size m && expected site own kind m) (if_fits room (effect_of site own kind m)) (Err Foreign)

-- What a delivery to a site does, beside the receiver's own transaction with the message's time, if there is one; a
-- message is foreign if it is out of range, tells what it cannot, or needs a record and none is free.
abbrev pub delivery : {V : Type 0} → Site V → Room → Option (Transaction V) → Message V → Result (Effect V) SiteFault
delivery site room own m = delivery_of site room own (kind_of m.kind) m
