-- What each effect of a delivery leaves at the receiver and in the carrier. Assumes nothing.
use Rattle.std.specs.Prelude.{Bool, true, List, [], ◌∷◌}
use Rattle.terms.specs.Kinds.{kind_number}
use Rattle.terms.specs.declared.kind.Kind.{Kind}
use Rattle.terms.specs.declared.kind.Kind.TheVariants.{Confirm, Deny}
use Rattle.terms.specs.declared.outcome.Outcome.{Outcome}
use Rattle.records.specs.declared.line.Line.{Line}
use Rattle.records.specs.declared.message.Message.{Message}
use Rattle.records.specs.declared.verdict.Verdict.{Verdict}
use Rattle.delivering.specs.declared.effect.Effect.{Effect}
use Rattle.delivering.specs.declared.effect.Effect.TheVariants.{Nothing, Lands, Confirms, Denies, Marks, Records}
use Rattle.delivering.specs.declared.effect.Room.{Room}

-- The lines that land: the receiver's lines afterwards are those before, followed by these.
abbrev pub landing : {V : Type 0} → Effect V → Message V → List (Line V)
landing Nothing m = []
landing Lands m = m.line ∷ []
landing Confirms m = m.line ∷ []
landing Denies m = []
landing (Marks x) m = []
landing (Records outcome) m = []

abbrev pub verdict_told : {V : Type 0} → Outcome → Message V → Verdict
verdict_told outcome m = record { time = m.line.time; outcome = outcome }

-- The verdicts that are recorded, behind those known before.
abbrev pub recording : {V : Type 0} → Effect V → Message V → List Verdict
recording Nothing m = []
recording Lands m = []
recording Confirms m = []
recording Denies m = []
recording (Marks x) m = []
recording (Records outcome) m = verdict_told outcome m ∷ []

-- A reply repeats the whole line, from the receiver to the sender.
abbrev pub reply_of : {V : Type 0} → Kind → Message V → Message V
reply_of kind m = record { kind = kind_number kind; from = m.to; to = m.from; line = m.line }

-- The replies that are put, behind what waits.
abbrev pub replies : {V : Type 0} → Effect V → Message V → List (Message V)
replies Nothing m = []
replies Lands m = []
replies Confirms m = reply_of Confirm m ∷ []
replies Denies m = reply_of Deny m ∷ []
replies (Marks x) m = []
replies (Records outcome) m = []

-- The records that the effect needs are free: a line record for a line that lands, a verdict record for a new verdict.
abbrev pub fits : {V : Type 0} → Room → Effect V → Bool
fits room Nothing = true
fits room Lands = room.line
fits room Confirms = room.line
fits room Denies = true
fits room (Marks x) = true
fits room (Records outcome) = room.verdict
