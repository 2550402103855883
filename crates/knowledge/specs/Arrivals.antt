-- What arrives at the primary of a card, and what it leaves there. Assumes nothing.
use Rattle.std.specs.Prelude.{◌≡◌, ◌<◌, Bool, true, false, cond, List, [], ◌∷◌, ◌++◌, is_some, Some, None, fold, Option}
use Rattle.records.specs.declared.line.Line.{Line}
use Rattle.terms.specs.declared.kind.Kind.{Kind}
use Rattle.terms.specs.declared.kind.Kind.TheVariants as kind
use Rattle.records.specs.declared.verdict.Verdict.{Verdict}
use Rattle.terms.specs.Modes.{writes}
use Rattle.records.specs.Present.{line_present}
use Rattle.knowledge.specs.declared.judge.Judgement.{Judgement}
use Rattle.knowledge.specs.declared.judge.Judgement.TheVariants.{Dropped, Confirmed, Denied}
use Rattle.knowledge.specs.Check.{denied}
use Rattle.knowledge.specs.Knowledge.{Site, known, aborted}

-- A line known as aborted is dropped; any other is denied or confirmed by the check.
abbrev pub judged : {V : Type 0} → Site V → Line V → Judgement
judged site l = cond (aborted site l.time) Dropped (cond (denied site l) Denied Confirmed)

-- The kind of message that answers a line so judged.
abbrev pub reply_kind : Judgement → Option Kind
reply_kind Dropped = None
reply_kind Confirmed = Some kind.Confirm
reply_kind Denied = Some kind.Deny

-- Only a line that is confirmed lands.
abbrev pub lands : Judgement → Bool
lands Dropped = false
lands Confirmed = true
lands Denied = false

abbrev pub landed : {V : Type 0} → Site V → Line V → Site V
landed site l = record { size = site.size; cards = site.cards; lines = site.lines ++ l ∷ []; verdicts = site.verdicts }

abbrev pub recorded : {V : Type 0} → Site V → Verdict → Site V
recorded site v = record { size = site.size; cards = site.cards; lines = site.lines; verdicts = site.verdicts ++ v ∷ [] }

pub data Arrival (V : Type 0) : Type 0 where
  line_arrives : Line V → Arrival V
  verdict_arrives : Verdict → Arrival V

-- What an arrival leaves: a line lands if it is confirmed, a verdict is recorded unless one is known.
abbrev pub after : {V : Type 0} → Site V → Arrival V → Site V
after site (line_arrives l) = cond (lands (judged site l)) (landed site l) site
after site (verdict_arrives v) = cond (is_some (known site v.time)) site (recorded site v)

-- A line that is confirmed guards its interval: whatever arrives after it, every write of the card strictly inside the
-- interval is denied as long as the line's transaction is not known as aborted.
abbrev pub Guards : {V : Type 0} → Site V → Line V → Type 0
Guards {V} site a =
    line_present site.size site.cards a ≡ true → judged site a ≡ Confirmed →
    (arrivals : List (Arrival V)) (b : Line V) →
    let later = fold after site (line_arrives a ∷ arrivals) in
    aborted later a.time ≡ false → b.card ≡ a.card → writes b.mode ≡ true → a.read < b.time → b.time < a.time →
    denied later b ≡ true
