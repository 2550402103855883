-- What a delivery leaves of the receiver's lines and verdicts, beside what the primary's knowledge makes of the same
-- arrival. Assumes nothing.
use Rattle.std.specs.Prelude.{◌≡◌, true, List, [], ◌∷◌, ◌++◌, Some, None, Ok, Err, Option, Result}
use Rattle.terms.specs.declared.kind.Kind.{Kind}
use Rattle.terms.specs.declared.kind.Kind.TheVariants.{Line, Confirm, Deny, Commit, Abort}
use Rattle.terms.specs.declared.outcome.Outcome.TheVariants as outcome
use Rattle.records.specs.declared.message.Message.{Message}
use Rattle.knowledge.specs.Arrivals.{judged, reply_kind, line_arrives, verdict_arrives, after}
use Rattle.knowledge.specs.Knowledge.{Site}
use Rattle.site.specs.declared.fault.SiteFault.{SiteFault}
use Rattle.delivering.specs.declared.effect.Effect.{Effect}
use Rattle.delivering.specs.Delivery.{card_of, is_primary}
use Rattle.delivering.specs.Effects.{landing, verdict_told, recording, reply_of, replies}

-- The receiver's records after an effect.
abbrev pub site_after : {V : Type 0} → Site V → Effect V → Message V → Site V
site_after site e m = record { size = site.size; cards = site.cards; lines = site.lines ++ landing e m; verdicts = site.verdicts ++ recording e m }

-- A line at the primary of its card, and a verdict anywhere, leave what their arrival leaves; a reply leaves lines and
-- verdicts as they are.
abbrev pub ArrivesAs : {V : Type 0} → Site V → Kind → Message V → Effect V → Type 0
ArrivesAs site Line m e = is_primary (card_of site m) m.to ≡ true → site_after site e m ≡ after site (line_arrives m.line)
ArrivesAs site Confirm m e = site_after site e m ≡ site
ArrivesAs site Deny m e = site_after site e m ≡ site
ArrivesAs site Commit m e = site_after site e m ≡ after site (verdict_arrives (verdict_told outcome.Commit m))
ArrivesAs site Abort m e = site_after site e m ≡ after site (verdict_arrives (verdict_told outcome.Abort m))

-- A message that is not foreign is of some kind, and arrives as one of that kind.
abbrev pub DeliversAs : {V : Type 0} → Site V → Option Kind → Message V → Result (Effect V) SiteFault → Type 0
DeliversAs site kind m (Err fault) = Unit {0}
DeliversAs site None m (Ok e) = ⊥
DeliversAs site (Some kind) m (Ok e) = ArrivesAs site kind m e

-- The answer of some kind to a message, if there is one.
abbrev pub answered_by : {V : Type 0} → Option Kind → Message V → List (Message V)
answered_by None m = []
answered_by (Some kind) m = reply_of kind m ∷ []

-- A line at the primary of its card is answered as it is judged.
abbrev pub AnswersAs : {V : Type 0} → Site V → Option Kind → Message V → Result (Effect V) SiteFault → Type 0
AnswersAs site kind m (Err fault) = Unit {0}
AnswersAs site kind m (Ok e) = kind ≡ Some Line → is_primary (card_of site m) m.to ≡ true → replies e m ≡ answered_by (reply_kind (judged site m.line)) m
