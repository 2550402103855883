-- A delivery leaves what knowledge makes of the same arrival. Assumes nothing.
use Rattle.std.proofs.Common.{◌≡◌, ℕ, Bool, true, false, cond, List, [], ◌∷◌, ◌++◌, is_some, Some, None, Ok, Option, sym, refl, ap, ◌∙◌, subst, rules}
use Rattle.std.proofs.lemmas.List.{append-nil}
use Rattle.terms.specs.declared.kind.Kind.{Kind}
use Rattle.terms.specs.declared.kind.Kind.TheVariants.{Line, Confirm, Deny, Commit, Abort}
use Rattle.terms.specs.Numbers.{told_or_unknown}
use Rattle.terms.specs.declared.outcome.Outcome.{Outcome}
use Rattle.terms.specs.declared.outcome.Outcome.TheVariants as outcome
use Rattle.records.specs.declared.line.Line as lines
use Rattle.records.specs.declared.message.Message.{Message}
use Rattle.records.specs.declared.transaction.Transaction.{Transaction}
use Rattle.records.specs.declared.verdict.Verdict.{Verdict}
use Rattle.knowledge.specs.declared.judge.Judgement.TheVariants.{Dropped, Confirmed, Denied}
use Rattle.knowledge.specs.Arrivals.{reply_kind, lands, landed, recorded}
use Rattle.knowledge.specs.Check.{denied}
use Rattle.knowledge.specs.Knowledge.{Site, known, aborted}
use Rattle.delivering.specs.declared.effect.Effect.{Effect}
use Rattle.delivering.specs.declared.effect.Effect.TheVariants.{Nothing, Lands, Confirms, Denies, Records}
use Rattle.delivering.specs.Arriving.{site_after, answered_by, ArrivesAs, DeliversAs, AnswersAs}
use Rattle.delivering.specs.Delivery.{card_of, is_primary, mark_effect, effect_of}
use Rattle.delivering.specs.Effects.{verdict_told, replies}

module _ {V : Type 0} (site : Site V) (m : Message V) where
  -- The site with some lines and verdicts in place of its own.
  abbrev with_records : List (lines.Line V) → List Verdict → Site V
  with_records ls vs = record { size = site.size; cards = site.cards; lines = ls; verdicts = vs }

  unchanged : with_records (site.lines ++ []) (site.verdicts ++ []) ≡ site
  unchanged = λ i. with_records (append-nil site.lines i) (append-nil site.verdicts i)

  line_arrived : (dropped primary refused : Bool) → primary ≡ true → site_after site (cond dropped Nothing (cond primary (cond refused Denies Confirms) Lands)) m ≡ cond (lands (cond dropped Dropped (cond refused Denied Confirmed))) (landed site m.line) site
  line_arrived true primary refused p = unchanged
  line_arrived false true true p = unchanged
  line_arrived false true false p = ap (with_records (site.lines ++ (m.line ∷ []))) (append-nil site.verdicts)
  line_arrived false false refused p = let never : ⊥ = search rules in elim never [ ]

  marked_arrived : (own : Option (Transaction V)) (kind : Kind) → site_after site (mark_effect own kind m) m ≡ site
  marked_arrived None kind = unchanged
  marked_arrived (Some x) kind = unchanged

  verdict_arrived : (o : Outcome) (told : Bool) → site_after site (cond told Nothing (Records o)) m ≡ cond told site (recorded site (verdict_told o m))
  verdict_arrived o true = unchanged
  verdict_arrived o false = ap (λ ls. with_records ls (site.verdicts ++ (verdict_told o m ∷ []))) (append-nil site.lines)

  arrives_as : (own : Option (Transaction V)) (kind : Kind) → ArrivesAs site kind m (effect_of site own kind m)
  arrives_as own Line = line_arrived (aborted site m.line.time) (is_primary (card_of site m) m.to) (denied site m.line)
  arrives_as own Confirm = marked_arrived own Confirm
  arrives_as own Deny = marked_arrived own Deny
  arrives_as own Commit = verdict_arrived outcome.Commit (is_some (known site m.line.time))
  arrives_as own Abort = verdict_arrived outcome.Abort (is_some (known site m.line.time))

  pub delivers_as : (own : Option (Transaction V)) (kind : Kind) (o : Option Kind) (n : ℕ) (e : Effect V) → Ok kind ≡ told_or_unknown o n → e ≡ effect_of site own kind m → DeliversAs site o m (Ok e)
  delivers_as own kind None n e is made = absurd (cc)
  delivers_as own kind (Some k) n e is made =
      let same : kind ≡ k = cc in
      subst (λ k. ArrivesAs site k m e) same (subst (ArrivesAs site kind m) (sym made) (arrives_as own kind))

  line_told : (dropped primary refused : Bool) → primary ≡ true → replies (cond dropped Nothing (cond primary (cond refused Denies Confirms) Lands)) m ≡ answered_by (reply_kind (cond dropped Dropped (cond refused Denied Confirmed))) m
  line_told true primary refused p = refl
  line_told false true true p = refl
  line_told false true false p = refl
  line_told false false refused p = let never : ⊥ = search rules in elim never [ ]

  pub answers_as : (own : Option (Transaction V)) (kind : Kind) (o : Option Kind) (n : ℕ) (e : Effect V) → Ok kind ≡ told_or_unknown o n → e ≡ effect_of site own kind m → AnswersAs site o m (Ok e)
  answers_as own kind o n e is made line primary =
      let told : Ok kind ≡ told_or_unknown (Some Line) n = is ∙ ap (λ k. told_or_unknown k n) line in
      let is_line : kind ≡ Line = cc in
      ap (λ x. replies x m) (made ∙ ap (λ k. effect_of site own k m) is_line)
      ∙ line_told (aborted site m.line.time) (is_primary (card_of site m) m.to) (denied site m.line) primary
