-- The lines that a start drafts, one after the other. Assumes nothing.
use Rattle.std.proofs.Common.{◌≡◌, ℕ, suc, ◌+◌, ◌<◌, ◌≤◌, Bool, true, false, cond, ◌⊎◌, List, [], ◌∷◌, ◌++◌, map, length, is_some, Some, None, filter, Option, unwrap_or, sym, refl, ap, ◌∙◌, subst, inl, inr, ⊎_elim, arith}
use Rattle.std.proofs.lemmas.Bool.{cond-true, cond-false, or_parts, both_ways, eq-eqb}
use Rattle.terms.specs.Faults.{among}
use Rattle.terms.specs.Lists.{In}
use Rattle.terms.specs.Modes.{reads}
use Rattle.book.specs.Meaning.{ModesKnown}
use Rattle.records.specs.declared.card.Card.{Card}
use Rattle.records.specs.declared.size.Size.{Size}
use Rattle.records.specs.Present.{card_at, holds}
use Rattle.knowledge.specs.declared.versions.Version.{Version}
use Rattle.knowledge.specs.Knowledge.{Site}
use Rattle.knowledge.specs.Versions.{opening_versions, written, version_of, highest, current}
use Rattle.site.specs.declared.fault.SiteFault.{SiteFault}
use Rattle.site.specs.declared.fault.SiteFault.TheVariants.{NoCard, CardTwice, NotHeld}
use Rattle.site.specs.Lines.{is_holder}
use Rattle.starting.specs.Drafting.{card_fault, cards_fault, or_else, first_mark, drafted_line, still_to_write, drafted}
use Rattle.model.proofs.Lots.{Lot, lot, lots_from}
use Rattle.model.proofs.Cases.{none_some}

pub both_none : (o p : Option SiteFault) → or_else o p ≡ None → (o ≡ None) × (p ≡ None)
both_none None p e = (refl, e)
both_none (Some fault) p e = absurd (none_some fault (sym e))

-- A card that a start may name: it is there, was not named before, and the origin holds it.
pub record Fit {V : Type 0} (size : Size) (cards : List (Card V)) (origin : ℕ) (before : List ℕ) (number : ℕ) : Type 0 where
  pub card : Card V
  pub card_is : card_at size cards number ≡ Some card
  pub held : holds card.holders origin ≡ true
  pub new : among number before ≡ false

pub fit : {V : Type 0} (size : Size) (cards : List (Card V)) (origin : ℕ) (before : List ℕ) (line number : ℕ) → card_fault size cards origin before line number ≡ None → Fit size cards origin before number
fit {V} size cards origin before line number e = by_card (card_at size cards number) refl e
  where
    by_tests : (card : Card V) → card_at size cards number ≡ Some card → (a b : Bool) → among number before ≡ a → holds card.holders origin ≡ b → cond a (Some (CardTwice line)) (cond b None (Some (NotHeld line))) ≡ None → Fit size cards origin before number
    by_tests card is true b was has h = absurd (none_some _ (sym h))
    by_tests card is false true was has h = record { card = card; card_is = is; held = has; new = was }
    by_tests card is false false was has h = absurd (none_some _ (sym h))

    by_card : (o : Option (Card V)) → card_at size cards number ≡ o → cond (is_some o) (cond (among number before) (Some (CardTwice line)) (cond (is_holder o origin) None (Some (NotHeld line)))) (Some (NoCard line)) ≡ None → Fit size cards origin before number
    by_card None is h = absurd (none_some _ (sym h))
    by_card (Some card) is h = by_tests card is (among number before) (holds card.holders origin) refl refl h

-- Of a card that is there the origin has a version.
pub has_version : {V : Type 0} (site : Site V) (number : ℕ) (card : Card V) → card_at site.size site.cards number ≡ Some card → (v : Version V) × (current site number ≡ Some v)
has_version site number card is = (_, ap (λ o. highest (opening_versions o ++ map version_of (filter (written site false number) site.lines))) is)

module _ {V : Type 0} (site : Site V) (origin time : ℕ) (argument : V) where
  -- A line drafted behind some cards, of so many lines that are numbered from a number on.
  pub record Draft (before : List ℕ) (number count : ℕ) (b : Lot V) : Type 0 where
    pub timed : b.line.time ≡ time
    pub low : number ≤ b.line.number
    pub high : b.line.number < number + count
    pub card : Card V
    pub card_is : card_at site.size site.cards b.line.card ≡ Some card
    pub held : holds card.holders origin ≡ true
    pub new : among b.line.card before ≡ false
    pub mode_from_1 : 1 ≤ b.line.mode
    pub mode_to_3 : b.line.mode ≤ 3
    pub version : Version V
    pub version_is : current site b.line.card ≡ Some version
    pub read_is : reads b.line.mode ≡ true → b.line.read ≡ version.time
    pub read_own : reads b.line.mode ≡ false → b.line.read ≡ time
    pub marked : b.mark ≡ first_mark site origin b.line

  abbrev drafts : ℕ → List ℕ → List ℕ → List V → List (Lot V)
  drafts number modes cards values = lots_from time number modes (drafted site origin time argument number modes cards values)

  abbrev first : ℕ → ℕ → ℕ → List V → Lot V
  first number mode card values = let l = drafted_line site time argument number mode card values in lot l (first_mark site origin l)

  first_draft : (before : List ℕ) (number mode card count : ℕ) (values : List V) → Fit site.size site.cards origin before card → 1 ≤ mode → mode ≤ 3 → Draft before number (suc count) (first number mode card values)
  first_draft before number mode card count values ok low high =
      let v = has_version site card ok.card ok.card_is in
      record {
        timed = refl;
        low = omega arith;
        high = omega arith;
        card = ok.card;
        card_is = ok.card_is;
        held = ok.held;
        new = ok.new;
        mode_from_1 = low;
        mode_to_3 = high;
        version = v.0;
        version_is = v.1;
        read_is = λ r. cond-true (reads mode) _ _ r ∙ ap (λ o. (unwrap_or {T = Version V} o (record { time = 0; value = argument })).time) v.1;
        read_own = λ r. cond-false (reads mode) _ _ r;
        marked = refl;
      }

  later_draft : (before : List ℕ) (number card count : ℕ) (b : Lot V) → Draft (card ∷ before) (number + 1) count b → Draft before number (suc count) b
  later_draft before number card count b d =
      record {
        timed = d.timed;
        low = omega arith;
        high = omega arith;
        card = d.card;
        card_is = d.card_is;
        held = d.held;
        new = (or_parts _ (among b.line.card before) d.new).1;
        mode_from_1 = d.mode_from_1;
        mode_to_3 = d.mode_to_3;
        version = d.version;
        version_is = d.version_is;
        read_is = d.read_is;
        read_own = d.read_own;
        marked = d.marked;
      }

  pub draft : (before : List ℕ) (number : ℕ) (modes cards : List ℕ) (values : List V) → ModesKnown modes → cards_fault site.size site.cards origin before number cards ≡ None → (b : Lot V) → In b (drafts number modes cards values) → Draft before number (length modes) b
  draft before number [] cards values known fair b i = absurd i
  draft before number (mode ∷ modes) [] values known fair b i = absurd i
  draft before number (mode ∷ modes) (card ∷ cards) values known fair b i =
      let parts = both_none (card_fault site.size site.cards origin before number card) _ fair in
      ⊎_elim
      (λ (e : first number mode card values ≡ b). subst (Draft before number (suc (length modes))) e (first_draft before number mode card (length modes) values (fit site.size site.cards origin before number card parts.0) known.0.0 known.0.1))
      (λ r. later_draft before number card (length modes) b (draft (card ∷ before) (number + 1) modes cards (still_to_write mode values) known.1 parts.1 b r))
      i

  first_apart : (before : List ℕ) (number mode card count : ℕ) (values : List V) (a b : Lot V) → first number mode card values ≡ a → Draft (card ∷ before) (number + 1) count b → (a.line.card ≡ b.line.card) ⊎ (a.line.number ≡ b.line.number) → ⊥
  first_apart before number mode card count values a b is d same =
      ⊎_elim
      (λ (e : a.line.card ≡ b.line.card). both_ways _ (or_parts _ (among b.line.card before) d.new).0 (eq-eqb b.line.card card (sym e ∙ sym (ap (λ c. c.line.card) is))))
      (λ (e : a.line.number ≡ b.line.number). let n : number ≡ a.line.number = ap (λ c. c.line.number) is in omega arith)
      same

  -- Of the lines drafted two on one card or with one number are the same.
  pub draft_apart : (before : List ℕ) (number : ℕ) (modes cards : List ℕ) (values : List V) → ModesKnown modes → cards_fault site.size site.cards origin before number cards ≡ None → (a b : Lot V) → In a (drafts number modes cards values) → In b (drafts number modes cards values) → (a.line.card ≡ b.line.card) ⊎ (a.line.number ≡ b.line.number) → a ≡ b
  draft_apart before number [] cards values known fair a b i j same = absurd i
  draft_apart before number (mode ∷ modes) [] values known fair a b i j same = absurd i
  draft_apart before number (mode ∷ modes) (card ∷ cards) values known fair a b i j same =
      let rest_fair = (both_none (card_fault site.size site.cards origin before number card) _ fair).1 in
      let rest : (c : Lot V) → In c (drafts (number + 1) modes cards (still_to_write mode values)) → Draft (card ∷ before) (number + 1) (length modes) c = draft (card ∷ before) (number + 1) modes cards (still_to_write mode values) known.1 rest_fair in
      ⊎_elim
      (λ (e : first number mode card values ≡ a).
      ⊎_elim
      (λ (f : first number mode card values ≡ b). sym e ∙ f)
      (λ r. absurd (first_apart before number mode card (length modes) values a b e (rest b r) same))
      j)
      (λ q.
      ⊎_elim
      (λ (f : first number mode card values ≡ b). absurd (first_apart before number mode card (length modes) values b a f (rest a q) (turned same)))
      (λ r. draft_apart (card ∷ before) (number + 1) modes cards (still_to_write mode values) known.1 rest_fair a b q r same)
      j)
      i
    where
      turned : (a.line.card ≡ b.line.card) ⊎ (a.line.number ≡ b.line.number) → (b.line.card ≡ a.line.card) ⊎ (b.line.number ≡ a.line.number)
      turned s = ⊎_elim (λ (e : a.line.card ≡ b.line.card). inl (sym e)) (λ (e : a.line.number ≡ b.line.number). inr (sym e)) s
