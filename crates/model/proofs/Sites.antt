-- Where lines go: to holders of their card, which are sites of the sitting. Assumes nothing.
use Rattle.std.proofs.Common.{◌≡◌, ℕ, ◌%◌, ◌^◌, ◌<◌, ◌≤◌, Bool, true, false, cond, not, ◌&&◌, eqb, ltb, List, Some, None, Option, sym, ap, ◌∙◌, subst, ⊎_elim, arith, pow_mono}
use Rattle.std.specs.List.{slice_get}
use Rattle.std.proofs.lemmas.Bool.{cases_lt, and_parts, and_from, both_ways, eqb-true, eq-eqb, ne_eqb, ltb-true, cond-true, not-true, not_from_false, false≢true}
use Rattle.terms.specs.Modes.{writes}
use Rattle.terms.specs.Times.{site_of}
use Rattle.records.specs.declared.card.Card.{Card}
use Rattle.records.specs.declared.line.Line.{Line}
use Rattle.records.specs.declared.size.Size.{Size}
use Rattle.records.specs.declared.transaction.Transaction.{Transaction}
use Rattle.records.specs.Present.{card_at, card_present, if_present, holds, time_in_range, transaction_present}
use Rattle.records.proofs.Masks.{shifted_out}
use Rattle.site.specs.Lines.{goes_to}
use Rattle.model.proofs.State.{State}
use Rattle.model.proofs.Lots.{origin, card_in, primary, primary_of, Goes}
use Rattle.model.proofs.Cases.{none_some, if_some, some_of}

past_holders : (h n s : ℕ) → h < 2 ^ n → n ≤ s → holds h s ≡ false
past_holders h n s below past = let more = pow_mono past in ap (λ k. eqb (k % 2) 1) (shifted_out h s (omega arith))

module _ {V : Type 0} where
  -- A card found present is the declared one, and in range.
  pub found_present : (size : Size) (o : Option (Card V)) (card : Card V) → if_present size o ≡ Some card → (o ≡ Some card) × (card_present size card ≡ true)
  found_present size None card e = absurd (none_some card e)
  found_present size (Some c) card e = let k = if_some (card_present size c) c card e in (ap Some k.1, ap (card_present size) (sym k.1) ∙ k.0)

  -- The origin of a transaction in range is a site of the sitting.
  pub present_ranged : (size : Size) (cards : List (Card V)) (lines : ℕ) (x : Transaction V) → transaction_present size cards lines x ≡ true → time_in_range size x.time ≡ true
  present_ranged size cards lines x is = (and_parts _ _ (and_parts _ _ (and_parts _ _ is).0).0).0

  pub present_there : (size : Size) (cards : List (Card V)) (lines : ℕ) (x : Transaction V) → transaction_present size cards lines x ≡ true → site_of x.time < size.sites
  present_there size cards lines x is = ltb-true _ _ (and_parts _ _ (present_ranged size cards lines x is)).1

  parts : (size : Size) (cards : List (Card V)) (number : ℕ) (card : Card V) → card_at size cards number ≡ Some card → (card.holders < 2 ^ size.sites) × (holds card.holders card.primary ≡ true)
  parts size cards number card is =
      let both = and_parts (ltb 0 card.holders && ltb card.holders (2 ^ size.sites)) (holds card.holders card.primary) (found_present size (slice_get cards number) card is).1 in
      (ltb-true card.holders (2 ^ size.sites) (and_parts (ltb 0 card.holders) _ both.0).1, both.1)

  -- A holder of a card that is present is a site of the sitting.
  pub holder_there : (size : Size) (cards : List (Card V)) (number : ℕ) (card : Card V) (s : ℕ) → card_at size cards number ≡ Some card → holds card.holders s ≡ true → s < size.sites
  holder_there size cards number card s is h =
      ⊎_elim
      (λ (l : s < size.sites). l)
      (λ (l : size.sites ≤ s). absurd (both_ways _ (past_holders card.holders size.sites s (parts size cards number card is).0 l) h))
      (cases_lt s size.sites)

  -- The primary of a card that is present holds it.
  primary_holds : (size : Size) (cards : List (Card V)) (number : ℕ) (card : Card V) → card_at size cards number ≡ Some card → holds card.holders card.primary ≡ true
  primary_holds size cards number card is = (parts size cards number card is).1

  -- What a site to which a line goes is.
  goes_parts : (S : State V) (l : Line V) (card : Card V) (d : ℕ) → card_in S l ≡ Some card → Goes S l d → (eqb d (origin l) ≡ false) × (cond (writes l.mode) (holds card.holders d) (eqb d card.primary) ≡ true)
  goes_parts S l card d is g =
      let both = and_parts (not (eqb d (origin l))) _ (subst (λ o. goes_to (origin l) l.mode o d ≡ true) is g) in
      (not-true _ both.0, both.1)

  -- A line that goes somewhere has a card.
  goes_card : (S : State V) (l : Line V) (d : ℕ) → Goes S l d → (card : Card V) × (card_in S l ≡ Some card)
  goes_card S l d g = some_of (card_in S l) (λ e. false≢true (subst (λ o. goes_to (origin l) l.mode o d ≡ true) e g))

  -- A site to which a line goes holds its card.
  pub goes_holds : (S : State V) (l : Line V) (card : Card V) (d : ℕ) → card_in S l ≡ Some card → Goes S l d → holds card.holders d ≡ true
  goes_holds S l card d is g = go (writes l.mode) (goes_parts S l card d is g).1
    where
      go : (b : Bool) → cond b (holds card.holders d) (eqb d card.primary) ≡ true → holds card.holders d ≡ true
      go true h = h
      go false h = ap (holds card.holders) (eqb-true d card.primary h) ∙ primary_holds S.size S.cards l.card card is

  -- A line goes to sites of the sitting.
  pub goes_there : (S : State V) (l : Line V) (d : ℕ) → Goes S l d → d < S.size.sites
  goes_there S l d g = let c = goes_card S l d g in holder_there S.size S.cards l.card c.0 d c.1 (goes_holds S l c.0 d c.1 g)

  goes_from : (S : State V) (l : Line V) (card : Card V) (d : ℕ) → card_in S l ≡ Some card → (d ≡ origin l → ⊥) → cond (writes l.mode) (holds card.holders d) (eqb d card.primary) ≡ true → Goes S l d
  goes_from S l card d is ne h = subst (λ o. goes_to (origin l) l.mode o d ≡ true) (sym is) (and_from (not (eqb d (origin l))) _ (not_from_false _ (ne_eqb d (origin l) ne)) h)

  -- A line whose primary is elsewhere goes there.
  pub goes_to_primary : (S : State V) (l : Line V) (card : Card V) → card_in S l ≡ Some card → (primary S l ≡ origin l → ⊥) → Goes S l (primary S l)
  goes_to_primary S l card is ne = goes_from S l card (primary S l) is ne (go (writes l.mode))
    where
      at : primary S l ≡ card.primary
      at = ap primary_of is

      go : (b : Bool) → cond b (holds card.holders (primary S l)) (eqb (primary S l) card.primary) ≡ true
      go true = ap (holds card.holders) at ∙ primary_holds S.size S.cards l.card card is
      go false = eq-eqb (primary S l) card.primary at

  -- A line that writes goes to every other holder.
  pub goes_to_holder : (S : State V) (l : Line V) (card : Card V) (d : ℕ) → card_in S l ≡ Some card → writes l.mode ≡ true → holds card.holders d ≡ true → (d ≡ origin l → ⊥) → Goes S l d
  goes_to_holder S l card d is w h ne = goes_from S l card d is ne (cond-true (writes l.mode) _ _ w ∙ h)
