-- What a start names, reads and writes, as its record keeps it. Assumes nothing.
use Rattle.std.proofs.Common.{◌≡◌, ℕ, ◌+◌, Bool, true, false, cond, List, [], ◌∷◌, map, length, get_or, drop, Some, None, Option, unwrap_or, sym, refl, ap, ◌∙◌, subst, inl, inr, arith}
use Rattle.std.proofs.lemmas.Bool.{and_parts, eqb-true}
use Rattle.std.proofs.lemmas.List.{length-map}
use Rattle.terms.specs.Modes.{reads, writes}
use Rattle.book.specs.Meaning.{written_lines}
use Rattle.records.specs.declared.card.Card.{Card}
use Rattle.records.specs.declared.transaction.Entry.{Entry}
use Rattle.records.specs.Present.{card_at}
use Rattle.knowledge.specs.declared.versions.Version.{Version}
use Rattle.knowledge.specs.Knowledge.{Site}
use Rattle.knowledge.specs.Versions.{written}
use Rattle.starting.specs.Drafting.{card_fault, cards_fault, drafted}
use Rattle.starting.specs.Reading.{version_read, values_read}
use Rattle.model.specs.Rules.{Rules}
use Rattle.model.proofs.State.{State, knows_at}
use Rattle.model.proofs.Lots.{lot}
use Rattle.model.proofs.Currents.{VersionFrom, from_opening, from_line, version_from}
use Rattle.model.proofs.Drafted.{both_none, fit, has_version}
use Rattle.model.proofs.Parts.History.{opening_of, CameFrom, ReadAs, values_written}
use Rattle.model.proofs.Parts.Provenance.{Provenance}

module _ {V : Type 0} (site : Site V) (origin time : ℕ) (argument : V) where
  -- The entries of a start are on the cards that it names.
  pub drafted_cards : (number : ℕ) (modes cards : List ℕ) (written : List V) → length modes ≡ length cards → map (λ e. e.card) (drafted site origin time argument number modes cards written) ≡ cards
  drafted_cards number [] [] written e = refl
  drafted_cards number [] (card ∷ cards) written e = absurd (let never : ⊥ = omega arith in never)
  drafted_cards number (mode ∷ modes) [] written e = absurd (let never : ⊥ = omega arith in never)
  drafted_cards number (mode ∷ modes) (card ∷ cards) written e = ap (λ cs. card ∷ cs) (drafted_cards (number + 1) modes cards _ (omega arith))

  pub drafted_length : (number : ℕ) (modes cards : List ℕ) (written : List V) → length modes ≡ length cards → length (drafted site origin time argument number modes cards written) ≡ length modes
  drafted_length number modes cards written e = sym (length-map (drafted site origin time argument number modes cards written) (λ d. d.card)) ∙ ap length (drafted_cards number modes cards written e) ∙ sym e

  -- They write the values that the rule gave.
  pub drafted_written : (number : ℕ) (modes cards : List ℕ) (written : List V) → length modes ≡ length cards → length written ≡ written_lines modes → values_written modes (drafted site origin time argument number modes cards written) ≡ written
  drafted_written number [] cards [] e one_each = refl
  drafted_written number [] cards (v ∷ vs) e one_each = absurd (let never : ⊥ = omega arith in never)
  drafted_written number (mode ∷ modes) [] written e one_each = absurd (let never : ⊥ = omega arith in never)
  drafted_written number (mode ∷ modes) (card ∷ cards) written e one_each = go (λ ws same. drafted_written (number + 1) modes cards ws (omega arith) same) (writes mode) written one_each
    where
      left : List V → List V
      left ws = values_written modes (drafted site origin time argument (number + 1) modes cards ws)

      go : ((ws : List V) → length ws ≡ written_lines modes → left ws ≡ ws) → (b : Bool) (ws : List V) → length ws ≡ cond b (1 + written_lines modes) (written_lines modes) →
          cond b (cond b (get_or ws 0 argument) (version_read site argument card).value ∷ left (cond b (drop 1 ws) ws)) (left (cond b (drop 1 ws) ws)) ≡ ws
      go more true [] same = absurd (let never : ⊥ = omega arith in never)
      go more true (w ∷ ws) same = ap (λ vs. w ∷ vs) (more ws (omega arith))
      go more false ws same = more ws same

-- A site reads the opening value or what a line that it was sent wrote.
module _ {V : Type 0} (rules : Rules V) (S : State V) (from : Provenance rules S) (s : ℕ) where
  version_came : (number : ℕ) (v : Version V) → VersionFrom (knows_at S s) false number v → CameFrom rules S s number v.time v.value
  version_came number v (from_opening card is e) = inl (ap (λ w. w.time) (sym e), ap opening_of is ∙ ap (λ w. Some w.value) e)
  version_came number v (from_line l i w e) =
      let tests = and_parts _ _ (and_parts _ _ (and_parts _ _ w).0).0 in
      let started = from.lines s l i in
      inr (record {
        writer = lot l started.mark;
        noted = started.noted;
        timed = ap (λ w. w.time) e;
        on_card = eqb-true _ _ tests.0;
        does_write = tests.1;
        wrote = ap (λ w. w.value) e;
        reached = from.lines_here s l i;
      })

  read_came : (argument : V) (number : ℕ) (card : Card V) → card_at S.size S.cards number ≡ Some card → CameFrom rules S s number (version_read (knows_at S s) argument number).time (version_read (knows_at S s) argument number).value
  read_came argument number card is =
      let v = has_version (knows_at S s) number card is in
      subst (λ (o : Option (Version V)). CameFrom rules S s number (unwrap_or o (record { time = 0; value = argument })).time (unwrap_or o (record { time = 0; value = argument })).value) (sym v.1) (version_came number v.0 (version_from (knows_at S s) false number v.0 v.1))

  -- The lines of a start have read what it handed to its rule.
  pub drafted_read : (time : ℕ) (argument : V) (number : ℕ) (before modes cards : List ℕ) (given : List V) → cards_fault S.size S.cards s before number cards ≡ None → ReadAs rules S s modes (drafted (knows_at S s) s time argument number modes cards given) (values_read (knows_at S s) argument modes cards)
  drafted_read time argument number before [] cards given faultless = refl
  drafted_read time argument number before (mode ∷ modes) [] given faultless = refl
  drafted_read time argument number before (mode ∷ modes) (card ∷ cards) given faultless =
      let tests = both_none (card_fault S.size S.cards s before number card) _ faultless in
      let ok = fit S.size S.cards s before number card tests.0 in
      go (read_came argument card ok.card ok.card_is) (drafted_read time argument (number + 1) (card ∷ before) modes cards _ tests.1) (reads mode)
    where
      es : List (Entry V)
      es = drafted (knows_at S s) s time argument (number + 1) modes cards (cond (writes mode) (drop 1 given) given)

      vs : List V
      vs = values_read (knows_at S s) argument modes cards

      read : Version V
      read = version_read (knows_at S s) argument card

      go : CameFrom rules S s card read.time read.value → ReadAs rules S s modes es vs → (b : Bool) →
          cond b ((v : V) × (rest : List V) × (cond b (read.value ∷ vs) vs ≡ v ∷ rest) × CameFrom rules S s card (cond b read.time time) v × ReadAs rules S s modes es rest) (ReadAs rules S s modes es (cond b (read.value ∷ vs) vs))
      go came more true = (read.value, vs, refl, came, more)
      go came more false = more
