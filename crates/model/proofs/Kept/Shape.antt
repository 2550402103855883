-- Each accepted call keeps the shape of what was started. Assumes nothing.
use Rattle.std.proofs.Common.{◌≡◌, ℕ, ◌+◌, ◌≤◌, true, ◌⊎◌, List, [], ◌∷◌, map, length, is_some, sym, refl, ap, ◌∙◌, subst, inl, inr, ⊎_elim, arith}
use Rattle.std.proofs.lemmas.List.{map_push}
use Rattle.std.proofs.lemmas.Bool.{and_from, le-leb, lt-ltb, eq-eqb}
use Rattle.terms.specs.declared.outcome.Outcome.{Outcome}
use Rattle.terms.specs.Few.{few_list}
use Rattle.terms.specs.Lists.{In, all}
use Rattle.records.specs.declared.card.Card.{Card}
use Rattle.records.specs.declared.line.Line.{Line}
use Rattle.records.specs.declared.message.Message.{Message}
use Rattle.records.specs.declared.size.Size.{Size}
use Rattle.records.specs.declared.transaction.Entry.{Entry}
use Rattle.records.specs.declared.transaction.Transaction.{Transaction}
use Rattle.records.specs.Present.{time_in_range, holds, card_at, entry_present, transaction_present}
use Rattle.starting.specs.declared.start.Order.{Order}
use Rattle.delivering.specs.declared.effect.Effect.{Effect}
use Rattle.delivering.specs.Marks.{transaction_marked}
use Rattle.delivering.proofs.Marking.{present_alike}
use Rattle.model.specs.Rules.{Rules}
use Rattle.model.specs.Single.{Noted}
use Rattle.model.specs.World.{Change}
use Rattle.model.proofs.State.{State, knows_at, moved}
use Rattle.model.proofs.Lots.{Lot, lots_from, lots_of, lots, all_lots}
use Rattle.model.proofs.Moves.{Starting, started_state, Delivering, Taking, delivered_state, Settling, settled_state}
use Rattle.model.proofs.Invariant.{Invariant}
use Rattle.model.proofs.Members.{in_push, in_nth, in_set, map_in}
use Rattle.model.proofs.Apart.{distinct_push}
use Rattle.model.proofs.Drafts.{lot_started, drafted_lot, drafted_origin, drafted_apart}
use Rattle.model.proofs.Readings.{drafted_length}
use Rattle.model.proofs.Starts.{start_ranged, time_fresh, lot_fresh, read_earlier}
use Rattle.model.proofs.Remarks.{times_after, marks_one}
use Rattle.model.proofs.Arrivals.{remarked, lots_after, each_delivered}
use Rattle.model.proofs.Checked.{read_not_above}
use Rattle.model.proofs.Parts.Shape.{Shaped, Distinct, Shape}

module _ {V : Type 0} where
  -- Entries are in range if their lines are.
  entries_present : (size : Size) (cards : List (Card V)) (time number : ℕ) (modes : List ℕ) (es : List (Entry V)) → length es ≡ length modes → ((b : Lot V) → In b (lots_from time number modes es) → (is_some (card_at size cards b.line.card) ≡ true) × (b.line.read ≤ time)) → all (entry_present size cards time) es ≡ true
  entries_present size cards time number modes [] same good = refl
  entries_present size cards time number [] (e ∷ es) same good = absurd (let never : ⊥ = omega arith in never)
  entries_present size cards time number (mode ∷ modes) (e ∷ es) same good =
      let first = good _ (inl refl) in
      and_from (entry_present size cards time e) _ (and_from _ _ first.0 (le-leb e.read time first.1)) (entries_present size cards time (number + 1) modes es (omega arith) (λ b i. good b (inr i)))

  -- The shape of a line is a matter of the size and the cards alone.
  shaped_still : (S : State V) (waiting : List (Message V)) (delivered : ℕ) (xs : List (Transaction V)) (c : Change V) (l : Line V) → Shaped S l → Shaped (moved S waiting delivered xs c) l
  shaped_still S waiting delivered xs c l s =
      record {
        ranged = s.ranged;
        from_1 = s.from_1;
        to_4 = s.to_4;
        card = s.card;
        card_is = s.card_is;
        held = s.held;
        mode_from_1 = s.mode_from_1;
        mode_to_3 = s.mode_to_3;
        read_before = s.read_before;
        read_own = s.read_own;
      }

module _ {V : Type 0} (rules : Rules V) (S : State V) (hs : List (Noted V)) (inv : Invariant rules S hs) where
  module _ (order : Order V) (x : Transaction V) (written : List V) (go : Starting rules S order x written) where
    new_shaped : (b : Lot V) → In b (lots_of rules x) → Shaped S b.line
    new_shaped b i =
        let d = drafted_lot rules S order x written go b i in
        record {
          ranged = ap (time_in_range S.size) d.timed ∙ start_ranged rules S order x written go inv.clocks;
          from_1 = d.low;
          to_4 = omega (arith, d.high, go.few_lines);
          card = d.card;
          card_is = d.card_is;
          held = ap (holds d.card.holders) (drafted_origin rules S order x written go inv.clocks.sites_few b i) ∙ d.held;
          mode_from_1 = d.mode_from_1;
          mode_to_3 = d.mode_to_3;
          read_before = read_earlier rules S order x written go inv.clocks b i;
          read_own = λ r. d.read_own r ∙ sym d.timed;
        }

    new_present : transaction_present S.size S.cards (length (rules.modes x.rule)) x ≡ true
    new_present =
        let lines : length (rules.modes x.rule) ≡ length (rules.modes order.rule) = ap (λ r. length (rules.modes r)) go.rule_is in
        let some_lines = go.some_lines in
        let drawn : length (few_list x.entries) ≡ length (rules.modes x.rule) = ap length go.entries_are ∙ drafted_length (knows_at S order.origin) order.origin x.time order.argument 1 (rules.modes order.rule) (few_list order.cards) written go.paired ∙ sym lines in
        and_from _ _
        (and_from _ _ (and_from _ _ (start_ranged rules S order x written go inv.clocks) (lt-ltb 0 (length (rules.modes x.rule)) (omega arith))) (eq-eqb (length (few_list x.entries)) (length (rules.modes x.rule)) drawn))
        (entries_present S.size S.cards x.time 1 (rules.modes x.rule) (few_list x.entries) drawn entry_good)
      where
        entry_good : (b : Lot V) → In b (lots_of rules x) → (is_some (card_at S.size S.cards b.line.card) ≡ true) × (b.line.read ≤ x.time)
        entry_good b i =
            let d = drafted_lot rules S order x written go b i in
            (ap is_some d.card_is, subst (λ t. b.line.read ≤ t) d.timed (read_not_above S b.line (new_shaped b i)))

  pub start_shape : (order : Order V) (x : Transaction V) (written : List V) → Starting rules S order x written → Shape rules (started_state rules S order x)
  start_shape order x written go =
      record {
        shaped = λ b i. shaped_still S _ _ _ _ b.line (⊎_elim (λ old. inv.shape.shaped b old) (λ new. new_shaped order x written go b new) (lot_started rules S order x written go b i));
        one_each = λ a b i j timed same. apart a b timed same (lot_started rules S order x written go a i) (lot_started rules S order x written go b j);
        present = λ y i. ⊎_elim (λ old. inv.shape.present y old) (λ (e : x ≡ y). subst (λ z. transaction_present S.size S.cards (length (rules.modes z.rule)) z ≡ true) e (new_present order x written go)) (in_push y x S.transactions i);
        times_differ =
            subst Distinct (sym (map_push (λ y. y.time) S.transactions x))
            (distinct_push (map (λ y. y.time) S.transactions) x.time inv.shape.times_differ (time_fresh rules S order x written go inv.clocks));
      }
    where
      new_lot : (a b : Lot V) → a.line.time ≡ b.line.time → In a (lots rules S) → In b (lots_of rules x) → ⊥
      new_lot a b timed i j = lot_fresh rules S order x written go inv.clocks a i (timed ∙ (drafted_lot rules S order x written go b j).timed)

      apart : (a b : Lot V) → a.line.time ≡ b.line.time → (a.line.card ≡ b.line.card) ⊎ (a.line.number ≡ b.line.number) → In a (lots rules S) ⊎ In a (lots_of rules x) → In b (lots rules S) ⊎ In b (lots_of rules x) → a ≡ b
      apart a b timed same (inl i) (inl j) = inv.shape.one_each a b i j timed same
      apart a b timed same (inl i) (inr j) = absurd (new_lot a b timed i j)
      apart a b timed same (inr i) (inl j) = absurd (new_lot b a (sym timed) j i)
      apart a b timed same (inr i) (inr j) = drafted_apart rules S order x written go a b i j same

  present_after : (m : Message V) (e : Effect V) (xs : List (Transaction V)) → Delivering rules S m e xs → (y : Transaction V) → In y xs → transaction_present S.size S.cards (length (rules.modes y.rule)) y ≡ true
  present_after m e xs go =
      marks_one rules S m e xs go (λ ys. (y : Transaction V) → In y ys → transaction_present S.size S.cards (length (rules.modes y.rule)) y ≡ true) inv.shape.present
      (λ k place x found y i.
      ⊎_elim
      (λ (is : transaction_marked k m.line.number x ≡ y).
      subst (λ z. transaction_present S.size S.cards (length (rules.modes z.rule)) z ≡ true) is
      (present_alike k m.line.number x S.size S.cards (length (rules.modes x.rule)) ∙ inv.shape.present x (in_nth x S.transactions place found)))
      (λ old. inv.shape.present y old)
      (in_set y (transaction_marked k m.line.number x) S.transactions place i))

  pub deliver_shape : (place : ℕ) (m : Message V) (e : Effect V) (xs : List (Transaction V)) → Taking rules S place m → Delivering rules S m e xs → Shape rules (delivered_state rules S place m e xs)
  deliver_shape place m e xs taking go =
      record {
        shaped = each_delivered rules S m inv.shape e xs go (λ b. Shaped (delivered_state rules S place m e xs) b.line) (λ b i. shaped_still S _ _ _ _ b.line (inv.shape.shaped b i));
        one_each = λ a b i j timed same. remarked_apart a b timed same (was a i) (was b j);
        present = present_after m e xs go;
        times_differ = subst Distinct (sym (times_after rules S m e xs go)) inv.shape.times_differ;
      }
    where
      was : (b : Lot V) → In b (all_lots rules xs) → (c : Lot V) × In c (lots rules S) × (remarked m c ≡ b)
      was b i = map_in (remarked m) b (lots rules S) (subst (In b) (lots_after rules S m inv.shape e xs go) i)

      remarked_apart : (a b : Lot V) → a.line.time ≡ b.line.time → (a.line.card ≡ b.line.card) ⊎ (a.line.number ≡ b.line.number) → (c : Lot V) × In c (lots rules S) × (remarked m c ≡ a) → (c : Lot V) × In c (lots rules S) × (remarked m c ≡ b) → a ≡ b
      remarked_apart a b timed same (c, i, p) (d, j, q) =
          let line_a : c.line ≡ a.line = ap (λ h. h.line) p in
          let line_b : d.line ≡ b.line = ap (λ h. h.line) q in
          sym p ∙ ap (remarked m) (inv.shape.one_each c d i j (cc) (⊎_elim (λ (f : a.line.card ≡ b.line.card). inl (cc)) (λ (f : a.line.number ≡ b.line.number). inr (cc)) same)) ∙ q

  pub settle_shape : (n : ℕ) (x : Transaction V) (outcome : Outcome) → Settling rules S n x outcome → Shape rules (settled_state rules S x outcome)
  settle_shape n x outcome go =
      record {
        shaped = λ b i. shaped_still S _ _ _ _ b.line (inv.shape.shaped b i);
        one_each = inv.shape.one_each;
        present = inv.shape.present;
        times_differ = inv.shape.times_differ;
      }
