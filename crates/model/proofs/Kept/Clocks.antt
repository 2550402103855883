-- Each accepted call keeps the counters ahead. Assumes nothing.
use Rattle.std.proofs.Common.{◌≡◌, ℕ, ◌+◌, ◌≤◌, ◌⊎◌, List, [], ◌∷◌, ◌++◌, map, length, sym, ap, ◌∙◌, subst, inl, inr, ⊎_elim, arith}
use Rattle.std.specs.List.{remove}
use Rattle.std.proofs.lemmas.List.{length_push, length-map}
use Rattle.std.proofs.lemmas.Bool.{cases_eq}
use Rattle.terms.specs.declared.outcome.Outcome.{Outcome}
use Rattle.terms.specs.Lists.{In}
use Rattle.terms.specs.Times.{counter_of, site_of}
use Rattle.records.specs.declared.line.Line.{Line}
use Rattle.records.specs.declared.message.Message.{Message}
use Rattle.records.specs.declared.transaction.Transaction.{Transaction}
use Rattle.starting.specs.declared.start.Order.{Order}
use Rattle.delivering.specs.declared.effect.Effect.{Effect}
use Rattle.steps.specs.Numbers.{stopped}
use Rattle.model.specs.Rules.{Rules}
use Rattle.model.specs.Single.{Noted}
use Rattle.model.specs.World.{Change}
use Rattle.model.proofs.State.{State, moved}
use Rattle.model.proofs.Lots.{lot}
use Rattle.model.proofs.Moves.{Starting, started_state, start_moves, Delivering, Taking, delivered_state, deliver_moves, Settling, settled_state, settle_moves}
use Rattle.model.proofs.Invariant.{Invariant}
use Rattle.model.proofs.Members.{in_push, in_nth, in_map, map_in}
use Rattle.model.proofs.Grown.{landed_before, counter_there, counter_elsewhere}
use Rattle.model.proofs.Drafts.{landing_lot, drafted_lot, lot_owner, start_site}
use Rattle.model.proofs.Starts.{start_counter}
use Rattle.model.proofs.Remarks.{times_after}
use Rattle.model.proofs.Arrivals.{lands_line}
use Rattle.model.proofs.Parts.Clocks.{Clocks}

-- A change that lowers no counter, at a state whose counters are ahead.
module _ {V : Type 0} (S : State V) (clocks : Clocks S) (waiting : List (Message V)) (delivered : ℕ) (xs : List (Transaction V)) (c : Change V) (up : S.counter c.site ≤ c.counter) where
  abbrev after : State V
  after = moved S waiting delivered xs c

  grows : (s : ℕ) → S.counter s ≤ after.counter s
  grows s =
      ⊎_elim
      (λ (e : s ≡ c.site). subst (λ k. S.counter k ≤ after.counter k) (sym e) (let there = counter_there S waiting delivered xs c in omega arith))
      (λ (ne : s ≡ c.site → ⊥). let same = counter_elsewhere S waiting delivered xs c s ne in omega arith)
      (cases_eq s c.site)

  -- The counters stay ahead if the change's lines and its transactions are not above them, and few enough.
  clocks_after :
      ((l : Line V) → In l c.lines → counter_of l.time ≤ c.counter) →
      ((x : Transaction V) → In x xs → (counter_of x.time ≤ S.counter (site_of x.time)) ⊎ ((site_of x.time ≡ c.site) × (counter_of x.time ≤ c.counter))) →
      length S.transactions ≤ length xs → c.counter ≤ length xs → length xs ≤ S.size.transactions → Clocks after
  clocks_after lands starts more counted few =
      record {
        landed = λ s l i.
            ⊎_elim
            (λ old. let ahead = clocks.landed s l old in let up_to_lem = grows s in omega arith)
            (λ (new : (s ≡ c.site) × In l c.lines). subst (λ k. counter_of l.time ≤ after.counter k) (sym new.0) (let there = counter_there S waiting delivered xs c in let ahead = lands l new.1 in omega arith))
            (landed_before S waiting delivered xs c s l i);
        started = λ x i.
            ⊎_elim
            (λ (old : counter_of x.time ≤ S.counter (site_of x.time)). let up_to_lem = grows (site_of x.time) in omega arith)
            (λ (new : (site_of x.time ≡ c.site) × (counter_of x.time ≤ c.counter)). subst (λ k. counter_of x.time ≤ after.counter k) (sym new.0) (let there = counter_there S waiting delivered xs c in let ahead = new.1 in omega arith))
            (starts x i);
        counted = λ s.
            ⊎_elim
            (λ (e : s ≡ c.site). subst (λ k. after.counter k ≤ length xs) (sym e) (let there = counter_there S waiting delivered xs c in omega arith))
            (λ (ne : s ≡ c.site → ⊥). let same = counter_elsewhere S waiting delivered xs c s ne in let before = clocks.counted s in omega arith)
            (cases_eq s c.site);
        not_over = few;
        sites_few = clocks.sites_few;
        transactions_few = clocks.transactions_few;
      }

module _ {V : Type 0} (rules : Rules V) (S : State V) (hs : List (Noted V)) (inv : Invariant rules S hs) where
  pub start_clocks : (order : Order V) (x : Transaction V) (written : List V) → Starting rules S order x written → Clocks (started_state rules S order x)
  start_clocks order x written go =
      let counter = start_counter rules S order x written go inv.clocks in
      let long = length_push S.transactions x in
      let before = inv.clocks.counted order.origin in
      let full = go.not_full in
      clocks_after S inv.clocks S.waiting S.delivered (S.transactions ++ x ∷ []) (start_moves rules S order x) (omega arith)
      (λ l i. let b = landing_lot rules S order x written go l i in let timed : l.time ≡ x.time = (drafted_lot rules S order x written go (lot l b.0) b.1).timed in let now : counter_of l.time ≡ counter_of x.time = ap counter_of timed in omega arith)
      (λ y i.
      ⊎_elim
      (λ old. inl (inv.clocks.started y old))
      (λ (e : x ≡ y). inr (subst (λ z. (site_of z.time ≡ order.origin) × (counter_of z.time ≤ S.counter order.origin + 1)) e (start_site rules S order x written go inv.clocks.sites_few, (omega arith))))
      (in_push y x S.transactions i))
      (omega arith) (omega arith) (omega arith)

  -- The time of a message that waits is one of a transaction started.
  message_counted : (m : Message V) → In m S.waiting → counter_of m.line.time ≤ length S.transactions
  message_counted m i =
      let o = (inv.provenance.messages m i).started in
      let y = lot_owner rules S.transactions (lot m.line o.mark) o.noted in
      let ahead = inv.clocks.started y.0 y.1 in
      let counted = inv.clocks.counted (site_of y.0.time) in
      let same : counter_of m.line.time ≡ counter_of y.0.time = ap counter_of y.3 in
      omega arith

  pub deliver_clocks : (place : ℕ) (m : Message V) (e : Effect V) (xs : List (Transaction V)) → Taking rules S place m → Delivering rules S m e xs → Clocks (delivered_state rules S place m e xs)
  deliver_clocks place m e xs taking go =
      let time : Transaction V → ℕ = λ y. y.time in
      let times : map time xs ≡ map time S.transactions = times_after rules S m e xs go in
      let long : length xs ≡ length S.transactions = sym (length-map xs time) ∙ ap length times ∙ length-map S.transactions time in
      let new = message_counted m (in_nth m S.waiting place taking.waited) in
      let before = inv.clocks.counted m.to in
      let over = inv.clocks.not_over in
      clocks_after S inv.clocks (remove S.waiting place) (stopped S.delivered 1) xs (deliver_moves rules S m e) (omega arith)
      (λ l i. let same : counter_of m.line.time ≡ counter_of l.time = ap (λ k. counter_of k.time) (lands_line rules S m e xs go l i).1 in omega arith)
      (λ y i.
      let z = map_in time y.time S.transactions (subst (In y.time) times (in_map time y xs i)) in
      inl (subst (λ t. counter_of t ≤ S.counter (site_of t)) z.2 (inv.clocks.started z.0 z.1)))
      (omega arith) (omega arith) (omega arith)

  pub settle_clocks : (n : ℕ) (x : Transaction V) (outcome : Outcome) → Settling rules S n x outcome → Clocks (settled_state rules S x outcome)
  settle_clocks n x outcome go =
      clocks_after S inv.clocks S.waiting S.delivered S.transactions (settle_moves rules S x outcome) (omega arith)
      (λ l i. absurd i) (λ y i. inl (inv.clocks.started y i)) (omega arith) (inv.clocks.counted (site_of x.time)) inv.clocks.not_over
