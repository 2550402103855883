-- Each accepted call keeps what the list of calls tells. Assumes nothing.
use Rattle.std.proofs.Common.{◌≡◌, ℕ, ◌+◌, ◌-◌, cond, eqb, List, [], ◌∷◌, ◌++◌, map, length, Some, None, sym, refl, ap, ◌∙◌, subst, ⊎_elim, arith}
use Rattle.std.specs.List.{slice_get, remove}
use Rattle.std.proofs.lemmas.Bool.{cases_eq, eq-eqb, ne_eqb, cond-true, cond-false}
use Rattle.terms.specs.declared.outcome.Outcome.{Outcome}
use Rattle.terms.specs.Few.{few_list}
use Rattle.terms.specs.Times.{site_of}
use Rattle.records.specs.declared.message.Message.{Message}
use Rattle.records.specs.declared.transaction.Transaction.{Transaction}
use Rattle.starting.specs.declared.start.Order.{Order}
use Rattle.starting.specs.Drafting.{drafted}
use Rattle.delivering.specs.declared.effect.Effect.{Effect}
use Rattle.steps.specs.Numbers.{stopped}
use Rattle.model.specs.Calls.{Started}
use Rattle.model.specs.Rules.{Rules}
use Rattle.model.specs.Runs.{start_accepted}
use Rattle.model.specs.Single.{Noted, note, turned, decided}
use Rattle.model.proofs.State.{State, knows_at}
use Rattle.model.proofs.Moves.{reads_of, Starting, start_moves, started_state, Delivering, Taking, deliver_moves, delivered_state, Settling, settle_moves, settled_state}
use Rattle.model.proofs.Invariant.{Invariant}
use Rattle.model.proofs.Members.{in_nth}
use Rattle.model.proofs.Apart.{one_place}
use Rattle.model.proofs.Grown.{told_same}
use Rattle.model.proofs.Drafts.{start_site, lot_old}
use Rattle.model.proofs.Readings.{drafted_cards, drafted_written, drafted_read}
use Rattle.model.proofs.Starts.{start_untold}
use Rattle.model.proofs.Remarks.{marks_one}
use Rattle.model.proofs.Arrivals.{remarked, lot_after, told_at_home}
use Rattle.model.proofs.Telling.{settle_tells, settle_quiet}
use Rattle.model.proofs.Carried.{told_home, noted_set, noted_push, noted_through, noted_stays, noted_keeps}
use Rattle.model.proofs.Parts.History.{ReadAs, values_written, NotedAs, NotedFrom, History}

-- The answer to a start: the transaction's number and its time.
abbrev pub started_as : {V : Type 0} → State V → Transaction V → Started
started_as S x = record { number = length S.transactions + 1; time = x.time }

module _ {V : Type 0} (rules : Rules V) (S : State V) (hs : List (Noted V)) (inv : Invariant rules S hs) where
  module _ (order : Order V) (x : Transaction V) (written : List V) (go : Starting rules S order x written) where
    start_noted : NotedAs rules S (length S.transactions + 1) (record { number = length S.transactions + 1; time = x.time; rule = order.rule; argument = order.argument; cards = few_list order.cards; read = reads_of rules S order; written = written; outcome = None }) x
    start_noted =
        record {
          number_is = refl;
          time_is = refl;
          rule_is = sym go.rule_is;
          cards_are = sym (ap (map (λ e. e.card)) go.entries_are ∙ drafted_cards (knows_at S order.origin) order.origin x.time order.argument 1 modes cards written go.paired);
          outcome_is = sym (start_untold rules S order x written go inv.clocks inv.provenance (site_of x.time));
          answered = go.gave;
          written_are =
              ap (λ r. values_written (rules.modes r) (few_list x.entries)) go.rule_is ∙ ap (values_written modes) go.entries_are
              ∙ drafted_written (knows_at S order.origin) order.origin x.time order.argument 1 modes cards written go.paired go.one_each;
          read_are =
              subst (λ r. ReadAs rules S (site_of x.time) (rules.modes r) (few_list x.entries) (reads_of rules S order)) (sym go.rule_is)
              (subst (λ es. ReadAs rules S (site_of x.time) modes es (reads_of rules S order)) (sym go.entries_are)
              (subst (λ s. ReadAs rules S s modes (drafted (knows_at S order.origin) order.origin x.time order.argument 1 modes cards written) (reads_of rules S order)) (sym (start_site rules S order x written go inv.clocks.sites_few))
              (drafted_read rules S inv.provenance order.origin x.time order.argument 1 [] modes cards written go.faultless)));
        }
      where
        modes : List ℕ
        modes = rules.modes order.rule

        cards : List ℕ
        cards = few_list order.cards

  pub start_history : (order : Order V) (x : Transaction V) (written : List V) → Starting rules S order x written → History rules (started_state rules S order x) (note hs (start_accepted order (started_as S x) (reads_of rules S order) written))
  start_history order x written go =
      record {
        noted =
            noted_keeps rules S S.waiting S.delivered (S.transactions ++ x ∷ []) (start_moves rules S order x) (λ b i. (b.mark, lot_old rules S order x written go b i)) 1 _ (S.transactions ++ x ∷ [])
            (λ y i. told_same S S.waiting S.delivered (S.transactions ++ x ∷ []) (start_moves rules S order x) (site_of y.time) y.time refl)
            (noted_push rules S 1 (length S.transactions + 1) hs _ S.transactions x (omega arith) inv.history.noted (start_noted order x written go));
      }

  pub deliver_history : (place : ℕ) (m : Message V) (e : Effect V) (xs : List (Transaction V)) → Taking rules S place m → Delivering rules S m e xs → History rules (delivered_state rules S place m e xs) hs
  deliver_history place m e xs taking go =
      record { noted = noted_keeps rules S (remove S.waiting place) (stopped S.delivered 1) xs (deliver_moves rules S m e) (λ b i. ((remarked m b).mark, lot_after rules S m inv.shape e xs go b i)) 1 hs xs (λ x i. told_at_home rules S m place e xs (inv.provenance.messages m (in_nth m S.waiting place taking.waited)).sent_as go x.time) noted }
    where
      noted : NotedFrom rules S 1 hs xs
      noted = marks_one rules S m e xs go (NotedFrom rules S 1 hs) inv.history.noted (λ k place' x found. noted_set rules S k m.line.number 1 hs S.transactions place' x found inv.history.noted)

  module _ (n : ℕ) (x : Transaction V) (outcome : Outcome) (go : Settling rules S n x outcome) where
    -- The outcome that is noted after a settlement is what the origin then tells: of the one settled, and of any other.
    settle_told : (k i : ℕ) (y : Transaction V) → k ≡ 1 + i → slice_get S.transactions i ≡ Some y → cond (eqb k n) (turned outcome (told_home S y)) (told_home S y) ≡ told_home (settled_state rules S x outcome) y
    settle_told k i y e at =
        ⊎_elim
        (λ (here : k ≡ n). cond-true _ _ _ (eq-eqb k n here) ∙ subst (λ z. turned outcome (told_home S z) ≡ told_home (settled_state rules S x outcome) z) (found_here here) (ap (turned outcome) go.undecided ∙ sym (settle_tells rules S n x outcome go x.time refl)))
        (λ (other : k ≡ n → ⊥). cond-false _ _ _ (ne_eqb k n other) ∙ sym (settle_quiet rules S n x outcome go (site_of y.time) y.time (λ same. other (numbered (one_place (λ z. z.time) S.transactions inv.shape.times_differ (n - 1) i x y go.found at same)))))
        (cases_eq k n)
      where
        found_here : k ≡ n → x ≡ y
        found_here here = let place : n - 1 ≡ i = omega arith in let found : slice_get S.transactions i ≡ Some x = subst (λ j. slice_get S.transactions j ≡ Some x) place go.found in cc

        numbered : n - 1 ≡ i → k ≡ n
        numbered place = omega (arith, go.numbered)

  pub settle_history : (n : ℕ) (x : Transaction V) (outcome : Outcome) → Settling rules S n x outcome → History rules (settled_state rules S x outcome) (map (decided n outcome) hs)
  settle_history n x outcome go =
      record {
        noted =
            noted_through rules S (settled_state rules S x outcome) (decided n outcome) 1 hs S.transactions
            (λ k i h y e at a. noted_stays rules S S.waiting S.delivered S.transactions (settle_moves rules S x outcome) (λ b i. (b.mark, i)) k h _ y (outcome_after k i h y e at a.number_is a.outcome_is) a)
            inv.history.noted;
      }
    where
      outcome_after : (k i : ℕ) (h : Noted V) (y : Transaction V) → k ≡ 1 + i → slice_get S.transactions i ≡ Some y → h.number ≡ k → h.outcome ≡ told_home S y → (decided n outcome h).outcome ≡ told_home (settled_state rules S x outcome) y
      outcome_after k i h y e at number is = ap (λ j. cond (eqb j n) (turned outcome h.outcome) h.outcome) number ∙ ap (λ o. cond (eqb k n) (turned outcome o) o) is ∙ settle_told n x outcome go k i y e at
