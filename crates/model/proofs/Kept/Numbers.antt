-- Each accepted call keeps the numbers small. Assumes nothing.
use Rattle.std.proofs.Common.{◌≡◌, ℕ, zero, suc, ◌+◌, ◌-◌, ◌*◌, ◌<◌, ◌≤◌, Bool, true, false, cond, eqb, List, [], ◌∷◌, ◌++◌, map, length, is_some, Some, None, Option, sym, refl, ◌∙◌, subst, ⊎_elim, arith}
use native.Mathlib.Nat.{min-eq_left}
use Rattle.std.specs.List.{slice_get, remove}
use Rattle.std.proofs.lemmas.List.{length-append, length-set}
use Rattle.std.proofs.lemmas.Bool.{cases_eq, eq-eqb, ne_eqb, not_from_true, and_left, and_from, or_from}
use Rattle.terms.specs.declared.kind.Kind.TheVariants.{Confirm, Deny}
use Rattle.terms.specs.declared.outcome.Outcome.{Outcome}
use Rattle.terms.specs.declared.outcome.Outcome.TheVariants.{Commit, Abort}
use Rattle.terms.specs.Few.{few_list}
use Rattle.terms.specs.Kinds.{kind_number, verdict_kind}
use Rattle.terms.specs.Times.{site_of}
use Rattle.records.specs.declared.card.Card.{Card}
use Rattle.records.specs.declared.line.Line.{Line}
use Rattle.records.specs.declared.message.Message.{Message}
use Rattle.records.specs.declared.size.Size.{Size}
use Rattle.records.specs.declared.transaction.Entry.{Entry}
use Rattle.records.specs.declared.transaction.Transaction.{Transaction}
use Rattle.records.specs.Present.{card_at}
use Rattle.site.specs.Lines.{lines_from, lines_of, goes_to, picked, is_sent}
use Rattle.starting.specs.declared.start.Order.{Order}
use Rattle.starting.specs.Starting.{line_messages, start_messages}
use Rattle.delivering.specs.declared.effect.Effect.{Effect}
use Rattle.delivering.specs.declared.effect.Effect.TheVariants.{Nothing, Lands, Confirms, Denies, Marks, Records}
use Rattle.delivering.specs.Effects.{landing, recording, reply_of, replies}
use Rattle.settling.specs.Settling.{repeating, verdict_messages}
use Rattle.steps.specs.Numbers.{stopped}
use Rattle.model.specs.Rules.{Rules}
use Rattle.model.specs.Runs.{start_accepted}
use Rattle.model.specs.Single.{Noted, note, decided}
use Rattle.model.proofs.State.{State, knows_at, told}
use Rattle.model.proofs.Lots.{message, primary}
use Rattle.model.proofs.Moves.{reads_of, Starting, start_moves, started_state, Delivering, line_dropped, line_landed, line_confirmed, line_denied, line_marked, verdict_known, verdict_recorded, Taking, delivered_state, Settling, settled_state}
use Rattle.model.proofs.Invariant.{Invariant}
use Rattle.model.proofs.Cases.{none_some}
use Rattle.model.proofs.Counts.{how_many_append, how_many_taken, how_many_few, how_many_none, how_many_map, how_many_all, joined_few, is, picked_once, picked_without, picked_few}
use Rattle.model.proofs.Drafts.{landing_short}
use Rattle.model.proofs.Remarks.{marks_one}
use Rattle.model.proofs.Arrivals.{a_verdict}
use Rattle.model.proofs.Pairs.{settled_few}
use Rattle.model.proofs.Parts.History.{NotedFrom}
use Rattle.model.proofs.Parts.Numbers.{how_many, line_for, verdict_for, line_for_primary, settled_ones, Numbers}
use Rattle.model.proofs.Kept.History.{started_as}

-- A list that grows at one site only is nowhere longer by more than a number that covers it there.
grown_paid : {X : Type 0} (s at : ℕ) (pay : ℕ → ℕ) (xs more : List X) → length more ≤ pay at → length (cond (eqb s at) (xs ++ more) xs) ≤ length xs + pay s
grown_paid s at pay xs more few =
    ⊎_elim
    (λ (e : s ≡ at). let here = subst (λ k. length more ≤ pay k) (sym e) few in rw (eq-eqb s at e) (omega (arith, length-append xs more)))
    (λ (ne : s ≡ at → ⊥). rw (ne_eqb s at ne) (omega arith))
    (cases_eq s at)

stopped_same : (count more : ℕ) → count + more ≤ 1_000_000_000 → stopped count more ≡ count + more
stopped_same count more few = min-eq_left few

module _ {V : Type 0} where
  lines_few : (time number : ℕ) (modes : List ℕ) (es : List (Entry V)) → length (lines_from time number modes es) ≤ length modes
  lines_few time number [] es = omega arith
  lines_few time number (mode ∷ modes) [] = omega arith
  lines_few time number (mode ∷ modes) (e ∷ es) = let more = lines_few time (number + 1) modes es in omega arith

  stays_home : (origin mode : ℕ) (card : Option (Card V)) → goes_to origin mode card origin ≡ false
  stays_home origin mode None = refl
  stays_home origin mode (Some card) = and_left _ _ (not_from_true _ (eq-eqb origin origin refl))

  -- No reply passes a test that fails both replies that there are.
  replies_none : (test : Message V → Bool) (m : Message V) → test (reply_of Confirm m) ≡ false → test (reply_of Deny m) ≡ false → (e : Effect V) → how_many test (replies e m) ≡ 0
  replies_none test m c d Nothing = refl
  replies_none test m c d Lands = refl
  replies_none test m c d Confirms = rw c refl
  replies_none test m c d Denies = rw d refl
  replies_none test m c d (Marks x) = refl
  replies_none test m c d (Records outcome) = refl

  line_there : (site : ℕ) (m : Message V) → m.kind ≡ 1 → m.to ≡ site → 1 ≤ cond (line_for site m) 1 0
  line_there site m k to = rw (and_from _ _ (eq-eqb m.kind 1 k) (eq-eqb m.to site to)) (omega arith)

  verdict_there : (m : Message V) (o : Outcome) → m.kind ≡ kind_number (verdict_kind o) → 1 ≤ cond (verdict_for m.to m) 1 0
  verdict_there m o k = rw (and_from _ _ (a_verdict o m.kind k) (eq-eqb m.to m.to refl)) (omega arith)

  -- What a delivery lands, records or replies, the message that it takes has been counted for.
  record Pays (S : State V) (m : Message V) (e : Effect V) : Type 0 where
    pub lands : length (landing e m) ≤ cond (line_for m.to m) 1 0
    pub records : length (recording e m) ≤ cond (verdict_for m.to m) 1 0
    pub replied : length (replies e m) ≤ cond (line_for_primary S m) 1 0

  pays : (rules : Rules V) (S : State V) (m : Message V) (e : Effect V) (xs : List (Transaction V)) → Delivering rules S m e xs → Pays S m e
  pays rules S m e xs (line_dropped k a) = record { lands = omega arith; records = omega arith; replied = omega arith }
  pays rules S m e xs (line_landed k a p) = record { lands = omega (arith, line_there m.to m k refl); records = omega arith; replied = omega arith }
  pays rules S m e xs (line_confirmed k a p d) = record { lands = omega (arith, line_there m.to m k refl); records = omega arith; replied = omega (arith, line_there (primary S m.line) m k (sym p)) }
  pays rules S m e xs (line_denied k a p d) = record { lands = omega arith; records = omega arith; replied = omega (arith, line_there (primary S m.line) m k (sym p)) }
  pays rules S m e xs (line_marked kind one is at x found same) = record { lands = omega arith; records = omega arith; replied = omega arith }
  pays rules S m e xs (verdict_known outcome before k known) = record { lands = omega arith; records = omega arith; replied = omega arith }
  pays rules S m e xs (verdict_recorded outcome k none) = record { lands = omega arith; records = omega (arith, verdict_there m outcome k); replied = omega arith }

  sent_away : (size : Size) (cards : List (Card V)) (origin : ℕ) (ls : List (Line V)) → is_sent size cards origin ls origin ≡ false
  sent_away size cards origin [] = refl
  sent_away size cards origin (l ∷ ls) = or_from _ _ (stays_home origin l.mode (card_at size cards l.card)) (sent_away size cards origin ls)

  repeating_few : (test : Message V → Bool) (kind from most : ℕ) (ls : List (Line V)) (sites : List ℕ) → ((l : Line V) → how_many (λ s. test (message kind from s l)) sites ≤ most) → how_many test (repeating kind from ls sites) ≤ most
  repeating_few test kind from most [] sites few = omega arith
  repeating_few test kind from most (l ∷ ls) sites few = subst (λ n. n ≤ most) (sym (how_many_map test (λ s. message kind from s l) sites)) (few l)

  -- Deciding the transaction with a number, which was open, settles one more.
  module _ (rules : Rules V) (S : State V) (n : ℕ) (outcome : Outcome) where
    decided_others : (k : ℕ) (hs : List (Noted V)) (xs : List (Transaction V)) → n < k → NotedFrom rules S k hs xs → settled_ones (map (decided n outcome) hs) ≡ settled_ones hs
    decided_others k [] [] past noted = refl
    decided_others k [] (x ∷ xs) past noted = absurd noted
    decided_others k (h ∷ hs) [] past noted = absurd noted
    decided_others k (h ∷ hs) (x ∷ xs) past noted =
        let more = decided_others (k + 1) hs xs (omega arith) noted.1 in
        rw (ne_eqb h.number n (λ e. omega (arith, noted.0.number_is))) (omega arith)

    decided_one : (k i : ℕ) (hs : List (Noted V)) (xs : List (Transaction V)) (x : Transaction V) → n ≡ k + i → slice_get xs i ≡ Some x → told S (site_of x.time) x.time ≡ None → NotedFrom rules S k hs xs → settled_ones (map (decided n outcome) hs) ≡ settled_ones hs + 1
    decided_one k i [] [] x is found still noted = absurd (none_some x found)
    decided_one k i [] (y ∷ xs) x is found still noted = absurd noted
    decided_one k i (h ∷ hs) [] x is found still noted = absurd noted
    decided_one k zero (h ∷ hs) (y ∷ xs) x is found still noted =
        let same : y ≡ x = cc in
        let none = noted.0.outcome_is ∙ subst (λ z. told S (site_of z.time) z.time ≡ None) (sym same) still in
        let more = decided_others (k + 1) hs xs (omega arith) noted.1 in
        rw (eq-eqb h.number n (omega (arith, noted.0.number_is))) (rw none (omega arith))
    decided_one k (suc i) (h ∷ hs) (y ∷ xs) x is found still noted =
        let more = decided_one (k + 1) i hs xs x (omega arith) found still noted.1 in
        rw (ne_eqb h.number n (λ e. omega (arith, noted.0.number_is))) (omega arith)

module _ {V : Type 0} (rules : Rules V) (S : State V) (hs : List (Noted V)) (inv : Invariant rules S hs) where
  -- The count of messages put is far from where it stops.
  put_small : S.put ≤ 19968
  put_small = omega (arith, inv.numbers.put_few, settled_few rules S hs inv, inv.clocks.not_over, inv.clocks.transactions_few)

  module _ (order : Order V) (x : Transaction V) (written : List V) (go : Starting rules S order x written) where
    abbrev lines_begun : List (Line V)
    lines_begun = lines_of (rules.modes order.rule) x

    abbrev sent : List (Message V)
    sent = start_messages S.size S.cards order.origin (rules.modes order.rule) x

    four : length lines_begun ≤ 4
    four = omega (arith, lines_few x.time 1 (rules.modes order.rule) (few_list x.entries), go.few_lines)

    abbrev goes : Line V → ℕ → Bool
    goes l = goes_to order.origin l.mode (card_at S.size S.cards l.card)

    stays : (l : Line V) → goes l order.origin ≡ false
    stays l = stays_home order.origin l.mode (card_at S.size S.cards l.card)

    -- Where each line is sent to at most so many sites that count.
    sent_few : (test : Message V → Bool) (most : ℕ) → ((l : Line V) → how_many (λ s. test (message 1 order.origin s l)) (picked (goes l)) ≤ most) → how_many test sent ≤ most * length lines_begun
    sent_few test most each = joined_few test (line_messages S.size S.cards order.origin) most (λ l. subst (λ n. n ≤ most) (sym (how_many_map test (λ s. message 1 order.origin s l) (picked (goes l)))) (each l)) lines_begun

    sent_all : length sent ≤ 28
    sent_all =
        let low : order.origin < 8 = omega (arith, go.here, inv.clocks.sites_few) in
        let each = λ (l : Line V). subst (λ n. n ≤ 7) (sym (how_many_all (picked (goes l)))) (picked_few order.origin (goes l) low (stays l)) in
        omega (arith, four, sent_few (λ m. true) 7 each, how_many_all sent)

    abbrev begun : State V
    begun = started_state rules S order x

    one_more : length begun.transactions ≡ length S.transactions + 1
    one_more = length-append S.transactions (x ∷ [])

    lines_begun_few : (s : ℕ) → length (begun.lines s) ≤ length (S.lines s) + (4 - how_many (line_for s) sent)
    lines_begun_few s =
        grown_paid s order.origin (λ k. 4 - how_many (line_for k) sent) (S.lines s) (start_moves rules S order x).lines
        (omega (arith, sent_few (line_for order.origin) 0 (λ l. let none = picked_without order.origin (goes l) (stays l) in omega arith), go.few_lines, landing_short x.time 1 (rules.modes order.rule) (few_list x.entries)))

    put_begun : begun.put ≡ S.put + length sent
    put_begun = stopped_same S.put (length sent) (omega (arith, put_small, sent_all))

    pub start_numbers : Numbers (started_state rules S order x) (note hs (start_accepted order (started_as S x) (reads_of rules S order) written))
    start_numbers =
        let same = how_many_append (λ h. is_some h.outcome) hs (note [] (start_accepted order (started_as S x) (reads_of rules S order) written)) in
        record {
          lines = λ s. omega (arith, inv.numbers.lines s, lines_begun_few s, four, sent_few (line_for s) 1 (λ l. picked_once s (goes l)), one_more, how_many_append (line_for s) S.waiting sent);
          verdicts = λ s. omega (arith, inv.numbers.verdicts s, same, grown_paid s order.origin (λ k. 0) (S.verdicts s) [] (omega arith), how_many_append (verdict_for s) S.waiting sent, sent_few (verdict_for s) 0 (λ l. let none = how_many_none (λ k. false) (picked (goes l)) (λ k. refl) in omega arith));
          put_few = omega (arith, inv.numbers.put_few, same, put_begun, sent_all, four, sent_few (line_for_primary S) 1 (λ l. picked_once (primary S l) (goes l)), one_more, how_many_append (line_for_primary S) S.waiting sent);
          put_is = omega (arith, inv.numbers.put_is, put_begun, length-append S.waiting sent);
        }

  module _ (place : ℕ) (m : Message V) (e : Effect V) (xs : List (Transaction V)) (taking : Taking rules S place m) (go : Delivering rules S m e xs) where
    abbrev taken : State V
    taken = delivered_state rules S place m e xs

    abbrev paid : Pays S m e
    paid = pays rules S m e xs go

    same_many : length xs ≡ length S.transactions
    same_many = marks_one rules S m e xs go (λ ys. length ys ≡ length S.transactions) refl (λ k at y found. length-set S.transactions at _)

    -- What waits and passes a test that no reply passes.
    waiting_taken : (test : Message V → Bool) → test (reply_of Confirm m) ≡ false → test (reply_of Deny m) ≡ false → how_many test taken.waiting + cond (test m) 1 0 ≡ how_many test S.waiting
    waiting_taken test c d =
        omega (arith, how_many_append test (remove S.waiting place) (replies e m), replies_none test m c d e, how_many_taken test S.waiting place m taking.waited)

    put_taken : taken.put ≡ S.put + length (replies e m)
    put_taken = stopped_same S.put (length (replies e m)) (omega (arith, put_small, paid.replied, how_many_few (line_for_primary S) (m ∷ [])))

    one_less : length S.waiting ≡ length (remove S.waiting place) + 1
    one_less = omega (arith, how_many_taken (λ k. true) S.waiting place m taking.waited, how_many_all S.waiting, how_many_all (remove S.waiting place))

    pub deliver_numbers : Numbers (delivered_state rules S place m e xs) hs
    deliver_numbers =
        record {
          lines = λ s. omega (arith, inv.numbers.lines s, grown_paid s m.to (λ k. cond (line_for k m) 1 0) (S.lines s) (landing e m) paid.lands, waiting_taken (line_for s) refl refl, same_many);
          verdicts = λ s. omega (arith, inv.numbers.verdicts s, grown_paid s m.to (λ k. cond (verdict_for k m) 1 0) (S.verdicts s) (recording e m) paid.records, waiting_taken (verdict_for s) refl refl);
          put_few = omega (arith, inv.numbers.put_few, put_taken, waiting_taken (line_for_primary S) refl refl, paid.replied, same_many);
          put_is = omega (arith, inv.numbers.put_is, put_taken, stopped_same S.delivered 1 (omega (arith, put_small, one_less, inv.numbers.put_is)), one_less, length-append (remove S.waiting place) (replies e m));
        }

  module _ (x : Transaction V) where
    abbrev home : ℕ
    home = site_of x.time

    abbrev tells : Outcome → List (Message V)
    tells outcome = verdict_messages (knows_at S home) (rules.modes x.rule) x outcome

    abbrev own_lines : List (Line V)
    own_lines = lines_of (rules.modes x.rule) x

    abbrev is_told : ℕ → Bool
    is_told = is_sent S.size S.cards home own_lines

    -- Where a verdict is sent to at most so many sites that count.
    told_few : (test : Message V → Bool) (most : ℕ) (outcome : Outcome) → ((l : Line V) → how_many (λ s. test (message (kind_number (verdict_kind outcome)) home s l)) (picked is_told) ≤ most) → how_many test (tells outcome) ≤ most
    told_few test most outcome each = repeating_few test (kind_number (verdict_kind outcome)) home most own_lines (picked is_told) each

    nowhere : how_many (λ k. false) (picked is_told) ≤ 0
    nowhere = let none = how_many_none (λ k. false) (picked is_told) (λ k. refl) in omega arith

    told_lines : (outcome : Outcome) (s : ℕ) → how_many (line_for s) (tells outcome) ≤ 0
    told_lines Commit s = told_few (line_for s) 0 Commit (λ l. nowhere)
    told_lines Abort s = told_few (line_for s) 0 Abort (λ l. nowhere)

    told_primaries : (outcome : Outcome) → how_many (line_for_primary S) (tells outcome) ≤ 0
    told_primaries Commit = told_few (line_for_primary S) 0 Commit (λ l. nowhere)
    told_primaries Abort = told_few (line_for_primary S) 0 Abort (λ l. nowhere)

    told_verdicts : (outcome : Outcome) (s : ℕ) (most : ℕ) → how_many (is s) (picked is_told) ≤ most → how_many (verdict_for s) (tells outcome) ≤ most
    told_verdicts Commit s most few = told_few (verdict_for s) most Commit (λ l. few)
    told_verdicts Abort s most few = told_few (verdict_for s) most Abort (λ l. few)

    told_all : (outcome : Outcome) → length (tells outcome) ≤ 7
    told_all outcome =
        let low : home < 8 = omega arith in
        omega (arith, how_many_all (tells outcome), told_few (λ m. true) 7 outcome (λ l. subst (λ n. n ≤ 7) (sym (how_many_all (picked is_told))) (picked_few home is_told low (sent_away S.size S.cards home own_lines))))

  module _ (n : ℕ) (x : Transaction V) (outcome : Outcome) (go : Settling rules S n x outcome) where
    abbrev settled : State V
    settled = settled_state rules S x outcome

    put_settled : settled.put ≡ S.put + length (tells x outcome)
    put_settled = stopped_same S.put (length (tells x outcome)) (omega (arith, put_small, told_all x outcome))

    one_settled : settled_ones (map (decided n outcome) hs) ≡ settled_ones hs + 1
    one_settled = decided_one rules S n outcome 1 (n - 1) hs S.transactions x (omega (arith, go.numbered)) go.found go.undecided inv.history.noted

    verdicts_settled : (s : ℕ) → length (settled.verdicts s) ≤ length (S.verdicts s) + (1 - how_many (verdict_for s) (tells x outcome))
    verdicts_settled s =
        grown_paid s (home x) (λ k. 1 - how_many (verdict_for k) (tells x outcome)) (S.verdicts s) (record { time = x.time; outcome = outcome } ∷ []) (omega (arith, told_verdicts x outcome (home x) 0 (let none = picked_without (home x) (is_told x) (sent_away S.size S.cards (home x) (own_lines x)) in omega arith)))

    pub settle_numbers : Numbers (settled_state rules S x outcome) (map (decided n outcome) hs)
    settle_numbers =
        record {
          lines = λ s. omega (arith, inv.numbers.lines s, grown_paid s (home x) (λ k. 0) (S.lines s) [] (omega arith), how_many_append (line_for s) S.waiting (tells x outcome), told_lines x outcome s);
          verdicts = λ s. omega (arith, inv.numbers.verdicts s, verdicts_settled s, how_many_append (verdict_for s) S.waiting (tells x outcome), told_verdicts x outcome s 1 (picked_once s (is_told x)), one_settled);
          put_few = omega (arith, inv.numbers.put_few, put_settled, told_all x outcome, one_settled, how_many_append (line_for_primary S) S.waiting (tells x outcome), told_primaries x outcome);
          put_is = omega (arith, inv.numbers.put_is, put_settled, length-append S.waiting (tells x outcome));
        }
