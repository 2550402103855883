-- The committed transactions read and wrote what a run one at a time gives. Assumes nothing.
use Rattle.std.proofs.Common.{◌≡◌, ℕ, ◌+◌, ◌/◌, ◌<◌, ◌≤◌, Bool, true, false, cond, ◌⊎◌, List, [], ◌∷◌, map, get_or, drop, set, Some, filter, sym, refl, ap, ◌∙◌, subst, inl, inr, ⊎_elim, arith}
use Rattle.std.specs.List.{slice_get}
use Rattle.std.proofs.lemmas.Bool.{both_ways, cases_lt, cases_eq, and_parts, ltb-true, cond-true, cond-false}
use Rattle.terms.specs.declared.outcome.Outcome.TheVariants.{Commit, Abort}
use Rattle.terms.specs.Few.{few_list}
use Rattle.terms.specs.Lists.{In}
use Rattle.terms.specs.Modes.{reads, writes}
use Rattle.terms.specs.Times.{site_of}
use Rattle.book.specs.Meaning.{gives}
use Rattle.records.specs.declared.card.Card.{Card}
use Rattle.records.specs.declared.transaction.Entry.{Entry}
use Rattle.records.specs.declared.transaction.Transaction.{Transaction}
use Rattle.records.specs.Present.{card_at}
use Rattle.knowledge.specs.Knowledge.{says_commit}
use Rattle.site.specs.Lines.{line_of}
use Rattle.model.specs.Law.{AsAlone}
use Rattle.model.specs.Rules.{Rules}
use Rattle.model.specs.Single.{Noted, by_time, values_now, values_with, values_given, answer_alone, run_alone, run_singly}
use Rattle.model.proofs.State.{State, told}
use Rattle.model.proofs.Lots.{Lot, lot, lots_from, lots_of, lots, origin, card_in, primary_of, primary}
use Rattle.model.proofs.Invariant.{Invariant}
use Rattle.model.proofs.Cases.{commit_abort, same_some, says_commit_is, cond_cases}
use Rattle.model.proofs.Members.{in_joined, kept_in, in_kept}
use Rattle.model.proofs.Apart.{kept_distinct}
use Rattle.model.proofs.Values.{nth_value, nth_set_same, nth_set_other, nth_map}
use Rattle.model.proofs.Ordered.{Ordered, by_time_in, in_by_time, by_time_ordered}
use Rattle.model.proofs.Sites.{found_present}
use Rattle.model.proofs.Drafts.{lots_timed, own_lot}
use Rattle.model.proofs.Pairs.{Paired, record_of, same_times, noted_lot}
use Rattle.model.proofs.Parts.History.{WrittenBy, CameFrom, ReadAs, NotedAs, values_written, opening_of}
use Rattle.model.proofs.Parts.Shape.{Distinct}

abbrev pub openings : {V : Type 0} → State V → List V
openings S = map (λ card. card.opening) S.cards

abbrev pub committed_by_time : {V : Type 0} → List (Noted V) → List (Noted V)
committed_by_time hs = by_time (λ h. h.time) (filter (λ h. says_commit h.outcome) hs)

module _ {V : Type 0} (rules : Rules V) (S : State V) (hs : List (Noted V)) (inv : Invariant rules S hs) where
  -- A committed write of a card.
  pub record Wrote (number : ℕ) (b : Lot V) : Type 0 where
    pub noted : In b (lots rules S)
    pub on_card : b.line.card ≡ number
    pub does_write : writes b.line.mode ≡ true
    pub committed : told S (origin b.line) b.line.time ≡ Some Commit

  -- The value of a card before a time, by the committed writes of lower time.
  pub data LatestWrite (card : Card V) (number bound : ℕ) (value : V) : Type 0 where
    untouched : value ≡ card.opening → ((b : Lot V) → Wrote number b → b.line.time < bound → ⊥) → LatestWrite card number bound value
    latest : (b : Lot V) → Wrote number b → b.line.time < bound → b.line.value ≡ value → ((a : Lot V) → Wrote number a → a.line.time < bound → a.line.time ≤ b.line.time) → LatestWrite card number bound value

  pub record HasLatest (values : List V) (bound number : ℕ) (card : Card V) : Type 0 where
    pub value : V
    pub there : slice_get values number ≡ Some value
    pub is_latest : LatestWrite card number bound value

  abbrev pub Latest : List V → ℕ → Type 0
  Latest values bound = (number : ℕ) (card : Card V) → card_at S.size S.cards number ≡ Some card → HasLatest values bound number card

  pub time_positive : (b : Lot V) → In b (lots rules S) → 0 < b.line.time
  time_positive b i =
      let ranged = (inv.shape.shaped b i).ranged in
      let p = and_parts _ _ (and_parts _ _ ranged).0 in
      let q : 0 < b.line.time / 8 = ltb-true 0 _ p.0 in
      omega arith

  -- No committed write lies between what a committed line read and its own time.
  unwritten_between : (b a : Lot V) → In b (lots rules S) → reads b.line.mode ≡ true → told S (origin b.line) b.line.time ≡ Some Commit → Wrote b.line.card a → b.line.read < a.line.time → a.line.time < b.line.time → ⊥
  unwritten_between b a i r c w low high =
      let p = primary S b.line in
      let here = inv.marks.confirmed b i (inv.verdicts.committed_marks b i c) in
      let same : primary S a.line ≡ p = ap (λ n. primary_of (card_at S.size S.cards n)) w.on_card in
      let there = subst (λ s. In a.line (S.lines s)) same (inv.marks.confirmed a w.noted (inv.verdicts.committed_marks a w.noted w.committed)) in
      ⊎_elim
      (λ e. commit_abort _ c (inv.provenance.verdicts p b.line.time Abort e))
      (λ e. commit_abort _ w.committed (inv.provenance.verdicts p a.line.time Abort e))
      (inv.reservations.guarded p b.line a.line here there refl (sym w.on_card) r w.does_write low high)

  -- What a committed line read was written by a committed one.
  writer_wrote : (b : Lot V) → In b (lots rules S) → reads b.line.mode ≡ true → told S (origin b.line) b.line.time ≡ Some Commit → (site : ℕ) (v : V) (w : WrittenBy rules S site b.line.card b.line.read v) → Wrote b.line.card w.writer
  writer_wrote b i r c site v w =
      let positive = time_positive w.writer w.noted in
      record {
        noted = w.noted;
        on_card = w.on_card;
        does_write = w.does_write;
        committed =
            ⊎_elim
            (λ (z : b.line.read ≡ 0). let e = w.timed in absurd (let never : ⊥ = omega arith in never))
            (λ (k : told S (site_of b.line.read) b.line.read ≡ Some Commit). subst (λ t. told S (site_of t) t ≡ Some Commit) (sym w.timed) k)
            (inv.verdicts.committed_reads b i c r);
      }

  -- What a committed line read is the value of its card before its time.
  module _ (b : Lot V) (i : In b (lots rules S)) (r : reads b.line.mode ≡ true) (c : told S (origin b.line) b.line.time ≡ Some Commit) (site : ℕ) (v : V) (came : CameFrom rules S site b.line.card b.line.read v) where
    same_value : (card : Card V) → card_in S b.line ≡ Some card → (value : V) → LatestWrite card b.line.card b.line.time value → value ≡ v
    same_value card is value (untouched e none) =
        ⊎_elim
        (λ o. e ∙ same_some card.opening v (sym (ap opening_of is) ∙ o.1))
        (λ w. absurd (none w.writer (writer_wrote b i r c site v w) (subst (λ t. t < b.line.time) (sym w.timed) ((inv.shape.shaped b i).read_before r))))
        came
    same_value card is value (latest a w lt is_value most) =
        ⊎_elim
        (λ o. let zero_read = o.0 in let positive = time_positive a w.noted in absurd (unwritten_between b a i r c w (omega arith) lt))
        (λ x.
        let wrote = writer_wrote b i r c site v x in
        let before = (inv.shape.shaped b i).read_before r in
        let timed = x.timed in
        let le = most x.writer wrote (subst (λ t. t < b.line.time) (sym timed) before) in
        ⊎_elim
        (λ (between : b.line.read < a.line.time). absurd (unwritten_between b a i r c w between lt))
        (λ (not_above : a.line.time ≤ b.line.read).
        let same_time : a.line.time ≡ x.writer.line.time = omega arith in
        let same = inv.shape.one_each a x.writer w.noted wrote.noted same_time (inl (w.on_card ∙ sym wrote.on_card)) in
        sym is_value ∙ ap (λ l. l.line.value) same ∙ x.wrote)
        (cases_lt b.line.read a.line.time))
        came

    read_value : (values : List V) (d : V) → Latest values b.line.time → get_or values b.line.card d ≡ v
    read_value values d before =
        let shaped = inv.shape.shaped b i in
        let has = before b.line.card shaped.card shaped.card_is in
        nth_value values b.line.card has.value d has.there ∙ same_value shaped.card shaped.card_is has.value has.is_latest

  -- So the values that a committed transaction finds when it is run alone are those that it read.
  module _ (time : ℕ) (c : told S (site_of time) time ≡ Some Commit) (values : List V) (argument : V) (before : Latest values time) where
    reads_found : (number : ℕ) (modes : List ℕ) (es : List (Entry V)) (vs : List V) → ((b : Lot V) → In b (lots_from time number modes es) → In b (lots rules S)) → ReadAs rules S (site_of time) modes es vs → values_now values argument modes (map (λ e. e.card) es) ≡ vs
    reads_found number [] es vs all e = sym e
    reads_found number (mode ∷ modes) [] vs all e = sym e
    reads_found number (mode ∷ modes) (e ∷ es) vs all read =
        cond_cases (reads mode) read
        (λ is k. cond-true _ _ _ is ∙ (λ j. read_value (lot (line_of time number mode e) e.mark) (all _ (inl refl)) is c (site_of time) k.0 k.3 values argument before j ∷ reads_found (number + 1) modes es k.1 (λ b i. all b (inr i)) k.4 j) ∙ sym k.2)
        (λ is k. cond-false _ _ _ is ∙ reads_found (number + 1) modes es vs (λ b i. all b (inr i)) k)

  -- What running it alone leaves of a card: the value of its line that writes it, or what was there.
  data Left (b_list : List (Lot V)) (before after : List V) (number : ℕ) : Type 0 where
    rewritten : (b : Lot V) → In b b_list → b.line.card ≡ number → writes b.line.mode ≡ true → slice_get after number ≡ Some b.line.value → Left b_list before after number
    kept : ((b : Lot V) → In b b_list → b.line.card ≡ number → writes b.line.mode ≡ true → ⊥) → slice_get after number ≡ slice_get before number → Left b_list before after number

  -- One line more in front, which writes or does not.
  left_more : (first : Lot V) (rest : List (Lot V)) (before between after : List V) (number : ℕ) → ((first.line.card ≡ number) × (writes first.line.mode ≡ true) × (slice_get between number ≡ Some first.line.value)) ⊎ ((first.line.card ≡ number → writes first.line.mode ≡ true → ⊥) × (slice_get between number ≡ slice_get before number)) → Left rest between after number → Left (first ∷ rest) before after number
  left_more first rest before between after number one (rewritten b i on w is) = rewritten b (inr i) on w is
  left_more first rest before between after number one (kept none same) =
      ⊎_elim
      (λ o. rewritten first (inl refl) o.0 o.1 (same ∙ o.2))
      (λ o. kept (λ b i on w. ⊎_elim (λ (e : first ≡ b). o.0 (ap (λ l. l.line.card) e ∙ on) (ap (λ l. writes l.line.mode) e ∙ w)) (λ j. none b j on w) i) (same ∙ o.1))
      one

  module _ (time : ℕ) where
    values_left : (number k : ℕ) (modes : List ℕ) (es : List (Entry V)) (values : List V) (u : V) → slice_get values number ≡ Some u → Left (lots_from time k modes es) values (values_with values modes (map (λ e. e.card) es) (values_written modes es)) number
    values_left number k [] es values u there = kept (λ b i. absurd i) refl
    values_left number k (mode ∷ modes) [] values u there = kept (λ b i. absurd i) refl
    values_left number k (mode ∷ modes) (e ∷ es) values u there = go (λ vs v. values_left number (k + 1) modes es vs v) (writes mode) refl (cases_eq e.card number)
      where
        go :
            ((vs : List V) (v : V) → slice_get vs number ≡ Some v → Left (lots_from time (k + 1) modes es) vs (values_with vs modes (map (λ x. x.card) es) (values_written modes es)) number) →
            (t : Bool) → writes mode ≡ t → (e.card ≡ number) ⊎ (e.card ≡ number → ⊥) →
            Left (lots_from time k (mode ∷ modes) (e ∷ es)) values
            (cond t
            (values_with (Rattle.model.specs.Single.with_first values e.card (cond t (e.value ∷ values_written modes es) (values_written modes es))) modes (map (λ x. x.card) es) (drop 1 (cond t (e.value ∷ values_written modes es) (values_written modes es))))
            (values_with values modes (map (λ x. x.card) es) (cond t (e.value ∷ values_written modes es) (values_written modes es)))) number
        go again true is (inl on) =
            let now : slice_get (set values e.card e.value) number ≡ Some e.value = subst (λ n. slice_get (set values n e.value) number ≡ Some e.value) (sym on) (nth_set_same values number u e.value there) in
            left_more (lot (line_of time k mode e) e.mark) _ values (set values e.card e.value) _ number (inl (on, is, now)) (again (set values e.card e.value) e.value now)
        go again true is (inr off) =
            let now = nth_set_other values e.card number e.value off in
            left_more (lot (line_of time k mode e) e.mark) _ values (set values e.card e.value) _ number (inr ((λ on w. off on), now)) (again (set values e.card e.value) u (now ∙ there))
        go again false is on =
            left_more (lot (line_of time k mode e) e.mark) _ values values _ number (inr ((λ o w. both_ways _ is w), refl)) (again values u there)

  -- A bound may rise past no committed write.
  raised_write : (card : Card V) (number bound more : ℕ) (value : V) → bound ≤ more → ((b : Lot V) → Wrote number b → b.line.time < more → b.line.time < bound) → LatestWrite card number bound value → LatestWrite card number more value
  raised_write card number bound more value le none (untouched e no_write) = untouched e (λ b w lt. no_write b w (none b w lt))
  raised_write card number bound more value le none (latest b w lt e most) = latest b w (omega arith) e (λ a v l. most a v (none a v l))

  raised_bound : (values : List V) (bound more : ℕ) → bound ≤ more → ((n : ℕ) (b : Lot V) → Wrote n b → b.line.time < more → b.line.time < bound) → Latest values bound → Latest values more
  raised_bound values bound more le none before number card is =
      let has = before number card is in
      record { value = has.value; there = has.there; is_latest = raised_write card number bound more has.value le (none number) has.is_latest }

  abbrev xs : List (Transaction V)
  xs = S.transactions

  -- A committed write belongs to a committed transaction.
  pub committed_noted : (n : ℕ) (b : Lot V) → Wrote n b → (h : Noted V) × In h hs × (h.outcome ≡ Some Commit) × (h.time ≡ b.line.time)
  committed_noted n b w = let k = noted_lot rules S hs inv b w.noted in (k.0, k.1, k.3 ∙ w.committed, k.2)

  -- What a committed transaction leaves when it is run alone.
  module _ (x : Transaction V) (i : In x xs) (c : told S (site_of x.time) x.time ≡ Some Commit) (values : List V) (before : Latest values x.time) where
    abbrev later : List V
    later = values_with values (rules.modes x.rule) (map (λ e. e.card) (few_list x.entries)) (values_written (rules.modes x.rule) (few_list x.entries))

    -- A committed write of its time is one of its lines.
    not_later : (number : ℕ) → ((b : Lot V) → In b (lots_of rules x) → b.line.card ≡ number → writes b.line.mode ≡ true → ⊥) → (a : Lot V) → Wrote number a → a.line.time < x.time + 1 → a.line.time < x.time
    not_later number none a w lt =
        ⊎_elim
        (λ (e : a.line.time ≡ x.time). absurd (none a (own_lot rules xs inv.shape.times_differ x i a w.noted e) w.on_card w.does_write))
        (λ (ne : a.line.time ≡ x.time → ⊥). let r : a.line.time < x.time = omega arith in r)
        (cases_eq a.line.time x.time)

    stepped_at : (number : ℕ) (card : Card V) (has : HasLatest values x.time number card) → Left (lots_of rules x) values later number → HasLatest later (x.time + 1) number card
    stepped_at number card has (rewritten b j on w e) =
        let timed = lots_timed x.time 1 (rules.modes x.rule) (few_list x.entries) b j in
        record {
          value = b.line.value;
          there = e;
          is_latest =
              latest b (record { noted = in_joined (lots_of rules) x b xs i j; on_card = on; does_write = w; committed = subst (λ t. told S (site_of t) t ≡ Some Commit) (sym timed) c })
              (omega arith) refl (λ a v l. omega arith);
        }
    stepped_at number card has (kept none e) =
        record {
          value = has.value;
          there = e ∙ has.there;
          is_latest = raised_write card number x.time (x.time + 1) has.value (omega arith) (not_later number none) has.is_latest;
        }

    stepped : Latest later (x.time + 1)
    stepped number card is =
        let has = before number card is in
        stepped_at number card has (values_left x.time number 1 (rules.modes x.rule) (few_list x.entries) values has.value has.there)

    -- As the list of calls has it.
    module _ (h : Noted V) (n : ℕ) (m : NotedAs rules S n h x) where
      finds_read : values_now values h.argument (rules.modes h.rule) h.cards ≡ h.read
      finds_read =
          (λ j. values_now values h.argument (rules.modes (m.rule_is j)) (m.cards_are j))
          ∙ reads_found x.time c values h.argument before 1 (rules.modes x.rule) (few_list x.entries) h.read (λ b j. in_joined (lots_of rules) x b xs i j) m.read_are

      answers : answer_alone rules values h ≡ gives h.written
      answers = ap (rules.answer h.rule h.argument) finds_read ∙ m.answered

      leaves : run_alone rules values h ≡ later
      leaves = ap (values_given rules values h) answers ∙ (λ j. values_with values (rules.modes (m.rule_is j)) (m.cards_are j) (sym m.written_are j))

  -- The committed transactions still to be run, by rising time, on the values before them.
  record Ahead (values : List V) (bound : ℕ) (rest : List (Noted V)) : Type 0 where
    pub ordered : Ordered (λ h. h.time) rest
    pub mine : (h : Noted V) → In h rest → In h hs × (h.outcome ≡ Some Commit)
    pub low : (h : Noted V) → In h rest → bound ≤ h.time
    pub complete : (h : Noted V) → In h hs → h.outcome ≡ Some Commit → (h.time < bound) ⊎ In h rest
    pub now_latest : Latest values bound

  -- Values after all of them.
  pub record Final (values : List V) : Type 0 where
    pub bound : ℕ
    pub now_latest : Latest values bound
    pub complete : (h : Noted V) → In h hs → h.outcome ≡ Some Commit → h.time < bound

  all_done : (values : List V) (bound : ℕ) → Ahead values bound [] → Final values
  all_done values bound a =
      record { bound = bound; now_latest = a.now_latest; complete = λ h i c. ⊎_elim (λ lt. lt) (λ none. absurd none) (a.complete h i c) }

  module _ (values : List V) (bound : ℕ) (h : Noted V) (rest : List (Noted V)) (a : Ahead values bound (h ∷ rest)) where
    abbrev found : (x : Transaction V) × Paired rules S 1 hs xs h x
    found = record_of rules S 1 hs xs inv.history.noted h (a.mine h (inl refl)).0

    abbrev x : Transaction V
    x = found.0

    is_committed : told S (site_of x.time) x.time ≡ Some Commit
    is_committed = sym found.1.matched.outcome_is ∙ (a.mine h (inl refl)).1

    nothing_between : (n : ℕ) (b : Lot V) → Wrote n b → b.line.time < h.time → b.line.time < bound
    nothing_between n b w lt =
        let g = committed_noted n b w in
        let timed = g.3 in
        ⊎_elim
        (λ (l : g.0.time < bound). let r : b.line.time < bound = omega arith in r)
        (λ j. ⊎_elim (λ (e : h ≡ g.0). let t = ap (λ y. y.time) e in absurd (let never : ⊥ = omega arith in never)) (λ k. let t = a.ordered.0 g.0 k in absurd (let never : ⊥ = omega arith in never)) j)
        (a.complete g.0 g.1 g.2)

    before_it : Latest values x.time
    before_it =
        subst (Latest values) found.1.matched.time_is
        (raised_bound values bound h.time (a.low h (inl refl)) nothing_between a.now_latest)

    ahead_more : Ahead (run_alone rules values h) (h.time + 1) rest
    ahead_more =
        let le = a.low h (inl refl) in
        let timed = found.1.matched.time_is in
        record {
          ordered = a.ordered.1;
          mine = λ g i. a.mine g (inr i);
          low = λ g i. let lt = a.ordered.0 g i in omega arith;
          complete = λ g i c.
              ⊎_elim
              (λ (l : g.time < bound). inl (let r : g.time < h.time + 1 = omega arith in r))
              (λ j. ⊎_elim (λ (e : h ≡ g). inl (let t = ap (λ y. y.time) e in let r : g.time < h.time + 1 = omega arith in r)) (λ k. inr k) j)
              (a.complete g i c);
          now_latest =
              subst (λ vs. Latest vs (h.time + 1)) (sym (leaves x found.1.started is_committed values before_it h _ found.1.matched))
              (subst (λ t. Latest (later x found.1.started is_committed values before_it) (t + 1)) (sym timed) (stepped x found.1.started is_committed values before_it));
        }

  run_ahead : (values : List V) (bound : ℕ) (rest : List (Noted V)) → Ahead values bound rest → AsAlone rules values rest × Final (run_singly rules values rest)
  run_ahead values bound [] a = (tt, all_done values bound a)
  run_ahead values bound (h ∷ rest) a =
      let f = found values bound h rest a in
      let c = is_committed values bound h rest a in
      let l = before_it values bound h rest a in
      let more = run_ahead (run_alone rules values h) (h.time + 1) rest (ahead_more values bound h rest a) in
      ((finds_read f.0 f.1.started c values l h _ f.1.matched, answers f.0 f.1.started c values l h _ f.1.matched, more.0), more.1)

  all_ahead : Ahead (openings S) 0 (committed_by_time hs)
  all_ahead =
      record {
        ordered = by_time_ordered (λ h. h.time) _ (kept_distinct (λ h. h.time) _ hs (subst Distinct (same_times rules S 1 hs xs inv.history.noted) inv.shape.times_differ));
        mine = λ h i. let k = kept_in _ h hs (by_time_in (λ g. g.time) h _ i) in (k.0, says_commit_is h.outcome k.1);
        low = λ h i. omega arith;
        complete = λ h i c. inr (in_by_time (λ g. g.time) h _ (in_kept _ h hs i (ap says_commit c)));
        now_latest = λ number card is. record {
          value = card.opening;
          there = nth_map (λ c. c.opening) S.cards number card (found_present S.size (slice_get S.cards number) card is).0;
          is_latest = untouched refl (λ b w lt. let never : ⊥ = omega arith in never);
        };
      }

  pub alone : AsAlone rules (openings S) (committed_by_time hs)
  alone = (run_ahead (openings S) 0 (committed_by_time hs) all_ahead).0

  -- The values that the run leaves are those of the latest committed writes.
  pub finally : Final (run_singly rules (openings S) (committed_by_time hs))
  finally = (run_ahead (openings S) 0 (committed_by_time hs) all_ahead).1
