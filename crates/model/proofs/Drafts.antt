-- The lines of a start: their marks, what they read, which land and what is sent. Assumes nothing.
use Rattle.std.proofs.Common.{◌≡◌, ℕ, ◌+◌, ◌≤◌, Bool, true, false, cond, ◌⊎◌, List, [], ◌∷◌, ◌++◌, map, length, filter, sym, refl, ap, ◌∙◌, subst, inl, inr, ⊎_elim, arith}
use Rattle.std.specs.List.{range_with_len}
use Rattle.std.proofs.lemmas.List.{flat_map_more}
use Rattle.std.proofs.lemmas.Bool.{cond_both}
use Rattle.terms.specs.declared.mark.Mark.{Mark}
use Rattle.terms.specs.Few.{few_list}
use Rattle.terms.specs.Lists.{In}
use Rattle.terms.specs.Times.{site_of}
use Rattle.records.specs.declared.line.Line.{Line}
use Rattle.records.specs.declared.message.Message.{Message}
use Rattle.records.specs.declared.transaction.Entry.{Entry}
use Rattle.records.specs.declared.transaction.Transaction.{Transaction}
use Rattle.site.specs.Lines.{line_of, lines_from, lines_of, goes_to}
use Rattle.starting.specs.declared.start.Order.{Order}
use Rattle.starting.specs.Drafting.{drafted}
use Rattle.starting.specs.Landing.{is_denied, landing_from, start_landing}
use Rattle.starting.specs.Starting.{line_messages, start_messages}
use Rattle.model.specs.Rules.{Rules}
use Rattle.model.proofs.State.{State, knows_at}
use Rattle.model.proofs.Lots.{Lot, lot, lots_from, lots_of, all_lots, lots, origin, card_in, Goes, message}
use Rattle.model.proofs.Moves.{Starting, started_state}
use Rattle.model.proofs.Members.{in_split, in_map, map_in, in_kept, kept_in, in_joined, joined_in, in_counting, in_left, in_right}
use Rattle.model.proofs.Apart.{one_of_time}
use Rattle.model.proofs.Sites.{goes_there}
use Rattle.model.proofs.Drafted.{draft, draft_apart, Draft}
use Rattle.model.proofs.Parts.Shape.{Distinct}

-- The lots of some entries.
module _ {V : Type 0} (time : ℕ) where
  pub lots_timed : (number : ℕ) (modes : List ℕ) (es : List (Entry V)) (b : Lot V) → In b (lots_from time number modes es) → b.line.time ≡ time
  lots_timed number [] es b i = absurd i
  lots_timed number (mode ∷ modes) [] b i = absurd i
  lots_timed number (mode ∷ modes) (e ∷ es) b i = ⊎_elim (λ (is : lot (line_of time number mode e) e.mark ≡ b). sym (ap (λ c. c.line.time) is)) (λ r. lots_timed (number + 1) modes es b r) i

  lots_lines : (number : ℕ) (modes : List ℕ) (es : List (Entry V)) → map (λ b. b.line) (lots_from time number modes es) ≡ lines_from time number modes es
  lots_lines number [] es = refl
  lots_lines number (mode ∷ modes) [] = refl
  lots_lines number (mode ∷ modes) (e ∷ es) = ap (λ ls. line_of time number mode e ∷ ls) (lots_lines (number + 1) modes es)

  pub lot_line : (number : ℕ) (modes : List ℕ) (es : List (Entry V)) (b : Lot V) → In b (lots_from time number modes es) → In b.line (lines_from time number modes es)
  lot_line number modes es b i = subst (In b.line) (lots_lines number modes es) (in_map (λ c. c.line) b (lots_from time number modes es) i)

  pub line_lot : (number : ℕ) (modes : List ℕ) (es : List (Entry V)) (l : Line V) → In l (lines_from time number modes es) → (b : Lot V) × In b (lots_from time number modes es) × (b.line ≡ l)
  line_lot number modes es l i = map_in (λ b. b.line) l (lots_from time number modes es) (subst (In l) (sym (lots_lines number modes es)) i)

  landed_lots : (number : ℕ) (modes : List ℕ) (es : List (Entry V)) (l : Line V) → In l (landing_from time number modes es) → (mark : Mark) × In (lot l mark) (lots_from time number modes es) × (is_denied mark ≡ false)
  landed_lots number [] es l i = absurd i
  landed_lots number (mode ∷ modes) [] l i = absurd i
  landed_lots number (mode ∷ modes) (e ∷ es) l i = go (is_denied e.mark) refl (landed_lots (number + 1) modes es l) i
    where
      go : (b : Bool) → is_denied e.mark ≡ b → (In l (landing_from time (number + 1) modes es) → (mark : Mark) × In (lot l mark) (lots_from time (number + 1) modes es) × (is_denied mark ≡ false)) → In l (cond b (landing_from time (number + 1) modes es) (line_of time number mode e ∷ landing_from time (number + 1) modes es)) → (mark : Mark) × In (lot l mark) (lots_from time number (mode ∷ modes) (e ∷ es)) × (is_denied mark ≡ false)
      go true is more j = let r = more j in (r.0, inr r.1, r.2)
      go false is more j = ⊎_elim (λ (f : line_of time number mode e ≡ l). (e.mark, inl (ap (λ k. lot k e.mark) f), is)) (λ k. let r = more k in (r.0, inr r.1, r.2)) j

  -- No more land than there are lines.
  pub landing_short : (number : ℕ) (modes : List ℕ) (es : List (Entry V)) → length (landing_from time number modes es) ≤ length modes
  landing_short number [] es = omega arith
  landing_short number (mode ∷ modes) [] = omega arith
  landing_short number (mode ∷ modes) (e ∷ es) = cond_both (is_denied e.mark) _ _ (λ ls. length ls ≤ length (mode ∷ modes)) (λ _. omega (arith, landing_short (number + 1) modes es)) (λ _. omega (arith, landing_short (number + 1) modes es))

  lots_landed : (number : ℕ) (modes : List ℕ) (es : List (Entry V)) (b : Lot V) → In b (lots_from time number modes es) → is_denied b.mark ≡ false → In b.line (landing_from time number modes es)
  lots_landed number [] es b i stands = absurd i
  lots_landed number (mode ∷ modes) [] b i stands = absurd i
  lots_landed number (mode ∷ modes) (e ∷ es) b i stands =
      ⊎_elim
      (λ (is : lot (line_of time number mode e) e.mark ≡ b). subst (λ t. In b.line (cond t (landing_from time (number + 1) modes es) (line_of time number mode e ∷ landing_from time (number + 1) modes es))) (sym (ap (λ c. is_denied c.mark) is ∙ stands)) (inl (ap (λ c. c.line) is)))
      (λ r. further (is_denied e.mark) (lots_landed (number + 1) modes es b r stands))
      i
    where
      further : (t : Bool) → In b.line (landing_from time (number + 1) modes es) → In b.line (cond t (landing_from time (number + 1) modes es) (line_of time number mode e ∷ landing_from time (number + 1) modes es))
      further true j = j
      further false j = inr j

module _ {V : Type 0} (rules : Rules V) (S : State V) (order : Order V) (x : Transaction V) (written : List V) (go : Starting rules S order x written) where
  lots_started : lots rules (started_state rules S order x) ≡ lots rules S ++ lots_of rules x
  lots_started = sym (flat_map_more (lots_of rules) [] S.transactions x)

  -- A lot of the state after a start was there before, or is one of the start's.
  pub lot_started : (b : Lot V) → In b (lots rules (started_state rules S order x)) → In b (lots rules S) ⊎ In b (lots_of rules x)
  lot_started b i = in_split b (lots rules S) (lots_of rules x) (subst (In b) lots_started i)

  pub lot_old : (b : Lot V) → In b (lots rules S) → In b (lots rules (started_state rules S order x))
  lot_old b i = subst (In b) (sym lots_started) (in_left b (lots rules S) (lots_of rules x) i)

  pub lot_new : (b : Lot V) → In b (lots_of rules x) → In b (lots rules (started_state rules S order x))
  lot_new b i = subst (In b) (sym lots_started) (in_right b (lots rules S) (lots_of rules x) i)

  abbrev modes : List ℕ
  modes = rules.modes order.rule

  abbrev entries : List (Entry V)
  entries = few_list x.entries

  -- The start's lots by the rule that the order names.
  lots_by_rule : lots_of rules x ≡ lots_from x.time 1 modes entries
  lots_by_rule = ap (λ r. lots_from x.time 1 (rules.modes r) entries) go.rule_is

  lots_drafted : lots_of rules x ≡ lots_from x.time 1 modes (drafted (knows_at S order.origin) order.origin x.time order.argument 1 modes (few_list order.cards) written)
  lots_drafted = lots_by_rule ∙ ap (lots_from x.time 1 modes) go.entries_are

  -- A line of the start is as it was drafted.
  pub drafted_lot : (b : Lot V) → In b (lots_of rules x) → Draft (knows_at S order.origin) order.origin x.time order.argument [] 1 (length modes) b
  drafted_lot b i = draft (knows_at S order.origin) order.origin x.time order.argument [] 1 modes (few_list order.cards) written go.known_modes go.faultless b (subst (In b) lots_drafted i)

  -- Where the start and its lines have their origin, for a sitting of at most 8 sites.
  pub start_site : S.size.sites ≤ 8 → site_of x.time ≡ order.origin
  start_site few = ap site_of go.time_is ∙ (let here = go.here in omega arith)

  pub drafted_origin : S.size.sites ≤ 8 → (b : Lot V) → In b (lots_of rules x) → origin b.line ≡ order.origin
  drafted_origin few b i = ap site_of (drafted_lot b i).timed ∙ start_site few

  pub drafted_apart : (a b : Lot V) → In a (lots_of rules x) → In b (lots_of rules x) → (a.line.card ≡ b.line.card) ⊎ (a.line.number ≡ b.line.number) → a ≡ b
  drafted_apart a b i j same = draft_apart (knows_at S order.origin) order.origin x.time order.argument [] 1 modes (few_list order.cards) written go.known_modes go.faultless a b (subst (In a) lots_drafted i) (subst (In b) lots_drafted j) same

  -- What lands at the origin: the lines that are not denied.
  pub landing_lot : (l : Line V) → In l (start_landing (rules.modes order.rule) x) → (mark : Mark) × In (lot l mark) (lots_of rules x) × (is_denied mark ≡ false)
  landing_lot l i = let r = landed_lots x.time 1 modes entries l i in (r.0, subst (In (lot l r.0)) (sym lots_by_rule) r.1, r.2)

  pub lot_landing : (b : Lot V) → In b (lots_of rules x) → is_denied b.mark ≡ false → In b.line (start_landing (rules.modes order.rule) x)
  lot_landing b i stands = lots_landed x.time 1 modes entries b (subst (In b) lots_by_rule i) stands

  -- What is sent: each line to each site to which it goes.
  pub sent_lot : S.size.sites ≤ 8 → (m : Message V) → In m (start_messages S.size S.cards order.origin (rules.modes order.rule) x) → (b : Lot V) × In b (lots_of rules x) × (m ≡ message 1 order.origin m.to b.line) × Goes S b.line m.to
  sent_lot few m i =
      let by_line = joined_in (line_messages S.size S.cards order.origin) m (lines_of modes x) i in
      let l : Line V = by_line.0 in
      let by_site = map_in (λ s. message 1 order.origin s l) m (filter (goes_to order.origin l.mode (card_in S l)) (range_with_len 0 8)) by_line.2 in
      let to : by_site.0 ≡ m.to = ap (λ k. k.to) by_site.2 in
      let picked = (kept_in (goes_to order.origin l.mode (card_in S l)) by_site.0 (range_with_len 0 8) by_site.1).1 in
      let by_lot = line_lot x.time 1 modes entries l by_line.1 in
      let b : Lot V = by_lot.0 in
      let own : In b (lots_of rules x) = subst (In b) (sym lots_by_rule) by_lot.1 in (
        b,
        own,
        sym by_site.2 ∙ ap (λ t. message 1 order.origin t l) to ∙ ap (message 1 order.origin m.to) (sym by_lot.2),
        ap (λ o. goes_to o b.line.mode (card_in S b.line) m.to) (drafted_origin few b own)
            ∙ ap (λ k. goes_to order.origin k.mode (card_in S k) m.to) by_lot.2
            ∙ ap (goes_to order.origin l.mode (card_in S l)) (sym to)
            ∙ picked,
      )

  pub lot_sent : S.size.sites ≤ 8 → (b : Lot V) (d : ℕ) → In b (lots_of rules x) → Goes S b.line d → In (message 1 order.origin d b.line) (start_messages S.size S.cards order.origin (rules.modes order.rule) x)
  lot_sent few b d i g =
      in_joined (line_messages S.size S.cards order.origin) b.line (message 1 order.origin d b.line) (lines_of modes x)
      (lot_line x.time 1 modes entries b (subst (In b) lots_by_rule i))
      (in_map (λ s. message 1 order.origin s b.line) d _
      (in_kept (goes_to order.origin b.line.mode (card_in S b.line)) d (range_with_len 0 8)
      (in_counting 0 8 d (omega arith) (let there = goes_there S b.line d g in omega arith))
      (ap (λ o. goes_to o b.line.mode (card_in S b.line) d) (sym (drafted_origin few b i)) ∙ g)))

-- A lot belongs to a transaction started, with its time.
pub lot_owner : {V : Type 0} (rules : Rules V) (xs : List (Transaction V)) (b : Lot V) → In b (all_lots rules xs) → (x : Transaction V) × In x xs × In b (lots_of rules x) × (b.line.time ≡ x.time)
lot_owner rules xs b i = let r = joined_in (lots_of rules) b xs i in (r.0, r.1, r.2, lots_timed r.0.time 1 (rules.modes r.0.rule) (few_list r.0.entries) b r.2)

-- A lot with the time of a transaction started is one of its lots, where times differ.
pub own_lot : {V : Type 0} (rules : Rules V) (xs : List (Transaction V)) → Distinct (map (λ y. y.time) xs) → (x : Transaction V) → In x xs → (b : Lot V) → In b (all_lots rules xs) → b.line.time ≡ x.time → In b (lots_of rules x)
own_lot rules xs apart x j b i e =
    let own = lot_owner rules xs b i in
    subst (λ y. In b (lots_of rules y)) (one_of_time (λ y. y.time) xs apart own.0 x own.1 j (sym own.3 ∙ e)) own.2
