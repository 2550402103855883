-- What a settlement tells: the origin its verdict, and by message each site that was sent a line. Assumes nothing.
use Rattle.std.proofs.Common.{◌≡◌, ℕ, ◌≤◌, true, List, [], ◌∷◌, Some, sym, refl, ap, ◌∙◌, subst, inl, inr, ⊎_elim, arith}
use Rattle.std.specs.List.{range_with_len}
use Rattle.std.proofs.lemmas.Bool.{false≢true, or_cases, or_left, or_right}
use Rattle.terms.specs.declared.outcome.Outcome.{Outcome}
use Rattle.terms.specs.Few.{few_list}
use Rattle.terms.specs.Kinds.{kind_number, verdict_kind}
use Rattle.terms.specs.Lists.{In}
use Rattle.terms.specs.Times.{site_of}
use Rattle.records.specs.declared.card.Card.{Card}
use Rattle.records.specs.declared.line.Line.{Line}
use Rattle.records.specs.declared.message.Message.{Message}
use Rattle.records.specs.declared.size.Size.{Size}
use Rattle.records.specs.declared.transaction.Transaction.{Transaction}
use Rattle.records.specs.Present.{card_at}
use Rattle.site.specs.Lines.{lines_of, goes_to, is_sent}
use Rattle.settling.specs.Settling.{repeating, told_sites}
use Rattle.model.specs.Rules.{Rules}
use Rattle.model.proofs.State.{State, knows_at, told}
use Rattle.model.proofs.Lots.{Lot, lots_of, Goes, card_in, message}
use Rattle.model.proofs.Moves.{Settling, settle_moves, settled_state}
use Rattle.model.proofs.Members.{in_map, map_in, in_kept, kept_in, in_counting}
use Rattle.model.proofs.Grown.{verdict_own, verdict_other, told_there, told_same}
use Rattle.model.proofs.Sites.{goes_there, present_ranged}
use Rattle.model.proofs.Drafts.{lots_timed, lot_line, line_lot}

module _ {V : Type 0} where
  -- A message that repeats the first of some lines.
  repeated : (kind from : ℕ) (ls : List (Line V)) (sites : List ℕ) (m : Message V) → In m (repeating kind from ls sites) → (l : Line V) × (s : ℕ) × In l ls × In s sites × (message kind from s l ≡ m)
  repeated kind from [] sites m i = absurd i
  repeated kind from (l ∷ ls) sites m i = let k = map_in (λ s. message kind from s l) m sites i in (l, k.0, inl refl, k.1, k.2)

  repeats : (kind from : ℕ) (l : Line V) (ls : List (Line V)) (sites : List ℕ) (s : ℕ) → In l ls → In s sites → (first : Line V) × In first ls × In (message kind from s first) (repeating kind from ls sites)
  repeats kind from l [] sites s i j = absurd i
  repeats kind from l (first ∷ ls) sites s i j = (first, inl refl, in_map (λ k. message kind from k first) s sites j)

  -- A site that was sent one of some lines.
  sent_one : (size : Size) (cards : List (Card V)) (from : ℕ) (ls : List (Line V)) (site : ℕ) → is_sent size cards from ls site ≡ true → (l : Line V) × In l ls × (goes_to from l.mode (card_at size cards l.card) site ≡ true)
  sent_one size cards from [] site e = absurd (false≢true e)
  sent_one size cards from (l ∷ ls) site e =
      ⊎_elim (λ here. (l, inl refl, here)) (λ later. let k = sent_one size cards from ls site later in (k.0, inr k.1, k.2)) (or_cases (goes_to from l.mode (card_at size cards l.card) site) (is_sent size cards from ls site) e)

  one_sent : (size : Size) (cards : List (Card V)) (from : ℕ) (ls : List (Line V)) (site : ℕ) (l : Line V) → In l ls → goes_to from l.mode (card_at size cards l.card) site ≡ true → is_sent size cards from ls site ≡ true
  one_sent size cards from [] site l i g = absurd i
  one_sent size cards from (k ∷ ls) site l i g =
      ⊎_elim
      (λ (p : k ≡ l). or_left _ _ (subst (λ k. goes_to from k.mode (card_at size cards k.card) site ≡ true) (sym p) g))
      (λ q. or_right _ (is_sent size cards from ls site) (one_sent size cards from ls site l q g))
      i

module _ {V : Type 0} (rules : Rules V) (S : State V) (n : ℕ) (x : Transaction V) (outcome : Outcome) (go : Settling rules S n x outcome) where
  pub settle_tells : (time : ℕ) → x.time ≡ time → told (settled_state rules S x outcome) (site_of time) time ≡ Some outcome
  settle_tells time e =
      subst (λ t. told (settled_state rules S x outcome) (site_of t) t ≡ Some outcome) e
      (told_there S S.waiting S.delivered S.transactions (settle_moves rules S x outcome) x.time go.undecided ∙ verdict_own S.size x.time outcome (present_ranged S.size S.cards _ x go.present))

  pub settle_quiet : (s time : ℕ) → (x.time ≡ time → ⊥) → told (settled_state rules S x outcome) s time ≡ told S s time
  settle_quiet s time other = told_same S S.waiting S.delivered S.transactions (settle_moves rules S x outcome) s time (verdict_other S.size time _ other)

  abbrev home : ℕ
  home = site_of x.time

  abbrev own_lines : List (Line V)
  own_lines = lines_of (rules.modes x.rule) x

  pub settle_timed : (b : Lot V) → In b (lots_of rules x) → b.line.time ≡ x.time
  settle_timed b i = lots_timed x.time 1 (rules.modes x.rule) (few_list x.entries) b i

  own_lot : (l : Line V) → In l own_lines → (b : Lot V) × In b (lots_of rules x) × (b.line ≡ l)
  own_lot l i = line_lot x.time 1 (rules.modes x.rule) (few_list x.entries) l i

  own_timed : (l : Line V) → In l own_lines → l.time ≡ x.time
  own_timed l i = let b = own_lot l i in ap (λ k. k.time) (sym b.2) ∙ settle_timed b.0 b.1

  goes_lot : (site : ℕ) → is_sent S.size S.cards home own_lines site ≡ true → (b : Lot V) × In b (lots_of rules x) × Goes S b.line site
  goes_lot site e =
      let g = sent_one S.size S.cards home own_lines site e in
      let b = own_lot g.0 g.1 in
      (b.0, b.1, subst (λ t. goes_to (site_of t) b.0.line.mode (card_in S b.0.line) site ≡ true) (sym (settle_timed b.0 b.1)) (subst (λ l. goes_to home l.mode (card_in S l) site ≡ true) (sym b.2) g.2))

  -- What is sent: the verdict, on one of the lines, to each site to which one of them goes.
  pub verdict_sent : (m : Message V) → In m (settle_moves rules S x outcome).messages → (a : Lot V) × In a (lots_of rules x) × (b : Lot V) × In b (lots_of rules x) × (site : ℕ) × Goes S b.line site × (message (kind_number (verdict_kind outcome)) home site a.line ≡ m)
  verdict_sent m i =
      let k = repeated (kind_number (verdict_kind outcome)) home own_lines (told_sites (knows_at S home) (rules.modes x.rule) x) m i in
      let a = own_lot k.0 k.2 in
      let b = goes_lot k.1 (kept_in (is_sent S.size S.cards home own_lines) k.1 (range_with_len 0 8) k.3).1 in
      (a.0, a.1, b.0, b.1, k.1, b.2, subst (λ l. message (kind_number (verdict_kind outcome)) home k.1 l ≡ m) (sym a.2) k.4)

  pub sends_verdict : S.size.sites ≤ 8 → (b : Lot V) → In b (lots_of rules x) → (site : ℕ) → Goes S b.line site → (l : Line V) × (l.time ≡ x.time) × In (message (kind_number (verdict_kind outcome)) home site l) (settle_moves rules S x outcome).messages
  sends_verdict few b i site g =
      let there = goes_there S b.line site g in
      let l = lot_line x.time 1 (rules.modes x.rule) (few_list x.entries) b i in
      let goes = one_sent S.size S.cards home own_lines site b.line l (subst (λ t. goes_to (site_of t) b.line.mode (card_in S b.line) site ≡ true) (settle_timed b i) g) in
      let picks = in_kept (is_sent S.size S.cards home own_lines) site (range_with_len 0 8) (in_counting 0 8 site (omega arith) (omega arith)) goes in
      let put = repeats (kind_number (verdict_kind outcome)) home b.line own_lines (told_sites (knows_at S home) (rules.modes x.rule) x) site l picks in
      (put.0, own_timed put.0 put.1, put.2)
