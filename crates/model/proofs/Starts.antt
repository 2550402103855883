-- A start: its time is new and above all that its origin has seen, its lines are sent and land. Assumes nothing.
use Rattle.std.proofs.Common.{◌≡◌, ℕ, ◌+◌, ◌<◌, ◌≤◌, true, false, List, [], ◌∷◌, ◌++◌, map, None, sym, ap, ◌∙◌, subst, arith}
use Rattle.std.proofs.lemmas.Bool.{and_from, lt-ltb, le-leb}
use Rattle.terms.specs.Lists.{In}
use Rattle.terms.specs.Modes.{reads}
use Rattle.terms.specs.Times.{counter_of, site_of}
use Rattle.records.specs.declared.transaction.Transaction.{Transaction}
use Rattle.records.specs.Present.{time_in_range}
use Rattle.knowledge.specs.declared.versions.Version.{Version}
use Rattle.starting.specs.declared.start.Order.{Order}
use Rattle.starting.specs.Landing.{is_denied}
use Rattle.model.specs.Rules.{Rules}
use Rattle.model.proofs.State.{State, knows_at, told}
use Rattle.model.proofs.Lots.{Lot, lots, lots_of, Goes, message, origin}
use Rattle.model.proofs.Moves.{Starting, start_moves, started_state}
use Rattle.model.proofs.Cases.{never_some}
use Rattle.model.proofs.Members.{map_in, in_right}
use Rattle.model.proofs.Grown.{lands_there}
use Rattle.model.proofs.Currents.{VersionFrom, from_opening, from_line, version_from}
use Rattle.model.proofs.Drafts.{drafted_lot, lot_owner, start_site, drafted_origin, lot_sent, lot_landing}
use Rattle.model.proofs.Parts.Clocks.{Clocks}
use Rattle.model.proofs.Parts.Provenance.{Provenance}

module _ {V : Type 0} (rules : Rules V) (S : State V) (order : Order V) (x : Transaction V) (written : List V) (go : Starting rules S order x written) (clocks : Clocks S) where
  pub start_counter : counter_of x.time ≡ S.counter order.origin + 1
  start_counter = ap counter_of go.time_is ∙ (let here = go.here in let few = clocks.sites_few in omega arith)

  pub start_ranged : time_in_range S.size x.time ≡ true
  start_ranged =
      let counter = start_counter in
      let counted = clocks.counted order.origin in
      let full = go.not_full in
      let site = start_site rules S order x written go clocks.sites_few in
      let here = go.here in
      and_from _ _ (and_from _ _ (lt-ltb 0 (counter_of x.time) (omega arith)) (le-leb (counter_of x.time) S.size.transactions (omega arith))) (lt-ltb (site_of x.time) S.size.sites (omega arith))

  -- No transaction has the time already.
  start_fresh : (y : Transaction V) → In y S.transactions → y.time ≡ x.time → ⊥
  start_fresh y i e =
      let counter : counter_of y.time ≡ S.counter order.origin + 1 = ap counter_of e ∙ start_counter in
      let seen : counter_of y.time ≤ S.counter order.origin = subst (λ s. counter_of y.time ≤ S.counter s) (ap site_of e ∙ start_site rules S order x written go clocks.sites_few) (clocks.started y i) in
      omega arith

  pub time_fresh : In x.time (map (λ y. y.time) S.transactions) → ⊥
  time_fresh i = let y = map_in (λ y. y.time) x.time S.transactions i in start_fresh y.0 y.1 y.2

  -- Nor has any line.
  pub lot_fresh : (b : Lot V) → In b (lots rules S) → b.line.time ≡ x.time → ⊥
  lot_fresh b i e = let o = lot_owner rules S.transactions b i in start_fresh o.0 o.1 (sym o.3 ∙ e)

  -- So nothing is told of it.
  pub start_untold : Provenance rules S → (s : ℕ) → told S s x.time ≡ None
  start_untold from s = never_some (told S s x.time) (λ o e. time_fresh (from.verdicts_started s x.time o e))

  -- What the origin has is of a lower time.
  version_earlier : (number : ℕ) (v : Version V) → VersionFrom (knows_at S order.origin) false number v → v.time < x.time
  version_earlier number v (from_opening card is e) = let zero_time : 0 ≡ v.time = ap (λ w. w.time) e in let counter = start_counter in omega arith
  version_earlier number v (from_line l i w e) = let same : l.time ≡ v.time = ap (λ u. u.time) e in let seen = clocks.landed order.origin l i in let counter = start_counter in omega arith

  -- So a line of the start that reads has read a lower time.
  pub read_earlier : (b : Lot V) → In b (lots_of rules x) → reads b.line.mode ≡ true → b.line.read < b.line.time
  read_earlier b i r =
      let d = drafted_lot rules S order x written go b i in
      let earlier = version_earlier b.line.card d.version (version_from (knows_at S order.origin) false b.line.card d.version d.version_is) in
      let read_is = d.read_is r in
      let timed = d.timed in
      omega arith

  -- A line of a start waits for each site to which it goes.
  pub start_sends : (b : Lot V) → In b (lots_of rules x) → (site : ℕ) → Goes S b.line site → In (message 1 (origin b.line) site b.line) (started_state rules S order x).waiting
  start_sends b new site g =
      subst (λ from. In (message 1 from site b.line) (started_state rules S order x).waiting) (sym (drafted_origin rules S order x written go clocks.sites_few b new))
      (in_right (message 1 order.origin site b.line) S.waiting (start_moves rules S order x).messages (lot_sent rules S order x written go clocks.sites_few b site new g))

  -- A line of a start that is not denied lands at its origin.
  pub start_lands : (b : Lot V) → In b (lots_of rules x) → is_denied b.mark ≡ false → In b.line ((started_state rules S order x).lines order.origin)
  start_lands b new is = lands_there S S.waiting S.delivered (S.transactions ++ x ∷ []) (start_moves rules S order x) b.line (lot_landing rules S order x written go b new is)
