-- The law holds of every run of a sitting whose rule book is lawful. Assumes nothing.
use Rattle.std.proofs.Common.{◌≡◌, ℕ, ◌<◌, ◌≤◌, true, eqb, ltb, List, [], map, length, is_some, Some, None, Ok, Option, sym, refl, ap, ◌∙◌, subst, arith}
use Rattle.std.specs.List.{slice_get, range_with_len}
use Rattle.std.proofs.lemmas.List.Sums.{length-filter, count_by-le-length}
use Rattle.std.proofs.lemmas.Bool.{cond-true, cond-false, ne_eqb, lt-ltb, le-ltb}
use Rattle.terms.specs.Times.{site_of}
use Rattle.records.specs.declared.card.Card.{Card}
use Rattle.records.specs.Present.{card_at, holds}
use Rattle.knowledge.specs.declared.versions.Version.{Version}
use Rattle.knowledge.specs.Knowledge.{Site}
use Rattle.knowledge.specs.Versions.{current, committed_value}
use Rattle.site.specs.Lines.{lines_of, is_sent}
use Rattle.settling.specs.Settling.{settling, told_sites}
use Rattle.model.specs.Calls.{settles, settles_at, settles_as, settle_outcome, if_there, transaction_at, value_question, shown}
use Rattle.model.specs.Law.{Law, Shows, AllDecided, HoldsOf, opening_values, AsAlone}
use Rattle.model.specs.Rules.{Rules, Lawful}
use Rattle.model.specs.Runs.{Event, close_accepted, working, closed}
use Rattle.model.specs.Single.{Noted, notes, committed_ones, run_singly}
use Rattle.model.specs.World.{World, verdict_share, too_short, declared_cards, recorded_at, site_in, free_places}
use Rattle.model.proofs.State.{State, state_of, knows_at, told}
use Rattle.model.proofs.Sites.{holder_there, present_there}
use Rattle.model.proofs.Pairs.{as_many, settled_few}
use Rattle.model.proofs.Alone.{alone}
use Rattle.model.proofs.Agreeing.{agrees}
use Rattle.model.proofs.Lowest.{CanSettle, can_settle}
use Rattle.model.proofs.Inversions.Rooms.{recorded_count}
use Rattle.model.proofs.Reached.{KeptBy, same_kept, run_kept}

module _ {V : Type 0} (rules : Rules V) (opened : World V) (es : List (Event V)) (w : World V) (kept : KeptBy rules opened es w) where
  abbrev S : State V
  S = state_of w

  shows_as : (ask : Site V → ℕ → Option (Version V)) (number : ℕ) (card : Card V) → card_at w.size (declared_cards w) number ≡ Some card → (site : ℕ) → holds card.holders site ≡ true → (v : Version V) → ask (site_in w site) number ≡ Some v → value_question ask w site number ≡ Ok (Some v.value)
  shows_as ask number card is site h v asked =
      cond-false (too_short w) _ _ kept.frame.long
      ∙ cond-true (ltb site w.size.sites) _ _ (lt-ltb _ _ (holder_there w.size (declared_cards w) number card site is h))
      ∙ (λ i. shown site (is i) (asked i))
      ∙ ap Ok (cond-true (holds card.holders site) (Some v.value) None h)

  module _ (h : Noted V) (can : CanSettle rules S h) (quiet : w.waiting ≡ []) where
    abbrev s : ℕ
    s = site_of can.x.time

    abbrev modes : List ℕ
    modes = rules.modes can.x.rule

    there : s < w.size.sites
    there = present_there w.size (declared_cards w) (length modes) can.x can.settling.present

    found_now : transaction_at rules w h.number ≡ Some can.x
    found_now =
        ap (if_there rules w) (cond-false (eqb h.number 0) _ _ (ne_eqb _ _ (λ e. let low = can.settling.numbered in omega arith)) ∙ can.settling.found)
        ∙ cond-true _ _ _ can.settling.present

    -- The carrier has at least 28 free places, and a verdict goes to at most 8 sites.
    enough_places : length (told_sites (knows_at S s) modes can.x) ≤ free_places w
    enough_places =
        let sent = is_sent w.size (declared_cards w) s (lines_of modes can.x) in
        let room = kept.frame.room in
        let none = ap length quiet in
        omega (arith, length-filter sent (range_with_len 0 8), count_by-le-length sent (range_with_len 0 8))

    outcome_now : settle_outcome rules w can.x ≡ Ok can.outcome
    outcome_now =
        cond-false (is_some (told S s can.x.time)) _ _ (ap is_some can.settling.undecided)
        ∙ ap (settling (ltb (recorded_at w s) (verdict_share w.size)) (free_places w) (length (told_sites (knows_at S s) modes can.x))) can.settling.due_is
        ∙ cond-true (ltb (recorded_at w s) (verdict_share w.size)) _ _ (lt-ltb _ _ (subst (λ n. n < w.size.transactions) (recorded_count w kept.frame s there) can.record_free))
        ∙ cond-false (ltb (free_places w) (length (told_sites (knows_at S s) modes can.x))) _ _ (le-ltb _ _ enough_places)

    settles_now : (settles rules w h.number).answer ≡ Ok can.outcome
    settles_now = ap (λ r. r.answer) (cond-false (too_short w) _ _ kept.frame.long ∙ ap (settles_at rules w) found_now ∙ ap (settles_as rules w can.x) outcome_now)

  shows_all : w.waiting ≡ [] → AllDecided (notes es) → (number : ℕ) (card : Card V) → card_at w.size (declared_cards w) number ≡ Some card → (site : ℕ) → holds card.holders site ≡ true → Shows w site number (slice_get (run_singly rules (opening_values opened) (committed_ones es)) number)
  shows_all quiet done number card is site h =
      let agree = agrees rules S (notes es) kept.invariant quiet done number card is site h in
      let left = sym agree.left ∙ ap (λ cards. slice_get (run_singly rules (map (λ c. c.opening) cards) (committed_ones es)) number) kept.same_cards in
      record {
        as_current = shows_as current number card is site h agree.version agree.as_current ∙ ap Ok left;
        as_committed = shows_as committed_value number card is site h agree.version agree.as_committed ∙ ap Ok left;
      }

  law_of : Law rules opened es w
  law_of =
      record {
        one_at_a_time = subst (λ cards. AsAlone rules (map (λ card. card.opening) cards) (committed_ones es)) kept.same_cards (alone rules S (notes es) kept.invariant);
        replicas_agree = shows_all;
        lowest_settles = λ quiet x low. let can = can_settle rules S (notes es) kept.invariant quiet x low in (can.outcome, settles_now x can quiet);
        messages_counted = kept.invariant.numbers.put_is;
        messages_few =
            let few = kept.invariant.numbers.put_few in
            let settled = settled_few rules S (notes es) kept.invariant in
            let all = as_many rules S (notes es) kept.invariant in
            omega arith;
        none_foreign = kept.none_foreign;
      }

-- The law.
pub law : {V : Type 0} (rules : Rules V) → Lawful rules → (opened : World V) → HoldsOf rules opened
law rules lawful opened begins events w (working run) = law_of rules opened events w (run_kept rules lawful opened begins events w run)
law rules lawful opened begins events w (closed {es = es} run done) = law_of rules opened events w (same_kept rules opened es w (run_kept rules lawful opened begins es w run) close_accepted tt refl)
