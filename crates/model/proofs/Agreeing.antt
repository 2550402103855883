-- With nothing waiting and nothing open, every replica has the value that the run one at a time leaves. Assumes nothing.
use Rattle.std.proofs.Common.{◌≡◌, ℕ, ◌<◌, ◌≤◌, Bool, true, false, ◌⊎◌, List, [], ◌++◌, map, Some, filter, sym, refl, ap, ◌∙◌, subst, inl, inr, ⊎_elim, arith}
use Rattle.std.specs.List.{slice_get, best_of}
use Rattle.std.proofs.lemmas.Bool.{and_parts, and_from, eq-eqb, eqb-true, cases_eq, both_ways}
use Rattle.terms.specs.declared.mark.Mark.TheVariants.{Denied}
use Rattle.terms.specs.declared.outcome.Outcome.{Outcome}
use Rattle.terms.specs.declared.outcome.Outcome.TheVariants.{Commit, Abort}
use Rattle.terms.specs.Lists.{In}
use Rattle.records.specs.declared.card.Card.{Card}
use Rattle.records.specs.declared.line.Line.{Line}
use Rattle.records.specs.Present.{card_at, holds}
use Rattle.knowledge.specs.declared.versions.Version.{Version}
use Rattle.knowledge.specs.Knowledge.{stands}
use Rattle.knowledge.specs.Versions.{opening_version, opening_versions, version_of, versions, written, later, highest, current, committed_value}
use Rattle.model.specs.Law.{AllDecided}
use Rattle.model.specs.Rules.{Rules}
use Rattle.model.specs.Single.{Noted, run_singly}
use Rattle.model.proofs.State.{State, knows_at, told}
use Rattle.model.proofs.Lots.{Lot, lot, lots, origin, Goes}
use Rattle.model.proofs.Invariant.{Invariant}
use Rattle.model.proofs.Cases.{commit_abort, some_of}
use Rattle.model.proofs.Members.{in_none, in_map, map_in, in_kept, kept_in}
use Rattle.model.proofs.Sites.{goes_to_holder}
use Rattle.model.proofs.Currents.{best_in, best_above}
use Rattle.model.proofs.Checked.{shaped_present}
use Rattle.model.proofs.Pairs.{noted_lot}
use Rattle.model.proofs.Quiet.{told_here}
use Rattle.model.proofs.Alone.{openings, committed_by_time, Wrote, LatestWrite, untouched, latest, finally, committed_noted, time_positive}
use Rattle.model.proofs.Parts.Spread.{AtTarget, waits, has_landed, known_aborted, was_denied}

-- What a site shows of a card, as current and as committed value, is what the run one at a time leaves.
pub record Agrees {V : Type 0} (rules : Rules V) (S : State V) (hs : List (Noted V)) (site number : ℕ) : Type 0 where
  pub version : Version V
  pub as_current : current (knows_at S site) number ≡ Some version
  pub as_committed : committed_value (knows_at S site) number ≡ Some version
  pub left : slice_get (run_singly rules (openings S) (committed_by_time hs)) number ≡ Some version.value

stands_committed : (settled : Bool) (o : Outcome) → stands settled (Some o) ≡ true → o ≡ Commit
stands_committed true Commit e = refl
stands_committed false Commit e = refl
stands_committed true Abort e = absurd (both_ways _ refl e)
stands_committed false Abort e = absurd (both_ways _ refl e)

committed_stands : (settled : Bool) → stands settled (Some Commit) ≡ true
committed_stands true = refl
committed_stands false = refl

module _ {V : Type 0} (rules : Rules V) (S : State V) (hs : List (Noted V)) (inv : Invariant rules S hs) (quiet : S.waiting ≡ []) (done : AllDecided hs) where
  -- Everything is decided.
  outcome_known : (b : Lot V) → In b (lots rules S) → (o : Outcome) × (told S (origin b.line) b.line.time ≡ Some o)
  outcome_known b i = let k = noted_lot rules S hs inv b i in some_of (told S (origin b.line) b.line.time) (λ e. done k.0 k.1 (k.3 ∙ e))

  module _ (number : ℕ) (card : Card V) (is : card_at S.size S.cards number ≡ Some card) (site : ℕ) (holder : holds card.holders site ≡ true) (settled : Bool) where
    -- A version here was written by a committed line.
    version_wrote : (l : Line V) → In l (S.lines site) → written (knows_at S site) settled number l ≡ true → (b : Lot V) × Wrote rules S hs inv number b × (b.line ≡ l)
    version_wrote l i w =
        let p = and_parts _ _ w in
        let q = and_parts _ _ p.0 in
        let r = and_parts _ _ q.0 in
        let o = inv.provenance.lines site l i in
        let b = lot l o.mark in
        let k = outcome_known b o.noted in
        let here = told_here rules S hs inv quiet b o.noted site (inv.provenance.lines_here site l i) k.0 k.1 in
        let c : k.0 ≡ Commit = stands_committed settled k.0 (ap (stands settled) (sym here) ∙ p.1) in
        (b, record { noted = o.noted; on_card = eqb-true _ _ r.0; does_write = r.1; committed = k.1 ∙ ap Some c }, refl)

    -- A committed write is a version here.
    wrote_here : (b : Lot V) → Wrote rules S hs inv number b → (origin b.line ≡ site) ⊎ Goes S b.line site
    wrote_here b w =
        ⊎_elim
        (λ (e : site ≡ origin b.line). inl (sym e))
        (λ (ne : site ≡ origin b.line → ⊥). inr (goes_to_holder S b.line card site (subst (λ n. card_at S.size S.cards n ≡ Some card) (sym w.on_card) is) w.does_write holder ne))
        (cases_eq site (origin b.line))

    not_denied : (b : Lot V) → Wrote rules S hs inv number b → b.mark ≡ Denied → ⊥
    not_denied b w e =
        let c = inv.verdicts.committed_marks b w.noted w.committed in
        let z : ◌≡◌ {A = ℕ} 0 1 = cc in omega arith

    landed_here : (b : Lot V) → Wrote rules S hs inv number b → In b.line (S.lines site)
    landed_here b w =
        ⊎_elim
        (λ (e : origin b.line ≡ site). ⊎_elim (λ l. subst (λ s. In b.line (S.lines s)) e l) (λ d. absurd (not_denied b w d)) (inv.spread.home b w.noted))
        (λ g. go (inv.spread.targets b w.noted site g))
        (wrote_here b w)
      where
        go : AtTarget S b site → In b.line (S.lines site)
        go (waits m) = absurd (in_none _ S.waiting quiet m)
        go (has_landed l) = l
        go (known_aborted a) = absurd (commit_abort _ w.committed (inv.provenance.verdicts site b.line.time Abort a))
        go (was_denied p d) = ⊎_elim (λ e. absurd (not_denied b w e)) (λ m. absurd (in_none _ S.waiting quiet m)) d

    wrote_version : (b : Lot V) → Wrote rules S hs inv number b → In (version_of b.line) (map version_of (filter (written (knows_at S site) settled number) (S.lines site)))
    wrote_version b w =
        in_map version_of b.line _
        (in_kept (written (knows_at S site) settled number) b.line (S.lines site) (landed_here b w)
        (and_from _ _ (and_from _ _ (and_from _ _ (eq-eqb _ _ w.on_card) w.does_write) (shaped_present S b.line (inv.shape.shaped b w.noted))) (ap (stands settled) (told_here rules S hs inv quiet b w.noted site (wrote_here b w) Commit w.committed) ∙ committed_stands settled)))

    abbrev kept_versions : List (Version V)
    kept_versions = map version_of (filter (written (knows_at S site) settled number) (S.lines site))

    best_version : highest (versions (knows_at S site) settled number) ≡ Some (best_of later (opening_version card) kept_versions)
    best_version = ap (λ o. highest (opening_versions o ++ kept_versions)) is

    -- A version here, but the opening one, is of a committed write.
    kept_wrote : (v : Version V) → In v kept_versions → (b : Lot V) × Wrote rules S hs inv number b × (version_of b.line ≡ v)
    kept_wrote v i =
        let m = map_in version_of v _ i in
        let k = kept_in _ m.0 (S.lines site) m.1 in
        let r = version_wrote m.0 k.0 k.1 in
        (r.0, r.1, ap version_of r.2 ∙ m.2)

    best_untouched : ((b : Lot V) → Wrote rules S hs inv number b → ⊥) → best_of later (opening_version card) kept_versions ≡ opening_version card
    best_untouched none =
        ⊎_elim (λ e. sym e) (λ i. let k = kept_wrote _ i in absurd (none k.0 k.1)) (best_in later (opening_version card) kept_versions)

    best_latest : (b : Lot V) → Wrote rules S hs inv number b → ((a : Lot V) → Wrote rules S hs inv number a → a.line.time ≤ b.line.time) → best_of later (opening_version card) kept_versions ≡ version_of b.line
    best_latest b w most =
        let top = best_above (opening_version card) kept_versions (version_of b.line) (inr (wrote_version b w)) in
        let positive = time_positive rules S hs inv b w.noted in
        ⊎_elim
        (λ (e : opening_version card ≡ best_of later (opening_version card) kept_versions). let t = ap (λ v. v.time) e in absurd (let never : ⊥ = omega arith in never))
        (λ i.
        let k = kept_wrote _ i in
        let t = ap (λ v. v.time) k.2 in
        let le = most k.0 k.1 in
        let same : k.0.line.time ≡ b.line.time = omega arith in
        let one = inv.shape.one_each k.0 b k.1.noted w.noted same (inl (k.1.on_card ∙ sym w.on_card)) in
        sym k.2 ∙ ap (λ l. version_of l.line) one)
        (best_in later (opening_version card) kept_versions)

  pub agrees : (number : ℕ) (card : Card V) → card_at S.size S.cards number ≡ Some card → (site : ℕ) → holds card.holders site ≡ true → Agrees rules S hs site number
  agrees number card is site h =
      let f = finally rules S hs inv in
      let has = f.now_latest number card is in
      go has.value has.there f.bound (λ b w. let g = committed_noted rules S hs inv number b w in let lt = f.complete g.0 g.1 g.2 in let t = g.3 in omega arith) has.is_latest
    where
      go : (value : V) → slice_get (run_singly rules (openings S) (committed_by_time hs)) number ≡ Some value → (bound : ℕ) → ((b : Lot V) → Wrote rules S hs inv number b → b.line.time < bound) → LatestWrite rules S hs inv card number bound value → Agrees rules S hs site number
      go value there bound all (untouched e none) =
          record {
            version = opening_version card;
            as_current = best_version number card is site h false ∙ ap Some (best_untouched number card is site h false (λ b w. none b w (all b w)));
            as_committed = best_version number card is site h true ∙ ap Some (best_untouched number card is site h true (λ b w. none b w (all b w)));
            left = there ∙ ap Some e;
          }
      go value there bound all (latest b w lt e most) =
          record {
            version = version_of b.line;
            as_current = best_version number card is site h false ∙ ap Some (best_latest number card is site h false b w (λ a v. most a v (all a v)));
            as_committed = best_version number card is site h true ∙ ap Some (best_latest number card is site h true b w (λ a v. most a v (all a v)));
            left = there ∙ ap Some (sym e);
          }
