-- An accepted settlement, as a move of the state. Assumes nothing.
use Rattle.std.proofs.Common.{◌≡◌, ℕ, ◌-◌, ◌<◌, ◌≤◌, Bool, true, false, cond, eqb, ltb, length, is_some, Some, None, Ok, Option, sym, refl, ap, ◌∙◌, subst, arith}
use Rattle.std.specs.List.{slice_get}
use Rattle.std.proofs.lemmas.Bool.{eqb-false, ltb-true, true≢false}
use Rattle.terms.specs.declared.outcome.Outcome.{Outcome}
use Rattle.terms.specs.Times.{site_of}
use Rattle.records.specs.declared.transaction.Transaction.{Transaction}
use Rattle.records.specs.Present.{transaction_present}
use Rattle.site.specs.declared.fault.SiteFault.TheVariants.{NotOpen, Unsettled, NoPlaces}
use Rattle.settling.specs.Settling.{due, settling, told_sites}
use Rattle.model.specs.Calls.{if_there, numbered_one, transaction_at, settle_outcome}
use Rattle.model.specs.Rules.{Rules}
use Rattle.model.specs.World.{World, verdict_share, declared_cards, started_ones, recorded_at, free_places}
use Rattle.model.proofs.State.{state_of, knows_at, told}
use Rattle.model.proofs.Moves.{Settling}
use Rattle.model.proofs.Cases.{none_some, err_ok, same_ok, chosen_first, chosen_second, if_some, never_some}
use Rattle.model.proofs.Sites.{present_there}

-- What an accepted settlement is: a move, at a site of the sitting that had a verdict record free.
pub record SettleMove {V : Type 0} (rules : Rules V) (w : World V) (n : ℕ) (x : Transaction V) (outcome : Outcome) : Type 0 where
  pub settling : Settling rules (state_of w) n x outcome
  pub there : site_of x.time < w.size.sites
  pub record_free : recorded_at w (site_of x.time) < verdict_share w.size

module _ {V : Type 0} (rules : Rules V) (w : World V) (n : ℕ) (x : Transaction V) where
  abbrev is_present : Transaction V → Bool
  is_present y = transaction_present w.size (declared_cards w) (length (rules.modes y.rule)) y

  found_as : (o : Option (Transaction V)) → if_there rules w o ≡ Some x → (o ≡ Some x) × (is_present x ≡ true)
  found_as None e = absurd (none_some x e)
  found_as (Some y) e = let p = if_some (is_present y) y x e in (ap Some p.1, subst (λ z. is_present z ≡ true) p.1 p.0)

  numbered_as : (b : Bool) → eqb n 0 ≡ b → cond b None (slice_get (started_ones w) (n - 1)) ≡ Some x → (1 ≤ n) × (slice_get (started_ones w) (n - 1) ≡ Some x)
  numbered_as true zero_is e = absurd (none_some x e)
  numbered_as false zero_is e = let ne = eqb-false n 0 zero_is in (omega arith, e)

  module _ (outcome : Outcome) (at : transaction_at rules w n ≡ Some x) (done : settle_outcome rules w x ≡ Ok outcome) where
    abbrev s : ℕ
    s = site_of x.time

    settled_as : (o : Option Outcome) → settling (ltb (recorded_at w s) (verdict_share w.size)) (free_places w) (length (told_sites (knows_at (state_of w) s) (rules.modes x.rule) x)) o ≡ Ok outcome → (o ≡ Some outcome) × (recorded_at w s < verdict_share w.size)
    settled_as None e = absurd (err_ok Unsettled outcome e)
    settled_as (Some o) e =
        let free = chosen_first (ltb (recorded_at w s) (verdict_share w.size)) _ Unsettled outcome e in
        (ap Some (same_ok o outcome (chosen_second _ _ NoPlaces outcome free.1).1), ltb-true _ _ free.0)

    pub settle_move : SettleMove rules w n x outcome
    settle_move =
        let here = found_as (numbered_one (started_ones w) n) at in
        let number = numbered_as (eqb n 0) refl here.0 in
        let fresh = chosen_second (is_some (told (state_of w) s x.time)) _ NotOpen outcome done in
        let due_now = settled_as (due (knows_at (state_of w) s) (rules.modes x.rule) x) fresh.1 in
        record {
          settling =
              record {
                numbered = number.0;
                found = number.1;
                present = here.1;
                undecided = never_some _ (λ o e. true≢false (sym (ap is_some e) ∙ fresh.0));
                due_is = due_now.0;
              };
          there = present_there w.size (declared_cards w) (length (rules.modes x.rule)) x here.1;
          record_free = due_now.1;
        }
