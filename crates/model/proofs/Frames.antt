-- The bounds of a sitting's tables, and the state that a change of its world leaves. Assumes nothing.
use Rattle.std.proofs.Common.{◌≡◌, ℕ, ◌+◌, ◌*◌, ◌<◌, ◌≤◌, true, false, cond, ◌||◌, eqb, ltb, List, ◌++◌, length, get_or, take, set, sym, ap, ◌∙◌, ⊎_elim, le_trans, arith}
use Rattle.std.proofs.lemmas.List.{length-set, get_or-set_same, get_or-set_other}
use Rattle.std.proofs.lemmas.Bool.{cases_eq, cond-true, cond-false, eq-eqb, ne_eqb, or_parts, and_parts, ltb-false, leb-true}
use Rattle.records.specs.declared.message.Message.{Message}
use Rattle.records.specs.declared.transaction.Transaction.{Transaction}
use Rattle.steps.specs.Numbers.{stopped}
use Rattle.model.specs.Calls.{size_allowed}
use Rattle.model.specs.World.{World, Change, line_share, verdict_share, too_short, declared_cards, landed_at, recorded_at, changed}
use Rattle.model.proofs.State.{state_of, moved}
use Rattle.model.proofs.Tables.{table_kept, shares_apart, counts_fit, part_after}

pub record Frame {V : Type 0} (w : World V) : Type 0 where
  pub sized : size_allowed w.size ≡ true
  pub long : too_short w ≡ false
  pub all_landed : length w.landed ≡ 8
  pub all_recorded : length w.recorded ≡ 8
  pub all_counted : length w.counters ≡ 8
  pub landed_fit : (s : ℕ) → landed_at w s ≤ line_share w.size
  pub recorded_fit : (s : ℕ) → recorded_at w s ≤ verdict_share w.size
  pub started_fit : w.started ≤ w.size.transactions
  pub room : 28 ≤ w.limit

module _ {V : Type 0} (w : World V) (frame : Frame w) where
  pub sites_few : w.size.sites ≤ 8
  sites_few = leb-true w.size.sites 8 (and_parts _ _ (and_parts _ _ (and_parts _ _ frame.sized).0).0).1

  pub transactions_few : w.size.transactions ≤ 512
  transactions_few = leb-true w.size.transactions 512 (and_parts _ _ frame.sized).1

  pub transactions_long : w.size.transactions ≤ length w.transactions
  transactions_long = ltb-false (length w.transactions) w.size.transactions (or_parts _ _ (or_parts _ _ (or_parts _ _ frame.long).0).0).1

  pub lines_long : (s : ℕ) → s < w.size.sites → s * line_share w.size + line_share w.size ≤ length w.lines
  lines_long s there = le_trans (shares_apart s w.size.sites (line_share w.size) there) (ltb-false (length w.lines) (w.size.sites * line_share w.size) (or_parts _ _ (or_parts _ _ frame.long).0).1)

  pub verdicts_long : (s : ℕ) → s < w.size.sites → s * verdict_share w.size + verdict_share w.size ≤ length w.verdicts
  verdicts_long s there = le_trans (shares_apart s w.size.sites (verdict_share w.size) there) (ltb-false (length w.verdicts) (w.size.sites * verdict_share w.size) (or_parts _ _ frame.long).1)

  module _ (waiting : List (Message V)) (delivered started : ℕ) (transactions : List (Transaction V)) (c : Change V) (there : c.site < w.size.sites) (lines_free : landed_at w c.site + length c.lines ≤ line_share w.size) (verdicts_free : recorded_at w c.site + length c.verdicts ≤ verdict_share w.size) where
    site_below : (counts : List ℕ) → length counts ≡ 8 → c.site < length counts
    site_below counts eight = let few = sites_few in omega arith

    counter_after : (s : ℕ) → get_or (set w.counters c.site c.counter) s 0 ≡ cond (eqb s c.site) c.counter (get_or w.counters s 0)
    counter_after s =
        ⊎_elim
        (λ (e : s ≡ c.site). ap (λ k. get_or (set w.counters c.site c.counter) k 0) e ∙ get_or-set_same w.counters c.site c.counter 0 (site_below w.counters frame.all_counted) ∙ sym (cond-true (eqb s c.site) _ _ (eq-eqb s c.site e)))
        (λ (ne : s ≡ c.site → ⊥). get_or-set_other w.counters c.site s c.counter 0 ne ∙ sym (cond-false (eqb s c.site) _ _ (ne_eqb s c.site ne)))
        (cases_eq s c.site)

    pub state_changed : state_of (changed w waiting delivered started transactions c) ≡ moved (state_of w) waiting delivered (take started transactions) c
    state_changed =
        λ i. record {
          size = w.size;
          cards = declared_cards w;
          transactions = take started transactions;
          lines = λ s. part_after w.lines c.lines (line_share w.size) w.landed c.site (site_below w.landed frame.all_landed) frame.landed_fit lines_free (lines_long c.site there) s i;
          verdicts = λ s. part_after w.verdicts c.verdicts (verdict_share w.size) w.recorded c.site (site_below w.recorded frame.all_recorded) frame.recorded_fit verdicts_free (verdicts_long c.site there) s i;
          counter = λ s. counter_after s i;
          waiting = waiting ++ c.messages;
          put = stopped w.put (length c.messages);
          delivered = delivered;
        }

    pub frame_changed : started ≤ w.size.transactions → length transactions ≡ length w.transactions → Frame (changed w waiting delivered started transactions c)
    frame_changed few same =
        record {
          sized = frame.sized;
          long = still_long ∙ frame.long;
          all_landed = length-set w.landed c.site _ ∙ frame.all_landed;
          all_recorded = length-set w.recorded c.site _ ∙ frame.all_recorded;
          all_counted = length-set w.counters c.site _ ∙ frame.all_counted;
          landed_fit = counts_fit w.lines c.lines (line_share w.size) w.landed c.site (site_below w.landed frame.all_landed) frame.landed_fit lines_free (lines_long c.site there);
          recorded_fit = counts_fit w.verdicts c.verdicts (verdict_share w.size) w.recorded c.site (site_below w.recorded frame.all_recorded) frame.recorded_fit verdicts_free (verdicts_long c.site there);
          started_fit = few;
          room = frame.room;
        }
      where
        still_long : too_short (changed w waiting delivered started transactions c) ≡ too_short w
        still_long =
            λ i.
            ltb (length w.cards) 64
            || ltb (same i) w.size.transactions
            || ltb (table_kept w.lines c.lines (line_share w.size) c.site (landed_at w c.site) lines_free (lines_long c.site there) i) (w.size.sites * line_share w.size)
            || ltb (table_kept w.verdicts c.verdicts (verdict_share w.size) c.site (recorded_at w c.site) verdicts_free (verdicts_long c.site there) i) (w.size.sites * verdict_share w.size)
