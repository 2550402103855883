-- How many records a sitting uses: no more than its transactions started need. Assumes nothing.
use Rattle.std.proofs.Common.{◌≡◌, ℕ, ◌+◌, ◌*◌, ◌<◌, ◌≤◌, true, List, length, drop, arith}
use Rattle.std.proofs.lemmas.List.{length-take-le, length-drop}
use Rattle.terms.specs.Lists.{In}
use Rattle.records.specs.declared.message.Message.{Message}
use Rattle.model.specs.Rules.{Rules}
use Rattle.model.specs.Single.{Noted}
use Rattle.model.specs.Tables.{used_of}
use Rattle.model.specs.World.{World, line_share, verdict_share, landed_at, recorded_at}
use Rattle.model.proofs.State.{State, state_of}
use Rattle.model.proofs.Invariant.{Invariant}
use Rattle.model.proofs.Counts.{one_passes}
use Rattle.model.proofs.Pairs.{settled_few}
use Rattle.model.proofs.Frames.{Frame, lines_long, verdicts_long}
use Rattle.model.proofs.Parts.Numbers.{line_for, verdict_for}

module _ {V : Type 0} (rules : Rules V) (S : State V) (hs : List (Noted V)) (inv : Invariant rules S hs) where
  -- A line that waits for a site leaves it short of what its share could hold.
  pub line_room : (m : Message V) → In m S.waiting → (s : ℕ) → line_for s m ≡ true → length (S.lines s) < 4 * S.size.transactions
  line_room m i s is =
      let one = one_passes (line_for s) m S.waiting i is in
      let bound = inv.numbers.lines s in
      let few = inv.clocks.not_over in
      omega arith

  pub verdict_room : (m : Message V) → In m S.waiting → (s : ℕ) → verdict_for s m ≡ true → length (S.verdicts s) < S.size.transactions
  verdict_room m i s is =
      let one = one_passes (verdict_for s) m S.waiting i is in
      let bound = inv.numbers.verdicts s in
      let settled = settled_few rules S hs inv in
      let few = inv.clocks.not_over in
      omega arith

used_count : {X : Type 0} (table : List X) (share site used : ℕ) → used ≤ share → site * share + share ≤ length table → length (used_of table share site used) ≡ used
used_count table share site used few long = length-take-le used (drop (site * share) table) (simp length-drop (omega arith))

module _ {V : Type 0} (w : World V) (frame : Frame w) (s : ℕ) (there : s < w.size.sites) where
  pub landed_count : length ((state_of w).lines s) ≡ landed_at w s
  landed_count = used_count w.lines (line_share w.size) s (landed_at w s) (frame.landed_fit s) (lines_long w frame s there)

  pub recorded_count : length ((state_of w).verdicts s) ≡ recorded_at w s
  recorded_count = used_count w.verdicts (verdict_share w.size) s (recorded_at w s) (frame.recorded_fit s) (verdicts_long w frame s there)
