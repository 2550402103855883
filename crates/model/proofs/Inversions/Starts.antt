-- An accepted start, as a move of the state. Assumes nothing.
use Rattle.std.proofs.Common.{◌≡◌, ℕ, ◌+◌, ◌-◌, ◌<◌, ◌≤◌, true, false, eqb, leb, List, [], ◌∷◌, length, Some, None, Ok, Option, sym, refl, ap, subst, arith}
use Rattle.std.proofs.lemmas.List.{length-take-le}
use Rattle.std.proofs.lemmas.Bool.{or_parts, leb-false, ltb-false, eqb-true, eqb-false}
use Rattle.terms.specs.Few.{few_list, few_of}
use Rattle.terms.specs.Times.{time_at}
use Rattle.book.specs.Meaning.{Answer, declines, gives, OneForEachWrite}
use Rattle.records.specs.declared.transaction.Transaction.{Transaction}
use Rattle.knowledge.specs.Knowledge.{Site}
use Rattle.site.specs.declared.fault.SiteFault.{SiteFault}
use Rattle.site.specs.declared.fault.SiteFault.TheVariants.{NoRecords, UnknownRule, WrongCount, NoPlaces}
use Rattle.starting.specs.declared.start.Order.{Order}
use Rattle.starting.specs.declared.start.Room.{Room}
use Rattle.starting.specs.Drafting.{cards_fault, drafted}
use Rattle.starting.specs.Landing.{start_landing}
use Rattle.starting.specs.Reading.{values_read}
use Rattle.starting.specs.Starting.{next_time, no_records, answered, unless_fault, timed}
use Rattle.model.specs.Calls.{start_room, start_outcome}
use Rattle.model.specs.Rules.{Rules, Lawful}
use Rattle.model.specs.Runs.{given_by, given}
use Rattle.model.specs.World.{World, line_share, landed_at, counter_at, site_in}
use Rattle.model.proofs.State.{state_of}
use Rattle.model.proofs.Moves.{Starting, reads_of}
use Rattle.model.proofs.Cases.{err_ok, same_ok, chosen_first, chosen_second, if_some}
use Rattle.model.proofs.Drafts.{landing_short}
use Rattle.model.proofs.Readings.{drafted_length}
use Rattle.model.proofs.Frames.{Frame, transactions_long}

few_all : {X : Type 0} (xs : List X) → length xs ≤ 4 → few_list (few_of xs) ≡ xs
few_all [] short = refl
few_all (a ∷ []) short = refl
few_all (a ∷ b ∷ []) short = refl
few_all (a ∷ b ∷ c ∷ []) short = refl
few_all (a ∷ b ∷ c ∷ d ∷ []) short = refl
few_all (a ∷ b ∷ c ∷ d ∷ e ∷ rest) short = absurd (omega arith)

-- What an accepted start is: a move, with what the rule gave back, and four line records that were free.
pub record StartMove {V : Type 0} (rules : Rules V) (w : World V) (order : Order V) (x : Transaction V) : Type 0 where
  pub written : List V
  pub starting : Starting rules (state_of w) order x written
  pub given_is : given rules w order ≡ written
  pub not_full : w.started < w.size.transactions
  pub lines_free : landed_at w order.origin + 4 ≤ line_share w.size

pub started_count : {V : Type 0} (w : World V) (frame : Frame w) → length (state_of w).transactions ≡ w.started
started_count w frame = length-take-le w.started w.transactions (let few = frame.started_fit in let long = transactions_long w frame in omega arith)

module _ {V : Type 0} (rules : Rules V) (lawful : Lawful rules) (w : World V) (frame : Frame w) (order : Order V) (here : order.origin < w.size.sites) (x : Transaction V) where
  abbrev modes : List ℕ
  modes = rules.modes order.rule

  abbrev site : Site V
  site = site_in w order.origin

  abbrev cards : List ℕ
  cards = few_list order.cards

  abbrev room : Room
  room = start_room w order.origin

  abbrev answer_of : Answer V
  answer_of = rules.answer order.rule order.argument (values_read site order.argument modes cards)

  abbrev draft : ℕ → List V → Transaction V
  draft time written = record { time = time; rule = order.rule; argument = order.argument; entries = few_of (drafted site order.origin time order.argument 1 modes cards written) }

  abbrev fault_of : Option SiteFault
  fault_of = cards_fault w.size site.cards order.origin [] 1 cards

  module _ (free : no_records w.size room ≡ false) where
    not_full : w.started < w.size.transactions
    not_full = leb-false w.size.transactions w.started (or_parts _ _ free).0

    module _ (time : ℕ) (time_is : time ≡ time_at (counter_at w order.origin + 1) order.origin) (some : eqb (length modes) 0 ≡ false) (paired : eqb (length modes) (length cards) ≡ true) (faultless : fault_of ≡ None) where
      made : (written : List V) → answer_of ≡ gives written → StartMove rules w order (draft time written)
      made written gave =
          record {
            written = written;
            starting =
                record {
                  here = here;
                  not_full = subst (λ n. n < w.size.transactions) (sym (started_count w frame)) not_full;
                  time_is = time_is;
                  rule_is = refl;
                  some_lines = let none = eqb-false (length modes) 0 some in omega arith;
                  few_lines = lawful.few order.rule;
                  known_modes = lawful.known order.rule;
                  one_each = subst (OneForEachWrite modes) gave (lawful.sized order.rule order.argument (reads_of rules (state_of w) order));
                  paired = eqb-true (length modes) (length cards) paired;
                  faultless = faultless;
                  gave = gave;
                  entries_are = few_all (drafted site order.origin time order.argument 1 modes cards written) (omega (arith, drafted_length site order.origin time order.argument 1 modes cards written (eqb-true (length modes) (length cards) paired), lawful.few order.rule));
                };
            given_is = ap given_by gave;
            not_full = not_full;
            lines_free = let enough : 4 ≤ line_share w.size - landed_at w order.origin = ltb-false (line_share w.size - landed_at w order.origin) 4 (or_parts (leb w.size.transactions w.started) _ free).1 in omega arith;
          }

      by_answer : (a : Answer V) → answer_of ≡ a → answered site order room time modes a ≡ Ok x → StartMove rules w order x
      by_answer (declines code) is e = absurd (err_ok _ x e)
      by_answer (gives written) is e = subst (StartMove rules w order) (same_ok (draft time written) x (chosen_second _ _ NoPlaces x e).1) (made written is)

    by_fault : (time : ℕ) → time ≡ time_at (counter_at w order.origin + 1) order.origin → eqb (length modes) 0 ≡ false → eqb (length modes) (length cards) ≡ true → (f : Option SiteFault) → fault_of ≡ f → unless_fault f (answered site order room time modes answer_of) ≡ Ok x → StartMove rules w order x
    by_fault time time_is some paired (Some fault) is e = absurd (err_ok fault x e)
    by_fault time time_is some paired None is e = by_answer time time_is some paired is answer_of refl e

    by_time : (o : Option ℕ) → next_time (counter_at w order.origin) order.origin ≡ o → timed modes (rules.answer order.rule) site order room o ≡ Ok x → StartMove rules w order x
    by_time None is e = absurd (err_ok NoRecords x e)
    by_time (Some time) is e =
        let known = chosen_second (eqb (length modes) 0) _ UnknownRule x e in
        let counted = chosen_first (eqb (length modes) (length cards)) _ WrongCount x known.1 in
        by_fault time (sym (if_some _ _ time is).1) known.0 counted.0 fault_of refl counted.1

  -- The lines that land at the origin have room there.
  pub landing_fits : StartMove rules w order x → landed_at w order.origin + length (start_landing modes x) ≤ line_share w.size
  landing_fits move =
      let short = landing_short x.time 1 modes (few_list x.entries) in
      let few = lawful.few order.rule in
      let free = move.lines_free in
      omega arith

  pub start_move : start_outcome rules w order ≡ Ok x → StartMove rules w order x
  start_move e =
      let free = chosen_second (no_records w.size room) _ NoRecords x e in
      by_time free.0 (next_time (counter_at w order.origin) order.origin) refl free.1
