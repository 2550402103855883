-- A world just opened keeps its bounds and the invariant. Assumes nothing.
use Rattle.std.proofs.Common.{◌≡◌, ℕ, ◌<◌, ◌≤◌, List, [], length, get_or, take, replicate, sym, refl, ap, ◌∙◌, subst, ⊎_elim, arith}
use Rattle.std.proofs.lemmas.List.{length-replicate, get_or-replicate, get_or_past}
use Rattle.std.proofs.lemmas.Bool.{cases_lt}
use Rattle.records.specs.declared.card.Card.{Card}
use Rattle.records.specs.declared.size.Size.{Size}
use Rattle.model.specs.Rules.{Rules}
use Rattle.model.specs.Runs.{Opened}
use Rattle.model.specs.Tables.{used_of}
use Rattle.model.specs.World.{World, line_share, verdict_share, declared_cards}
use Rattle.model.proofs.State.{State, state_of}
use Rattle.model.proofs.Invariant.{Invariant}
use Rattle.model.proofs.Cases.{none_some}
use Rattle.model.proofs.Frames.{Frame, sites_few, transactions_few}

abbrev quiet_state : {V : Type 0} → Size → List (Card V) → State V
quiet_state size cards =
    record {
      size = size;
      cards = cards;
      transactions = [];
      lines = λ s. [];
      verdicts = λ s. [];
      counter = λ s. 0;
      waiting = [];
      put = 0;
      delivered = 0;
    }

module _ {V : Type 0} (rules : Rules V) (size : Size) (cards : List (Card V)) where
  quiet_invariant : size.sites ≤ 8 → size.transactions ≤ 512 → Invariant rules (quiet_state size cards) []
  quiet_invariant few_sites few_transactions =
      record {
        shape = record { shaped = λ b i. absurd i; one_each = λ a b i j e same. absurd i; present = λ x i. absurd i; times_differ = tt };
        clocks = record { landed = λ s l i. absurd i; started = λ x i. absurd i; counted = λ s. omega arith; not_over = omega arith; sites_few = few_sites; transactions_few = few_transactions };
        provenance = record { lines = λ s l i. absurd i; lines_here = λ s l i. absurd i; messages = λ m i. absurd i; verdicts = λ s time o e. e; verdicts_started = λ s time o e. absurd (none_some o e) };
        spread = record { targets = λ b i. absurd i; home = λ b i. absurd i };
        marks = record { asked_elsewhere = λ b i. absurd i; asked = λ b i. absurd i; confirmed = λ b i. absurd i; confirming = λ m i. absurd i };
        reservations = record { guarded = λ s a b i. absurd i };
        history = record { noted = tt };
        verdicts = record { committed_marks = λ b i. absurd i; committed_reads = λ b i. absurd i; spread = λ b o i. absurd i };
        numbers = record { lines = λ s. omega arith; verdicts = λ s. omega arith; put_few = omega arith; put_is = refl };
      }

all_zero : (ns : List ℕ) (s : ℕ) → ns ≡ replicate 8 0 → get_or ns s 0 ≡ 0
all_zero ns s e =
    ap (λ l. get_or l s 0) e
    ∙ ⊎_elim (λ (l : s < 8). get_or-replicate 8 s 0 0 l) (λ (l : 8 ≤ s). get_or_past (replicate 8 0) s 0 (omega (arith, length-replicate {A = ℕ} 8 0))) (cases_lt s 8)

module _ {V : Type 0} (w : World V) (o : Opened w) where
  pub opened_frame : Frame w
  opened_frame =
      record {
        sized = o.sized;
        long = o.long;
        all_landed = ap length o.none_landed;
        all_recorded = ap length o.none_recorded;
        all_counted = ap length o.none_counted;
        landed_fit = λ s. let none = all_zero w.landed s o.none_landed in omega arith;
        recorded_fit = λ s. let none = all_zero w.recorded s o.none_recorded in omega arith;
        started_fit = let none = o.none_started in omega arith;
        room = o.room;
      }

  opened_state : state_of w ≡ quiet_state w.size (declared_cards w)
  opened_state =
      λ i. record {
        size = w.size;
        cards = declared_cards w;
        transactions = take (o.none_started i) w.transactions;
        lines = λ s. used_of w.lines (line_share w.size) s (all_zero w.landed s o.none_landed i);
        verdicts = λ s. used_of w.verdicts (verdict_share w.size) s (all_zero w.recorded s o.none_recorded i);
        counter = λ s. all_zero w.counters s o.none_counted i;
        waiting = o.none_waiting i;
        put = o.none_put i;
        delivered = o.none_delivered i;
      }

  pub opened_invariant : (rules : Rules V) → Invariant rules (state_of w) []
  opened_invariant rules = subst (λ S. Invariant rules S []) (sym opened_state) (quiet_invariant rules w.size (declared_cards w) (sites_few w opened_frame) (transactions_few w opened_frame))
