-- What is noted of a transaction is carried from one state to the next. Assumes nothing.
use Rattle.std.proofs.Common.{◌≡◌, ℕ, zero, suc, ◌+◌, Bool, true, false, cond, List, [], ◌∷◌, ◌++◌, map, length, set, Some, Option, sym, refl, ap, ◌∙◌, subst, inl, inr, ⊎_elim, map-id, arith}
use Rattle.std.specs.List.{slice_get}
use Rattle.terms.specs.declared.kind.Kind.{Kind}
use Rattle.terms.specs.declared.outcome.Outcome.{Outcome}
use Rattle.terms.specs.declared.mark.Mark.{Mark}
use Rattle.terms.specs.Few.{few_list}
use Rattle.terms.specs.Lists.{In}
use Rattle.terms.specs.Modes.{reads, writes}
use Rattle.terms.specs.Times.{site_of}
use Rattle.records.specs.declared.message.Message.{Message}
use Rattle.records.specs.declared.transaction.Entry.{Entry}
use Rattle.records.specs.declared.transaction.Transaction.{Transaction}
use Rattle.delivering.specs.Marks.{marked_from, transaction_marked}
use Rattle.delivering.proofs.Marking.{marked_each}
use Rattle.model.specs.Rules.{Rules}
use Rattle.model.specs.Single.{Noted}
use Rattle.model.specs.World.{Change}
use Rattle.model.proofs.State.{State, told, moved}
use Rattle.model.proofs.Lots.{Lot, lots, all_lots, lot}
use Rattle.model.proofs.Members.{in_nth}
use Rattle.model.proofs.Parts.History.{WrittenBy, CameFrom, ReadAs, values_written, NotedAs, NotedFrom}

-- What a transaction's own origin tells of it.
abbrev pub told_home : {V : Type 0} → State V → Transaction V → Option Outcome
told_home S x = told S (site_of x.time) x.time

-- A line of what was read goes over where what it came from and the other lines do.
read_step : {V : Type 0} (A B : V → Type 0) (P Q : List V → Type 0) → ((v : V) → A v → B v) → ((ws : List V) → P ws → Q ws) → (b : Bool) (vs : List V) → cond b ((v : V) × (rest : List V) × (vs ≡ v ∷ rest) × A v × P rest) (P vs) → cond b ((v : V) × (rest : List V) × (vs ≡ v ∷ rest) × B v × Q rest) (Q vs)
read_step A B P Q came more true vs r = (r.0, r.1, r.2, came r.0 r.3, more r.1 r.4)
read_step A B P Q came more false vs r = more vs r

-- A record with one of its lines marked is noted as before.
module _ {V : Type 0} (rules : Rules V) (S : State V) (kind : Kind) (number : ℕ) where
  marked_cards : (from : ℕ) (es : List (Entry V)) → map (λ e. e.card) (marked_from kind number from es) ≡ map (λ e. e.card) es
  marked_cards from [] = refl
  marked_cards from (e ∷ es) = ap (λ cs. e.card ∷ cs) (marked_cards (from + 1) es)

  marked_written : (from : ℕ) (modes : List ℕ) (es : List (Entry V)) → values_written modes (marked_from kind number from es) ≡ values_written modes es
  marked_written from [] es = refl
  marked_written from (mode ∷ modes) [] = refl
  marked_written from (mode ∷ modes) (e ∷ es) = ap (λ vs. cond (writes mode) (e.value ∷ vs) vs) (marked_written (from + 1) modes es)

  marked_read : (site from : ℕ) (modes : List ℕ) (es : List (Entry V)) (vs : List V) → ReadAs rules S site modes es vs → ReadAs rules S site modes (marked_from kind number from es) vs
  marked_read site from [] es vs h = h
  marked_read site from (mode ∷ modes) [] vs h = h
  marked_read site from (mode ∷ modes) (e ∷ es) vs h = read_step (CameFrom rules S site e.card e.read) _ (ReadAs rules S site modes es) _ (λ v c. c) (λ ws. marked_read site (from + 1) modes es ws) (reads mode) vs h

  noted_marked : (k : ℕ) (h : Noted V) (x : Transaction V) → NotedAs rules S k h x → NotedAs rules S k h (transaction_marked kind number x)
  noted_marked k h x a =
      let each = marked_each kind number x.entries in
      record {
        number_is = a.number_is;
        time_is = a.time_is;
        rule_is = a.rule_is;
        cards_are = a.cards_are ∙ sym (ap (map (λ e. e.card)) each ∙ marked_cards 1 (few_list x.entries));
        outcome_is = a.outcome_is;
        answered = a.answered;
        written_are = ap (values_written (rules.modes x.rule)) each ∙ marked_written 1 (rules.modes x.rule) (few_list x.entries) ∙ a.written_are;
        read_are = subst (λ es. ReadAs rules S (site_of x.time) (rules.modes x.rule) es h.read) (sym each) (marked_read (site_of x.time) 1 (rules.modes x.rule) (few_list x.entries) h.read a.read_are);
      }

  pub noted_set : (n : ℕ) (hs : List (Noted V)) (xs : List (Transaction V)) (place : ℕ) (x : Transaction V) → slice_get xs place ≡ Some x → NotedFrom rules S n hs xs → NotedFrom rules S n hs (set xs place (transaction_marked kind number x))
  noted_set n [] [] place x found noted = tt
  noted_set n [] (z ∷ xs) place x found noted = absurd noted
  noted_set n (h ∷ hs) [] place x found noted = absurd noted
  noted_set n (h ∷ hs) (z ∷ xs) zero x found noted = (noted_marked n h x (subst (NotedAs rules S n h) (cc) noted.0), noted.1)
  noted_set n (h ∷ hs) (z ∷ xs) (suc place) x found noted = (noted.0, noted_set (n + 1) hs xs place x found noted.1)

module _ {V : Type 0} (rules : Rules V) where
  -- One more at the end.
  pub noted_push : (S : State V) (n k : ℕ) (hs : List (Noted V)) (h : Noted V) (xs : List (Transaction V)) (x : Transaction V) → k ≡ n + length xs → NotedFrom rules S n hs xs → NotedAs rules S k h x → NotedFrom rules S n (hs ++ h ∷ []) (xs ++ x ∷ [])
  noted_push S n k [] h [] x e noted more = (subst (λ j. NotedAs rules S j h x) (omega arith) more, tt)
  noted_push S n k [] h (y ∷ xs) x e noted more = absurd noted
  noted_push S n k (g ∷ hs) h [] x e noted more = absurd noted
  noted_push S n k (g ∷ hs) h (y ∷ xs) x e noted more = (noted.0, noted_push S (n + 1) k hs h xs x (omega arith) noted.1 more)

  -- Each as it is noted at another state; the one at place i has number m + i.
  pub noted_through : (S T : State V) (f : Noted V → Noted V) (m : ℕ) (hs : List (Noted V)) (xs : List (Transaction V)) → ((k i : ℕ) (h : Noted V) (x : Transaction V) → k ≡ m + i → slice_get xs i ≡ Some x → NotedAs rules S k h x → NotedAs rules T k (f h) x) → NotedFrom rules S m hs xs → NotedFrom rules T m (map f hs) xs
  noted_through S T f m [] [] each noted = tt
  noted_through S T f m [] (x ∷ xs) each noted = absurd noted
  noted_through S T f m (h ∷ hs) [] each noted = absurd noted
  noted_through S T f m (h ∷ hs) (x ∷ xs) each noted =
      (each m zero h x (omega arith) refl noted.0, noted_through S T f (m + 1) hs xs (λ k i g y e at a. each k (suc i) g y (omega arith) at a) noted.1)

-- A change under which each line of a transaction started stays one keeps what a transaction noted has read.
module _ {V : Type 0} (rules : Rules V) (S : State V) (waiting : List (Message V)) (delivered : ℕ) (xs : List (Transaction V)) (c : Change V)
    (lot_stays : (b : Lot V) → In b (lots rules S) → (mark : Mark) × In (lot b.line mark) (all_lots rules xs)) where
  abbrev after : State V
  after = moved S waiting delivered xs c

  written_stays : (site card time : ℕ) (value : V) → WrittenBy rules S site card time value → WrittenBy rules after site card time value
  written_stays site card time value w =
      let found = lot_stays w.writer w.noted in
      record { writer = lot w.writer.line found.0; noted = found.1; timed = w.timed; on_card = w.on_card; does_write = w.does_write; wrote = w.wrote; reached = w.reached }

  read_stays : (site : ℕ) (modes : List ℕ) (es : List (Entry V)) (vs : List V) → ReadAs rules S site modes es vs → ReadAs rules after site modes es vs
  read_stays site [] es vs h = h
  read_stays site (mode ∷ modes) [] vs h = h
  read_stays site (mode ∷ modes) (e ∷ es) vs h = read_step (CameFrom rules S site e.card e.read) _ (ReadAs rules S site modes es) _ (λ v c. ⊎_elim (λ o. inl o) (λ w. inr (written_stays site e.card e.read v w)) c) (λ ws. read_stays site modes es ws) (reads mode) vs h

  -- Such a change notes a transaction as before, but for the outcome.
  pub noted_stays : (k : ℕ) (h : Noted V) (outcome : Option Outcome) (x : Transaction V) → outcome ≡ told_home after x → NotedAs rules S k h x → NotedAs rules after k (record { number = h.number; time = h.time; rule = h.rule; argument = h.argument; cards = h.cards; read = h.read; written = h.written; outcome = outcome }) x
  noted_stays k h outcome x is a =
      record {
        number_is = a.number_is;
        time_is = a.time_is;
        rule_is = a.rule_is;
        cards_are = a.cards_are;
        outcome_is = is;
        answered = a.answered;
        written_are = a.written_are;
        read_are = read_stays (site_of x.time) (rules.modes x.rule) (few_list x.entries) h.read a.read_are;
      }

  -- Where nothing more is told of some transactions by their origins, they stay noted.
  pub noted_keeps : (m : ℕ) (hs : List (Noted V)) (ys : List (Transaction V)) → ((x : Transaction V) → In x ys → told_home after x ≡ told_home S x) → NotedFrom rules S m hs ys → NotedFrom rules after m hs ys
  noted_keeps m hs ys same noted =
      subst (λ gs. NotedFrom rules after m gs ys) (map-id hs)
      (noted_through rules S after (λ h. h) m hs ys (λ k i h x e at a. noted_stays k h h.outcome x (a.outcome_is ∙ sym (same x (in_nth x ys i at))) a) noted)
