-- A line that its primary let pass: no landed line upsets its guesses, unless known as aborted. Assumes nothing.
use Rattle.std.proofs.Common.{◌≡◌, ◌<◌, ◌≤◌, Bool, true, false, not, List, [], ◌∷◌, is_some, Some, Option, sym, ap, ◌∙◌, ⊎_elim, arith}
use Rattle.std.proofs.lemmas.Bool.{cases_Bool, and_parts, and_from, or_parts, not-true, both_ways, lt-ltb, le-leb}
use Rattle.std.proofs.lemmas.Bool.Decides.{nat_tests}
use Rattle.terms.specs.declared.outcome.Outcome.{Outcome}
use Rattle.terms.specs.declared.outcome.Outcome.TheVariants.{Abort}
use Rattle.terms.specs.Lists.{In, none}
use Rattle.terms.specs.Modes.{mode_of, reads, writes}
use Rattle.records.specs.declared.line.Line.{Line}
use Rattle.records.specs.Present.{line_present, card_at}
use Rattle.knowledge.specs.declared.check.Guess.{Guess}
use Rattle.knowledge.specs.declared.check.Guess.TheVariants.{ReadLatest, NoConflict}
use Rattle.knowledge.specs.Check.{reservation_of, reserves, strictly_between, guess_holds, guess_fails, makes_guess, denied}
use Rattle.knowledge.specs.Knowledge.{Site, known, says_abort, aborted}
use Rattle.knowledge.specs.Versions.{written, version_of, opening_versions}
use Rattle.model.proofs.State.{State}
use Rattle.model.proofs.Cases.{says_abort_is}
use Rattle.model.proofs.Members.{in_right, in_map, in_kept}
use Rattle.model.proofs.Parts.Shape.{Shaped}

none_in : {X : Type 0} (test : X → Bool) (x : X) (xs : List X) → In x xs → none test xs ≡ true → test x ≡ false
none_in test x [] h e = absurd h
none_in test x (y ∷ xs) h e =
    let p = and_parts (not (test y)) (none test xs) e in
    ⊎_elim (λ (q : y ≡ x). ap test (sym q) ∙ not-true (test y) p.0) (λ r. none_in test x xs r p.1) h

aborted_if_between : (o : Option Outcome) (between : Bool) → between ≡ true → (says_abort o ≡ false → between ≡ false) → o ≡ Some Abort
aborted_if_between o between e out = ⊎_elim (says_abort_is o) (λ no. absurd (both_ways between (out no) e)) (cases_Bool (says_abort o))

module _ {V : Type 0} (site : Site V) (l o : Line V) (passed : denied site l ≡ false) (there : In o site.lines) (present : line_present site.size site.cards o ≡ true) (same : o.card ≡ l.card) where
  holding : (guess : Guess) → guess_fails site guess l ≡ false → makes_guess guess l.mode ≡ true → guess_holds site guess l ≡ true
  holding guess e m = grind (arith, nat_tests)

  -- A landed write strictly inside the interval of a line that passed.
  pub write_aborted : reads l.mode ≡ true → writes o.mode ≡ true → l.read < o.time → o.time < l.time → known site o.time ≡ Some Abort
  write_aborted r w low high =
      aborted_if_between _ _ (and_from _ _ (lt-ltb _ _ low) (lt-ltb _ _ high)) out
    where
      out : aborted site o.time ≡ false → strictly_between l.read l.time o.time ≡ false
      out live =
          let counts : written site false l.card o ≡ true = grind (arith, nat_tests) in
          none_in (λ v. strictly_between l.read l.time v.time) (version_of o) _ (in_right (version_of o) (opening_versions (card_at site.size site.cards l.card)) _ (in_map version_of o _ (in_kept (written site false l.card) o site.lines there counts))) (holding ReadLatest (or_parts _ _ passed).0 r)

  -- A landed line that has a write that passed strictly inside its interval.
  pub reader_aborted : writes l.mode ≡ true → o.read < l.time → l.time < o.time → known site o.time ≡ Some Abort
  reader_aborted w low high =
      aborted_if_between _ _ (and_from _ _ (lt-ltb _ _ low) (lt-ltb _ _ high)) out
    where
      out : aborted site o.time ≡ false → strictly_between o.read o.time l.time ≡ false
      out live =
          let counts : reserves site l.card o ≡ true = grind (arith, nat_tests) in
          none_in (λ i. strictly_between i.from i.to l.time) (reservation_of o) _ (in_map reservation_of o _ (in_kept (reserves site l.card) o site.lines there counts)) (holding NoConflict (or_parts (guess_fails site ReadLatest l) _ passed).1 w)

-- A line of a transaction started is in range, and read no later time.
module _ {V : Type 0} (S : State V) (l : Line V) (h : Shaped S l) where
  pub read_not_above : l.read ≤ l.time
  read_not_above =
      ⊎_elim
      (λ (e : reads l.mode ≡ true). let b : l.read < l.time = h.read_before e in omega arith)
      (λ (e : reads l.mode ≡ false). let b : l.read ≡ l.time = h.read_own e in omega arith)
      (cases_Bool (reads l.mode))

  pub shaped_present : line_present S.size S.cards l ≡ true
  shaped_present =
      let known_mode : is_some (mode_of l.mode) ≡ true = grind (arith, nat_tests, h.mode_from_1, h.mode_to_3) in
      and_from _ _ (and_from _ _ (and_from _ _ (and_from _ _ (and_from _ _ h.ranged (le-leb 1 l.number h.from_1)) (le-leb l.number 4 h.to_4)) (ap is_some h.card_is)) known_mode) (le-leb l.read l.time read_not_above)
