-- The first place of least key, and what the lanes' rule says of it. Assumes nothing.
use Rattle.std.specs.Prelude.{◌≡◌, ℕ, zero, suc, ◌<◌, ◌≤◌, true, false, List, [], ◌∷◌, length, get_or, nat_le, slice_index_or}
use Rattle.std.proofs.Common.{ap, ◌∙◌, ⊎_elim, arith}
use Rattle.std.proofs.lemmas.Nat.{mod_below}
use Rattle.std.proofs.lemmas.List.{get_or_default}
use Rattle.std.proofs.lemmas.Bool.{true≢false, and_cases, leb-false, cond_both, cases_order}
use Rattle.records.specs.declared.message.Message.{Message}
use Rattle.terms.specs.Lists.{all}
use Rattle.carriers.specs.Choosing.{lane, reached, distance, first_least, FoundFirst}

module _ {X : Type 0} (key : X → ℕ) where
  -- No key is less than the one at the place, and each before it is greater.
  pub record FirstOfLeast (xs : List X) (place : ℕ) : Type 0 where
    pub waits : place < length xs
    pub least : (k : ℕ) (d : X) → k < length xs → key (slice_index_or xs place d) ≤ key (slice_index_or xs k d)
    pub first : (k : ℕ) (d : X) → k < place → key (slice_index_or xs place d) < key (slice_index_or xs k d)

  -- What is at most each key of a list is at most the key at a place.
  above : (n : ℕ) (xs : List X) → all (λ y. nat_le n (key y)) xs ≡ true → (k : ℕ) (d : X) → k < length xs → n ≤ key (slice_index_or xs k d)
  above n [] h k d lt = omega arith
  above n (y ∷ ys) h zero d lt = grind arith
  above n (y ∷ ys) h (suc k) d lt = let rest = above n ys in grind arith

  -- Some key of a list is below what is not at most all of them.
  one_below : (n : ℕ) (xs : List X) → all (λ y. nat_le n (key y)) xs ≡ false → (k : ℕ) × (k < length xs) × ((d : X) → key (slice_index_or xs k d) < n)
  one_below n [] h = absurd (true≢false h)
  one_below n (y ∷ ys) h =
      ⊎_elim
      (λ e. (0, omega arith, λ d. leb-false n (key y) e))
      (λ e. let rest = one_below n ys e in (suc rest.0, omega arith, rest.2))
      (and_cases _ _ h)

  -- What is above some key of a list is above the least.
  below : (n : ℕ) (xs : List X) → all (λ y. nat_le n (key y)) xs ≡ false → (place : ℕ) → FirstOfLeast xs place → (d : X) → key (slice_index_or xs place d) < n
  below n xs h place best d = let some = one_below n xs h in omega (arith, some.2 d, best.least some.0 d some.1)

  head_least : (x : X) (xs : List X) → all (λ y. nat_le (key x) (key y)) xs ≡ true → (k : ℕ) (d : X) → k < suc (length xs) → key x ≤ key (slice_index_or (x ∷ xs) k d)
  head_least x xs h zero d lt = omega arith
  head_least x xs h (suc k) d lt = above (key x) xs h k d (omega arith)

  tail_least : (x : X) (xs : List X) (place : ℕ) → FirstOfLeast xs place → ((d : X) → key (slice_index_or xs place d) < key x) → (k : ℕ) (d : X) → k < suc (length xs) → key (slice_index_or xs place d) ≤ key (slice_index_or (x ∷ xs) k d)
  tail_least x xs place best less zero d lt = omega (arith, less d)
  tail_least x xs place best less (suc k) d lt = best.least k d (omega arith)

  tail_first : (x : X) (xs : List X) (place : ℕ) → FirstOfLeast xs place → ((d : X) → key (slice_index_or xs place d) < key x) → (k : ℕ) (d : X) → k < suc place → key (slice_index_or xs place d) < key (slice_index_or (x ∷ xs) k d)
  tail_first x xs place best less zero d lt = less d
  tail_first x xs place best less (suc k) d lt = best.first k d (omega arith)

  pub least_is_first : (xs : List X) → 0 < length xs → FirstOfLeast xs (first_least key xs)
  least_is_first [] some = absurd (omega arith)
  least_is_first (x ∷ xs) some =
      cond_both (all (λ y. nat_le (key x) (key y)) xs) 0 (suc (first_least key xs)) (FirstOfLeast (x ∷ xs))
      (λ e. record { waits = omega arith; least = head_least x xs e; first = λ k d lt. absurd (omega arith) })
      (λ e.
      let one = one_below (key x) xs e in
      let best = least_is_first xs (omega (arith, one.1)) in
      let less = below (key x) xs e _ best in
      record { waits = omega (arith, best.waits); least = tail_least x xs _ best less; first = tail_first x xs _ best less })

  -- A place that is the first of least key is the one that `first_least` gives: there is no other.
  pub best_is_least : (xs : List X) (place : ℕ) → place ≤ length xs → (0 < length xs → FirstOfLeast xs place) → place ≡ first_least key xs
  best_is_least [] place small best = omega arith
  best_is_least (x ∷ xs) place small best =
      let least = first_least key (x ∷ xs) in
      let one = best (omega arith) in
      let two = least_is_first (x ∷ xs) (omega arith) in
      ⊎_elim
      (λ e. e)
      (⊎_elim
      (λ (lt : place < least). absurd (omega (arith, two.first place x lt, one.least least x two.waits)))
      (λ (lt : least < place). absurd (omega (arith, one.first least x lt, two.least place x one.waits))))
      (cases_order place least)

reached_distance : (hint to : ℕ) → to < 64 → to ≡ reached hint (distance hint to)
reached_distance hint to h = omega arith

distance_reached : (hint to steps : ℕ) → steps < 64 → to ≡ reached hint steps → distance hint to ≡ steps
distance_reached hint to steps h e = omega arith

pub found_first : {V : Type 0} (hint : ℕ) (waiting : List (Message V)) (place : ℕ) → FirstOfLeast (λ m. distance hint (lane m)) waiting place → FoundFirst waiting hint place
found_first hint [] place best = absurd (omega (arith, best.waits))
found_first {V} hint (x ∷ xs) place best =
    let steps : ℕ = distance hint (lane (slice_index_or (x ∷ xs) place x)) in
    let few : steps < 64 = mod_below _ 64 (omega arith) in
    let same : (d : Message V) → slice_index_or (x ∷ xs) place d ≡ get_or (x ∷ xs) place x = λ d. get_or_default (x ∷ xs) place d x best.waits in
    record {
      waits = best.waits;
      steps = steps;
      passed = λ j k d lt inside here. omega (arith, ap (λ m. distance hint (lane m)) (same d), distance_reached hint _ j (omega arith) here, best.least k d inside);
      within = λ d. ap lane (same d) ∙ reached_distance hint (lane (slice_index_or (x ∷ xs) place x)) (mod_below _ 64 (omega arith));
      first = λ k d lt here. omega (arith, ap (λ m. distance hint (lane m)) (same d), distance_reached hint _ steps few here, best.first k d lt);
    }
