-- What a call that extends a table by one record leaves. Assumes nothing.
use Rattle.std.proofs.Common.{◌≡◌, ℕ, suc, nat_lt, ◌<◌, ◌≤◌, List, [], ◌∷◌, ◌++◌, length, take, drop, set, sym, ap, ◌∙◌, ⊎_elim, arith}
use Rattle.std.proofs.lemmas.List.{append_assoc, take-append-drop, set_split}
use Rattle.std.proofs.lemmas.Bool.{cases_lt, cond-true, cond-false, lt-ltb, le-ltb}
use Rattle.std.proofs.lemmas.Bool.Decides.{nat_tests}
use Rattle.site.specs.Tables.{Extends}
use Rattle.delivering.specs.Tables.{appended, used_after}

module _ {X : Type 0} (before : List X) (used : ℕ) (x : X) (count : ℕ) (after : List X) (one : Extends before used (x ∷ []) count after) where
  pub count_extended : count ≡ used_after before used
  count_extended =
      ⊎_elim
      (λ (free : used < length before). let joined = one.joins (omega arith) in grind (arith, nat_tests))
      (λ (none : length before ≤ used). let same = one.full (omega arith) in grind (arith, nat_tests))
      (cases_lt used (length before))

  set_joined : used < length before → take count after ≡ take used before ++ (x ∷ []) → drop count after ≡ drop count before → count ≡ suc used → after ≡ set before used x
  set_joined free front past counted =
      sym (take-append-drop count after)
      ∙ (λ i. front i ++ past i)
      ∙ append_assoc (take used before) (x ∷ []) (drop count before)
      ∙ ap (λ n. take used before ++ (x ∷ drop n before)) counted
      ∙ sym (set_split before used x free)

  pub table_extended : after ≡ appended before used x
  table_extended =
      ⊎_elim
      (λ (free : used < length before).
      let joined = one.joins (omega arith) in
      let e = set_joined free joined.front joined.past (omega arith) in
      e ∙ sym (cond-true (nat_lt used (length before)) _ _ (lt-ltb _ _ free)))
      (λ (none : length before ≤ used).
      let same = one.full (omega arith) in
      same.kept ∙ sym (cond-false (nat_lt used (length before)) _ _ (le-ltb used (length before) none)))
      (cases_lt used (length before))
