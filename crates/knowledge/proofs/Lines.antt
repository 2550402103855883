-- What a search over a site's lines keeps from turn to turn. Assumes nothing.
use Rattle.std.proofs.Common.{◌≡◌, ℕ, Bool, true, false, cond, ◌&&◌, eqb, List, [], ◌∷◌, map, fold, is_some, filter, refl, ap, ◌∙◌, ⊎_elim, arith}
use Rattle.std.specs.List.{best_of}
use Rattle.std.proofs.lemmas.Bool.{cases_Bool, cond-false, eqb-true, and_right}
use Rattle.std.proofs.lemmas.Bool.Decides.{nat_tests}
use Rattle.records.specs.declared.line.Line.{Line}
use Rattle.records.specs.Present.{line_present, card_at}
use Rattle.knowledge.specs.declared.versions.Version.{Version}
use Rattle.knowledge.specs.Knowledge.{Site}
use Rattle.knowledge.specs.Versions.{written, later, version_of, taken_in}

module _ {V : Type 0} (site : Site V) (card : ℕ) (absent : is_some (card_at site.size site.cards card) ≡ false) where
  not_present : (l : Line V) → eqb l.card card ≡ true → line_present site.size site.cards l ≡ false
  not_present l e =
      let none : is_some (card_at site.size site.cards l.card) ≡ false = ap (λ c. is_some (card_at site.size site.cards c)) (eqb-true l.card card e) ∙ absent in
      grind (arith, nat_tests)

  not_written : (settled : Bool) (l : Line V) → written site settled card l ≡ false
  not_written settled l =
      ⊎_elim
      (λ (e : eqb l.card card ≡ true). let none = not_present l e in grind (arith, nat_tests))
      (λ (e : eqb l.card card ≡ false). grind (arith, nat_tests))
      (cases_Bool (eqb l.card card))

  -- A card that is absent has no version.
  pub none_written : (settled : Bool) (ls : List (Line V)) → filter (written site settled card) ls ≡ []
  none_written settled [] = refl
  none_written settled (l ∷ ls) = cond-false _ _ _ (not_written settled l) ∙ none_written settled ls

and_true : (b : Bool) → (b && true) ≡ b
and_true true = refl
and_true false = refl

-- The best of the versions among some lines, from the best so far.
abbrev pub best_left : {V : Type 0} → Site V → Bool → ℕ → Version V → List (Line V) → Version V
best_left site settled card best ls = best_of later best (map version_of (filter (written site settled card) ls))

one_more : {V : Type 0} (w : Bool) (best : Version V) (l : Line V) (ls : List (Line V)) → best_of later (cond (later (version_of l) best && w) (version_of l) best) (map version_of ls) ≡ best_of later best (map version_of (cond w (l ∷ ls) ls))
one_more true best l ls = ap (λ b. best_of later (cond b (version_of l) best) (map version_of ls)) (and_true (later (version_of l) best))
one_more false best l ls = ap (λ b. best_of later (cond b (version_of l) best) (map version_of ls)) (and_right (later (version_of l) best) false refl)

-- Taking in line after line leaves the best.
pub taken_best : {V : Type 0} (site : Site V) (settled : Bool) (card : ℕ) (best : Version V) (ls : List (Line V)) → fold (taken_in site settled card) best ls ≡ best_left site settled card best ls
taken_best site settled card best [] = refl
taken_best site settled card best (l ∷ ls) =
    taken_best site settled card (taken_in site settled card best l) ls
    ∙ one_more (written site settled card l) best l (filter (written site settled card) ls)
