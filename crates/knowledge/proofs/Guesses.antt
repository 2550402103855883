-- The search for a line that upsets a guess. Assumes nothing.
use Rattle.std.proofs.Common.{◌≡◌, ℕ, Bool, true, false, cond, not, ◌&&◌, ◌||◌, List, [], ◌∷◌, ◌++◌, map, Some, None, filter, Option, sym, refl, ◌∙◌, arith}
use Rattle.std.specs.List.{list_any}
use Rattle.std.proofs.lemmas.Bool.Decides.{nat_tests}
use Rattle.records.specs.declared.card.Card.{Card}
use Rattle.records.specs.declared.line.Line.{Line}
use Rattle.terms.specs.Lists.{none}
use Rattle.records.specs.Present.{card_at}
use Rattle.knowledge.specs.declared.check.Guess.{Guess}
use Rattle.knowledge.specs.declared.check.Guess.TheVariants.{ReadLatest, NoConflict}
use Rattle.knowledge.specs.declared.versions.Version.{Version}
use Rattle.knowledge.specs.Knowledge.{Site}
use Rattle.knowledge.specs.Versions.{written, version_of, opening_versions}
use Rattle.knowledge.specs.Check.{reserves, reservation_of, strictly_between, guess_holds, upsets}

-- Whether a guess holds over some of the lines.
abbrev pub holds_of : {V : Type 0} → Site V → Guess → Line V → List (Line V) → Bool
holds_of site ReadLatest l ls = none (λ v. strictly_between l.read l.time v.time) (map version_of (filter (written site false l.card) ls))
holds_of site NoConflict l ls = none (λ i. strictly_between i.from i.to l.time) (map reservation_of (filter (reserves site l.card) ls))

one_more : {X Y : Type 0} (hit : Y → Bool) (f : X → Y) (x : X) (ys : List X) (picked any : Bool) → none hit (map f ys) ≡ not any → none hit (map f (cond picked (x ∷ ys) ys)) ≡ not ((hit (f x) && picked) || any)
one_more hit f x ys false any e = grind (arith, nat_tests)
one_more hit f x ys true any e = grind (arith, nat_tests)

-- No picked thing hits exactly if none is picked and hits.
none_picked : {X Y : Type 0} (hit : Y → Bool) (f : X → Y) (pick : X → Bool) (xs : List X) → none hit (map f (filter pick xs)) ≡ not (list_any (λ x. hit (f x) && pick x) xs)
none_picked hit f pick [] = refl
none_picked hit f pick (x ∷ xs) = one_more hit f x (filter pick xs) (pick x) (list_any (λ x. hit (f x) && pick x) xs) (none_picked hit f pick xs)

-- The opening value is never strictly between.
past_opening : {V : Type 0} (from to : ℕ) (o : Option (Card V)) (vs : List (Version V)) → none (λ v. strictly_between from to v.time) vs ≡ none (λ v. strictly_between from to v.time) (opening_versions o ++ vs)
past_opening from to None vs = refl
past_opening from to (Some card) vs = grind (arith, nat_tests)

pub holds_of_all : {V : Type 0} (site : Site V) (guess : Guess) (l : Line V) → holds_of site guess l site.lines ≡ guess_holds site guess l
holds_of_all site ReadLatest l = past_opening l.read l.time (card_at site.size site.cards l.card) (map version_of (filter (written site false l.card) site.lines))
holds_of_all site NoConflict l = refl

-- A guess holds exactly if no landed line upsets it.
pub guess_upset : {V : Type 0} (site : Site V) (guess : Guess) (l : Line V) → not (list_any (upsets site guess l) site.lines) ≡ guess_holds site guess l
guess_upset site ReadLatest l = sym (none_picked (λ v. strictly_between l.read l.time v.time) version_of (written site false l.card) site.lines) ∙ holds_of_all site ReadLatest l
guess_upset site NoConflict l = sym (none_picked (λ i. strictly_between i.from i.to l.time) reservation_of (reserves site l.card) site.lines)
