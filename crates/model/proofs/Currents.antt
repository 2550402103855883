-- Where the current version of a card at a site comes from. Assumes nothing.
use Rattle.std.proofs.Common.{◌≡◌, ℕ, ◌≤◌, Bool, true, false, cond, List, [], ◌∷◌, map, Some, None, filter, Option, refl, ap, subst, inl, inr, ⊎_elim, arith}
use Rattle.std.specs.List.{best_of}
use Rattle.std.proofs.lemmas.Bool.{ltb-true, ltb-false}
use Rattle.terms.specs.Lists.{In}
use Rattle.records.specs.declared.card.Card.{Card}
use Rattle.records.specs.declared.line.Line.{Line}
use Rattle.records.specs.Present.{card_at}
use Rattle.knowledge.specs.declared.versions.Version.{Version}
use Rattle.knowledge.specs.Knowledge.{Site}
use Rattle.knowledge.specs.Versions.{opening_version, opening_versions, version_of, written, versions, later, highest}
use Rattle.model.proofs.Cases.{none_some}
use Rattle.model.proofs.Members.{in_split, map_in, kept_in}

-- The best of some is one of them.
pub best_in : {X : Type 0} (beats : X → X → Bool) (a : X) (xs : List X) → In (best_of beats a xs) (a ∷ xs)
best_in beats a [] = inl refl
best_in beats a (x ∷ xs) = go (beats x a) (best_in beats (cond (beats x a) x a) xs)
  where
    go : (b : Bool) → In (best_of beats (cond (beats x a) x a) xs) (cond b x a ∷ xs) → In (best_of beats (cond (beats x a) x a) xs) (a ∷ x ∷ xs)
    go true i = inr i
    go false i = ⊎_elim (λ e. inl e) (λ r. inr (inr r)) i

-- None of them has a higher time.
pub best_above : {V : Type 0} (a : Version V) (vs : List (Version V)) (v : Version V) → In v (a ∷ vs) → v.time ≤ (best_of later a vs).time
best_above a [] v i = ⊎_elim (λ (e : a ≡ v). let t = ap (λ w. w.time) e in omega arith) (λ j. absurd j) i
best_above {V} a (w ∷ vs) v i = go (later w a) refl (λ u. best_above u vs) i
  where
    go : (b : Bool) → later w a ≡ b → ((u : Version V) (x : Version V) → In x (u ∷ vs) → x.time ≤ (best_of later u vs).time) → In v (a ∷ w ∷ vs) → v.time ≤ (best_of later (cond b w a) vs).time
    go true e above j =
        let lt = ltb-true a.time w.time e in
        let top = above w w (inl refl) in
        ⊎_elim (λ (q : a ≡ v). let t = ap (λ u. u.time) q in omega arith) (λ k. above w v k) j
    go false e above j =
        let le = ltb-false a.time w.time e in
        let top = above a a (inl refl) in
        ⊎_elim (λ (q : a ≡ v). above a v (inl q)) (λ k. ⊎_elim (λ (q : w ≡ v). let t = ap (λ u. u.time) q in omega arith) (λ l. above a v (inr l)) k) j

highest_in : {V : Type 0} (vs : List (Version V)) (v : Version V) → highest vs ≡ Some v → In v vs
highest_in [] v e = absurd (none_some v e)
highest_in (w ∷ vs) v e = let same : best_of later w vs ≡ v = cc in subst (λ u. In u (w ∷ vs)) same (best_in later w vs)

-- A version of a card is its opening value, or a line that has landed and wrote the card.
pub data VersionFrom {V : Type 0} (site : Site V) (settled : Bool) (number : ℕ) (v : Version V) : Type 0 where
  from_opening : (card : Card V) → card_at site.size site.cards number ≡ Some card → opening_version card ≡ v → VersionFrom site settled number v
  from_line : (l : Line V) → In l site.lines → written site settled number l ≡ true → version_of l ≡ v → VersionFrom site settled number v

pub version_from : {V : Type 0} (site : Site V) (settled : Bool) (number : ℕ) (v : Version V) → highest (versions site settled number) ≡ Some v → VersionFrom site settled number v
version_from {V} site settled number v e =
    ⊎_elim
    (λ (i : In v (opening_versions (card_at site.size site.cards number))). opening (card_at site.size site.cards number) refl i)
    (λ (i : In v (map version_of (filter (written site settled number) site.lines))).
    let l = map_in version_of v (filter (written site settled number) site.lines) i in
    let k = kept_in (written site settled number) l.0 site.lines l.1 in
    from_line l.0 k.0 k.1 l.2)
    (in_split v (opening_versions (card_at site.size site.cards number)) _ (highest_in (versions site settled number) v e))
  where
    opening : (o : Option (Card V)) → card_at site.size site.cards number ≡ o → In v (opening_versions o) → VersionFrom site settled number v
    opening None is i = absurd i
    opening (Some card) is i = ⊎_elim (λ (f : opening_version card ≡ v). from_opening card is f) (λ n. absurd n) i
