-- A confirmed line guards its interval. Assumes nothing.
use Rattle.std.proofs.Common.{◌≡◌, ◌<◌, Bool, true, false, cond, not, ◌&&◌, List, [], ◌∷◌, map, is_some, fold, filter, sym, refl, ap, ◌∙◌, subst, inl, ⊎_elim, arith}
use Rattle.std.proofs.lemmas.Bool.{lt-ltb, and_from, and_right, or_right, cond-true, eq-eqb}
use Rattle.std.proofs.lemmas.Bool.Decides.{nat_tests}
use Rattle.records.specs.declared.line.Line.{Line}
use Rattle.records.specs.declared.size.Size.{Size}
use Rattle.records.specs.declared.card.Card.{Card}
use Rattle.terms.specs.Lists.{In, none}
use Rattle.terms.specs.Modes.{writes}
use Rattle.records.specs.Present.{line_present}
use Rattle.terms.proofs.Lists.{in_left, in_right}
use Rattle.knowledge.specs.declared.check.Guess.TheVariants.{ReadLatest, NoConflict}
use Rattle.knowledge.specs.Arrivals.{judged, lands, landed, recorded, Arrival, line_arrives, verdict_arrives, after, Guards}
use Rattle.knowledge.specs.Check.{reserves, reservation_of, strictly_between, guess_holds, guess_fails, denied}
use Rattle.knowledge.specs.Knowledge.{Site, known, aborted}

-- What later arrivals keep of a site: the cards, and a line that has landed.
pub record Holds {V : Type 0} (size : Size) (cards : List (Card V)) (a : Line V) (site : Site V) : Type 0 where
  pub same_size : site.size ≡ size
  pub same_cards : site.cards ≡ cards
  pub there : In a site.lines

module _ {V : Type 0} (size : Size) (cards : List (Card V)) (a : Line V) where
  either : (b : Bool) (s t : Site V) → Holds size cards a s → Holds size cards a t → Holds size cards a (cond b s t)
  either true s t h k = h
  either false s t h k = k

  holds_after : (site : Site V) (e : Arrival V) → Holds size cards a site → Holds size cards a (after site e)
  holds_after site (line_arrives l) h =
      either (lands (judged site l)) (landed site l) site (record { same_size = h.same_size; same_cards = h.same_cards; there = in_left a site.lines (l ∷ []) h.there }) h
  holds_after site (verdict_arrives v) h =
      either (is_some (known site v.time)) site (recorded site v) h (record { same_size = h.same_size; same_cards = h.same_cards; there = h.there })

  holds_folded : (site : Site V) (es : List (Arrival V)) → Holds size cards a site → Holds size cards a (fold after site es)
  holds_folded site [] h = h
  holds_folded site (e ∷ es) h = holds_folded (after site e) es (holds_after site e h)

  still_present : (site : Site V) → Holds size cards a site → line_present size cards a ≡ true → line_present site.size site.cards a ≡ true
  still_present site h p = ap (λ z. line_present z site.cards a) h.same_size ∙ ap (λ cs. line_present size cs a) h.same_cards ∙ p

-- An element that is kept and hits spoils the whole.
module _ {X Y : Type 0} (hit : Y → Bool) (f : X → Y) (keep : X → Bool) where
  at_first : (w : Bool) (y : X) (zs : List X) → w ≡ true → hit (f y) ≡ true → none hit (map f (cond w (y ∷ zs) zs)) ≡ false
  at_first true y zs k h = ap (λ b. not b && none hit (map f zs)) h
  at_first false y zs k h = grind (arith, nat_tests)

  at_rest : (w : Bool) (y : X) (zs : List X) → none hit (map f zs) ≡ false → none hit (map f (cond w (y ∷ zs) zs)) ≡ false
  at_rest true y zs h = and_right (not (hit (f y))) _ h
  at_rest false y zs h = h

  spoils : (x : X) (xs : List X) → keep x ≡ true → hit (f x) ≡ true → In x xs → none hit (map f (filter keep xs)) ≡ false
  spoils x [] k h m = elim m [ ]
  spoils x (y ∷ ys) k h m =
      ⊎_elim
      (λ (e : y ≡ x). at_first (keep y) y (filter keep ys) (ap keep e ∙ k) (ap (λ z. hit (f z)) e ∙ h))
      (λ later. at_rest (keep y) y (filter keep ys) (spoils x ys k h later))
      m

module _ {V : Type 0} (site : Site V) (a : Line V) (b : Line V) where
  -- A write strictly inside the interval of a landed line that is not known as aborted is denied.
  kept_out : In a site.lines → line_present site.size site.cards a ≡ true → aborted site a.time ≡ false → b.card ≡ a.card → writes b.mode ≡ true → a.read < b.time → b.time < a.time → denied site b ≡ true
  kept_out there present live same write low high =
      let same_card = eq-eqb a.card b.card (sym same) in
      let reserved : reserves site b.card a ≡ true = grind (arith, nat_tests) in
      let inside = and_from _ _ (lt-ltb _ _ low) (lt-ltb _ _ high) in
      let broken : guess_holds site NoConflict b ≡ false = spoils (λ i. strictly_between i.from i.to b.time) reservation_of (reserves site b.card) a site.lines reserved inside there in
      or_right (guess_fails site ReadLatest b) _ (and_from _ _ write (ap not broken))

pub guards : {V : Type 0} (site : Site V) (a : Line V) → Guards site a
guards site a present confirmed arrivals b live same write low high =
    let first = cond-true _ (landed site a) site (ap lands confirmed) in
    let start = subst (Holds site.size site.cards a) (sym first) (record { same_size = refl; same_cards = refl; there = in_right a site.lines (a ∷ []) (inl refl) }) in
    let later = holds_folded site.size site.cards a (after site (line_arrives a)) arrivals start in
    kept_out (fold after site (line_arrives a ∷ arrivals)) a b later.there (still_present site.size site.cards a _ later present) live same write low high
