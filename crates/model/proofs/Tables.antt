-- Writing behind the used records of one site leaves those of every other. Assumes nothing.
use Rattle.std.proofs.Common.{◌≡◌, ℕ, ◌+◌, ◌-◌, ◌*◌, ◌<◌, ◌≤◌, cond, eqb, List, ◌++◌, length, get_or, take, drop, set, sym, refl, ap, ◌∙◌, subst, ⊎_elim, mul-le-mul_right, suc-mul, arith, take-add}
use lib.Seq.{drop-append-add}
use Rattle.std.proofs.lemmas.List.{append_assoc, length-append, length-take, length-drop, length-take-le, take_at, take-take, take-append-le, drop_at, drop-drop, get_or-set_same, get_or-set_other}
use Rattle.std.proofs.lemmas.Bool.{cases_order, cases_eq, cond-true, cond-false, eq-eqb, ne_eqb}
use Rattle.model.specs.Tables.{used_of, written_at}

module _ {X : Type 0} (table more : List X) where
  length_written : (place : ℕ) → place + length more ≤ length table → length (written_at table place more) ≡ length table
  length_written place fits = simp (length-append, length-take, length-drop) (omega arith)

  abbrev past : ℕ → List X
  past place = drop (place + length more) table

  -- The part before the place, up to a base and from there on.
  parted : (base used : ℕ) → written_at table (base + used) more ≡ take base table ++ ((take used (drop base table) ++ more) ++ past (base + used))
  parted base used =
      ap (λ t. t ++ (more ++ past (base + used))) (take-add base used table)
      ∙ append_assoc (take base table) (take used (drop base table)) (more ++ past (base + used))
      ∙ ap (λ t. take base table ++ t) (sym (append_assoc (take used (drop base table)) more (past (base + used))))

  written_here : (base used : ℕ) → base + used ≤ length table → take (used + length more) (drop base (written_at table (base + used) more)) ≡ take used (drop base table) ++ more
  written_here base used fits =
      ap (λ t. take (used + length more) (drop base t)) (parted base used)
      ∙ ap (take (used + length more)) (drop_at (take base table) _ base (length-take-le base table (omega arith)))
      ∙ take_at (take used (drop base table) ++ more) (past (base + used)) (used + length more) (simp (length-append, length-take, length-drop) (omega arith))

  written_later : (base used place : ℕ) → base + used ≤ place → place ≤ length table → take used (drop base (written_at table place more)) ≡ take used (drop base table)
  written_later base used place before fits =
      let split : place ≡ base + (place - base) = omega arith in
      ap (λ p. take used (drop base (written_at table p more))) split
      ∙ ap (λ t. take used (drop base t)) (parted base (place - base))
      ∙ ap (take used) (drop_at (take base table) _ base (length-take-le base table (omega arith)) ∙ append_assoc (take (place - base) (drop base table)) more (past (base + (place - base))))
      ∙ take-append-le used (take (place - base) (drop base table)) _ (simp (length-take, length-drop) (omega arith))
      ∙ take-take used (place - base) (drop base table) (omega arith)

  written_earlier : (base place : ℕ) → place + length more ≤ base → place ≤ length table → drop base (written_at table place more) ≡ drop base table
  written_earlier base place behind fits =
      let split : base ≡ length (take place table ++ more) + (base - (place + length more)) = simp (length-append, length-take) (omega arith) in
      let whole : place + length more + (base - (place + length more)) ≡ base = omega arith in
      ap (drop base) (sym (append_assoc (take place table) more (past place)))
      ∙ ap (λ n. drop n ((take place table ++ more) ++ past place)) split
      ∙ drop-append-add (take place table ++ more) (past place) (base - (place + length more))
      ∙ drop-drop (base - (place + length more)) (place + length more) table
      ∙ ap (λ n. drop n table) whole

-- The share of a later site begins behind that of an earlier one.
pub shares_apart : (s t share : ℕ) → s < t → s * share + share ≤ t * share
shares_apart s t share below = let next = suc-mul s share in let up = mul-le-mul_right share below in omega arith

module _ {X : Type 0} (table more : List X) (share site used : ℕ) (room : used + length more ≤ share) (long : site * share + share ≤ length table) where
  abbrev after : List X
  after = written_at table (site * share + used) more

  pub table_kept : length after ≡ length table
  table_kept = length_written table more (site * share + used) (omega arith)

  used_here : used_of after share site (used + length more) ≡ used_of table share site used ++ more
  used_here = written_here table more (site * share) used (omega arith)

  used_elsewhere : (other its : ℕ) → (other ≡ site → ⊥) → its ≤ share → used_of after share other its ≡ used_of table share other its
  used_elsewhere other its apart few =
      ⊎_elim
      (λ (e : other ≡ site). absurd (apart e))
      (⊎_elim
      (λ (l : other < site). let before = shares_apart other site share l in written_later table more (other * share) its (site * share + used) (omega arith) (omega arith))
      (λ (l : site < other). let behind = shares_apart site other share l in ap (take its) (written_earlier table more (other * share) (site * share + used) (omega arith) (omega arith))))
      (cases_order other site)

-- The same where the numbers of used records stand in a list by site.
module _ {X : Type 0} (table more : List X) (share : ℕ) (counts : List ℕ) (site : ℕ) (there : site < length counts) (few : (s : ℕ) → get_or counts s 0 ≤ share) (room : get_or counts site 0 + length more ≤ share) (long : site * share + share ≤ length table) where
  abbrev counted : List ℕ
  counted = set counts site (get_or counts site 0 + length more)

  abbrev entered : List X
  entered = written_at table (site * share + get_or counts site 0) more

  count_here : get_or counted site 0 ≡ get_or counts site 0 + length more
  count_here = get_or-set_same counts site _ 0 there

  pub counts_fit : (s : ℕ) → get_or counted s 0 ≤ share
  counts_fit s =
      ⊎_elim
      (λ (e : s ≡ site). subst (λ k. get_or counted k 0 ≤ share) (sym e) (subst (λ n. n ≤ share) (sym count_here) room))
      (λ (ne : s ≡ site → ⊥). subst (λ n. n ≤ share) (sym (get_or-set_other counts site s _ 0 ne)) (few s))
      (cases_eq s site)

  pub part_after : (s : ℕ) → used_of entered share s (get_or counted s 0) ≡ cond (eqb s site) (used_of table share s (get_or counts s 0) ++ more) (used_of table share s (get_or counts s 0))
  part_after s =
      ⊎_elim
      (λ (e : s ≡ site). subst (λ k. used_of entered share k (get_or counted k 0) ≡ cond (eqb k site) (used_of table share k (get_or counts k 0) ++ more) (used_of table share k (get_or counts k 0))) (sym e) (ap (used_of entered share site) count_here ∙ used_here table more share site (get_or counts site 0) room long ∙ sym (cond-true (eqb site site) _ _ (eq-eqb site site refl))))
      (λ (ne : s ≡ site → ⊥). ap (used_of entered share s) (get_or-set_other counts site s _ 0 ne) ∙ used_elsewhere table more share site (get_or counts site 0) room long s (get_or counts s 0) ne (few s) ∙ sym (cond-false (eqb s site) _ _ (ne_eqb s site ne)))
      (cases_eq s site)
