-- A piece that is handed out is the part at its place. Assumes nothing.
use Rattle.std.proofs.Common.{◌≡◌, ℕ, zero, suc, ◌+◌, ◌-◌, ◌^◌, ◌<◌, ◌≤◌, min, List, [], ◌∷◌, length, drop, Some, None, Option, Bor, sym, refl, ap, ◌∙◌, ◌⊎◌, ⊎_elim, arith}
use Rattle.std.specs.List.{slice_get, slice_range}
use Rattle.std.specs.Option.{MatchOption}
use Rattle.std.proofs.lemmas.List.{take_rest}
use Rattle.std.proofs.lemmas.Option.{slice_get_past}
use Rattle.std.proofs.lemmas.Bool.{cases_lt}
use Rattle.script.specs.declared.pieces.Pieces.{Pieces}
use Rattle.script.specs.Pieces.{pieces, pieces_past, head, others}
use Rattle.script.specs.Readers.{left, pieces_in, Reads}

head_drop : (ps : List (List ℕ)) (k : ℕ) → head (drop k ps) ≡ slice_get ps k
head_drop [] zero = refl
head_drop [] (suc k) = refl
head_drop (p ∷ ps) zero = refl
head_drop (p ∷ ps) (suc k) = head_drop ps k

others_drop : (ps : List (List ℕ)) (k : ℕ) → others (drop k ps) ≡ drop (suc k) ps
others_drop [] zero = refl
others_drop [] (suc k) = refl
others_drop (p ∷ ps) zero = refl
others_drop (p ∷ ps) (suc k) = others_drop ps k

within : (ps : List (List ℕ)) (k : ℕ) (p : List ℕ) → slice_get ps k ≡ Some p → k < length ps
within ps k p e = ⊎_elim (λ l. l) (λ (past : length ps ≤ k). absurd (grind (arith, e, slice_get_past ps k past))) (cases_lt k (length ps))

-- behind the separator at which a piece ends stand the other pieces
pub past_end : (s : ℕ) (past : List ℕ) (rest : Option (Bor (List ℕ))) → MatchOption rest ((length past < 1) ⊎ (length past < length past)) (λ x. (1 ≤ length past) × (length past ≤ length past) × (x.now ≡ slice_range past 1 (length past)) × (length x.now + 1 ≡ length past)) → pieces_in s rest ≡ pieces_past s past
past_end s [] None h = refl
past_end s (b ∷ bs) None h = absurd (omega arith)
past_end s [] (Some x) h = absurd (omega arith)
past_end s (b ∷ bs) (Some x) h = ap (pieces s) (h.2 ∙ take_rest (b ∷ bs) 1)

pub part : (before after : Pieces) (text : List ℕ) → Some text ≡ head (left before) → left after ≡ others (left before) → after.separator ≡ before.separator → after.place ≡ min (before.place + 1) (2 ^ 32 - 1) → (bs : List ℕ) → length (pieces before.separator bs) < 2 ^ 32 → Reads before bs → (slice_get (pieces before.separator bs) (after.place - 1) ≡ Some text) × Reads after bs
part before after text first rest same place bs few reads =
    let ps = pieces before.separator bs in
    let at = sym (first ∙ ap head reads ∙ head_drop ps before.place) in
    let inside = within ps before.place text at in
    let back : after.place - 1 ≡ before.place = omega (arith, place, inside, few) in
    let next : suc before.place ≡ after.place = omega (arith, place, inside, few) in
    (ap (slice_get ps) back ∙ at, rest ∙ ap others reads ∙ others_drop ps before.place ∙ (λ i. drop (next i) (pieces (sym same i) bs)))
