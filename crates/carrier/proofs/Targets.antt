-- Going through the sites that a mask names. Assumes nothing.
use Rattle.std.proofs.Common.{◌≡◌, ℕ, suc, ◌+◌, ◌-◌, ◌<◌, ◌≤◌, true, false, cond, List, [], ◌∷◌, map, filter, sym, ap, ◌∙◌, arith}
use Rattle.std.specs.List.{range_with_len}
use Rattle.records.specs.declared.message.Message.{Message}
use Rattle.records.specs.Present.{holds}
use Rattle.carrier.specs.Sending.{addressed}

-- The sites named from a site on.
abbrev pub targets_from : ℕ → ℕ → List ℕ
targets_from mask site = filter (holds mask) (range_with_len site (8 - site))

targets_next : (mask site : ℕ) → site < 8 → targets_from mask site ≡ cond (holds mask site) (site ∷ targets_from mask (site + 1)) (targets_from mask (site + 1))
targets_next mask site h =
    let more : 8 - site ≡ suc (8 - (site + 1)) = omega arith in
    ap (λ n. filter (holds mask) (range_with_len site n)) more

-- The copies for the sites from a site on.
abbrev pub copies_from : {V : Type 0} → Message V → ℕ → ℕ → List (Message V)
copies_from m mask site = map (addressed m) (targets_from mask site)

pub copies_named : {V : Type 0} (m : Message V) (mask site : ℕ) → site < 8 → true ≡ holds mask site → copies_from m mask site ≡ addressed m site ∷ copies_from m mask (site + 1)
copies_named m mask site h named = ap (map (addressed m)) (targets_next mask site h ∙ ap (λ b. cond b (site ∷ targets_from mask (site + 1)) (targets_from mask (site + 1))) (sym named))

pub copies_unnamed : {V : Type 0} (m : Message V) (mask site : ℕ) → site < 8 → false ≡ holds mask site → copies_from m mask site ≡ copies_from m mask (site + 1)
copies_unnamed m mask site h unnamed = ap (map (addressed m)) (targets_next mask site h ∙ ap (λ b. cond b (site ∷ targets_from mask (site + 1)) (targets_from mask (site + 1))) (sym unnamed))

pub copies_done : {V : Type 0} (m : Message V) (mask site : ℕ) → 8 ≤ site → copies_from m mask site ≡ []
copies_done m mask site h =
    let none : 8 - site ≡ 0 = omega arith in
    ap (λ n. map (addressed m) (filter (holds mask) (range_with_len site n))) none
