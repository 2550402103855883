-- Bytes cut into pieces, and pieces put together again. Assumes nothing.
use Rattle.std.proofs.Common.{◌≡◌, ℕ, ◌+◌, true, false, not, cond, eqb, List, [], ◌∷◌, ◌++◌, length, take, drop, Option, sym, refl, ap, ◌∙◌, subst, ⊎_elim, arith, append_assoc, append-nil}
use Rattle.std.specs.List.{AllByRecursion, position, position_or_len}
use Rattle.std.proofs.lemmas.Bool.{cases_eq, cond-true, cond-false, eq-eqb, ne_eqb}
use Rattle.std.proofs.lemmas.List.Sums.{prefix_len-le-length}
use Rattle.std.specs.Option.{unwrap_or}
use Rattle.std.proofs.Math.Numerals.{one-add}
use Rattle.std.proofs.lemmas.Bool.Decides.{nat_tests}
use Rattle.script.specs.Pieces.{pieces, pieces_on, pieces_past, joined, Lacks, Cut}

module _ (s : ℕ) where
  -- a separator before each piece
  abbrev led : List (List ℕ) → List ℕ
  led [] = []
  led (p ∷ ps) = s ∷ (p ++ led ps)

  joined_led : (p : List ℕ) (ps : List (List ℕ)) → joined s (p ∷ ps) ≡ p ++ led ps
  joined_led p [] = sym (append-nil p)
  joined_led p (q ∷ ps) = ap (λ l. p ++ s ∷ l) (joined_led q ps)

  on_separator : (begun : List ℕ) (b : ℕ) (bs : List ℕ) → b ≡ s → pieces_on s begun (b ∷ bs) ≡ begun ∷ pieces_on s [] bs
  on_separator begun b bs e = cond-true (eqb b s) _ _ (eq-eqb b s e)

  on_other : (begun : List ℕ) (b : ℕ) (bs : List ℕ) → (b ≡ s → ⊥) → pieces_on s begun (b ∷ bs) ≡ pieces_on s (begun ++ b ∷ []) bs
  on_other begun b bs ne = cond-false (eqb b s) _ _ (ne_eqb b s ne)

  led_pieces : (begun bs : List ℕ) → led (pieces_on s begun bs) ≡ s ∷ (begun ++ bs)
  led_pieces begun [] = refl
  led_pieces begun (b ∷ bs) =
      ⊎_elim
      (λ (e : b ≡ s). ap led (on_separator begun b bs e) ∙ ap (λ l. s ∷ (begun ++ l)) (led_pieces [] bs ∙ ap (λ c. c ∷ bs) (sym e)))
      (λ (ne : b ≡ s → ⊥). ap led (on_other begun b bs ne) ∙ led_pieces (begun ++ b ∷ []) bs ∙ ap (λ l. s ∷ l) (append_assoc begun (b ∷ []) bs))
      (cases_eq b s)

  joined_pieces_on : (begun bs : List ℕ) → joined s (pieces_on s begun bs) ≡ begun ++ bs
  joined_pieces_on begun [] = sym (append-nil begun)
  joined_pieces_on begun (b ∷ bs) =
      ⊎_elim
      (λ (e : b ≡ s).
      ap (joined s) (on_separator begun b bs e) ∙ joined_led begun (pieces_on s [] bs)
      ∙ ap (λ l. begun ++ l) (led_pieces [] bs ∙ ap (λ c. c ∷ bs) (sym e)))
      (λ (ne : b ≡ s → ⊥). ap (joined s) (on_other begun b bs ne) ∙ joined_pieces_on (begun ++ b ∷ []) bs ∙ append_assoc begun (b ∷ []) bs)
      (cases_eq b s)

  lacks_push : (begun : List ℕ) (b : ℕ) → Lacks s begun → (b ≡ s → ⊥) → Lacks s (begun ++ b ∷ [])
  lacks_push [] b l ne = (ne, tt)
  lacks_push (c ∷ cs) b l ne = (l.0, lacks_push cs b l.1 ne)

  parted_on : (begun bs : List ℕ) → Lacks s begun → AllByRecursion (Lacks s) (pieces_on s begun bs)
  parted_on begun [] l = (l, tt)
  parted_on begun (b ∷ bs) l =
      ⊎_elim
      (λ (e : b ≡ s). subst (AllByRecursion (Lacks s)) (sym (on_separator begun b bs e)) (l, parted_on [] bs tt))
      (λ (ne : b ≡ s → ⊥). subst (AllByRecursion (Lacks s)) (sym (on_other begun b bs ne)) (parted_on (begun ++ b ∷ []) bs (lacks_push begun b l ne)))
      (cases_eq b s)

  pub cut : (bs : List ℕ) → Cut s bs
  cut bs = record { whole = joined_pieces_on [] bs; parted = parted_on [] bs tt }

  past_lacking : (begun p rest : List ℕ) → Lacks s p → pieces_on s begun (p ++ rest) ≡ pieces_on s (begun ++ p) rest
  past_lacking begun [] rest l = ap (λ x. pieces_on s x rest) (sym (append-nil begun))
  past_lacking begun (b ∷ p) rest l =
      on_other begun b (p ++ rest) l.0 ∙ past_lacking (begun ++ b ∷ []) p rest l.1 ∙ ap (λ x. pieces_on s x rest) (append_assoc begun (b ∷ []) p)

  -- pieces without the separator that were put together are cut apart again
  pub pieces_joined : (p : List ℕ) (ps : List (List ℕ)) → Lacks s p → AllByRecursion (Lacks s) ps → pieces s (joined s (p ∷ ps)) ≡ p ∷ ps
  pieces_joined p [] l ls = ap (pieces s) (sym (append-nil p)) ∙ past_lacking [] p [] l
  pieces_joined p (q ∷ ps) l ls =
      past_lacking [] p (s ∷ joined s (q ∷ ps)) l ∙ on_separator p s (joined s (q ∷ ps)) refl ∙ ap (λ x. p ∷ x) (pieces_joined q ps ls.0 ls.1)

  cut_on : (begun bs : List ℕ) → let n = position_or_len (λ b. eqb b s) bs in pieces_on s begun bs ≡ (begun ++ take n bs) ∷ pieces_past s (drop n bs)
  cut_on begun [] = ap (λ p. p ∷ []) (sym (append-nil begun))
  cut_on begun (b ∷ bs) =
      let n = position_or_len (λ b. eqb b s) bs in
      elim (eqb b s) as (λ t. cond t (begun ∷ pieces s bs) (pieces_on s (begun ++ b ∷ []) bs) ≡ (begun ++ take (cond (not t) (1 + n) 0) (b ∷ bs)) ∷ pieces_past s (drop (cond (not t) (1 + n) 0) (b ∷ bs))) [
        | true ↦ ap (λ p. p ∷ pieces s bs) (sym (append-nil begun))
        | false ↦ rw one-add (cut_on (begun ++ b ∷ []) bs ∙ ap (λ p. p ∷ pieces_past s (drop n bs)) (append_assoc begun (b ∷ []) (take n bs)))
      ]

  -- the first piece ends at the first separator, or else with the bytes
  pub cut_first : (bs : List ℕ) (first : Option ℕ) (n : ℕ) → first ≡ position (λ b. eqb b s) bs → n ≡ unwrap_or first (length bs) → pieces s bs ≡ take n bs ∷ pieces_past s (drop n bs)
  cut_first bs first n is end =
      let within = prefix_len-le-length (λ b. not (eqb b s)) bs in
      let e : n ≡ position_or_len (λ b. eqb b s) bs = grind (arith, nat_tests) in rw e (cut_on [] bs)
