-- One byte more of a line of which the first bytes are kept. Assumes nothing.
use Rattle.std.proofs.Common.{◌≡◌, ℕ, ◌<◌, ◌≤◌, true, false, cond, eqb, leb, List, [], ◌∷◌, ◌++◌, length, sym, refl, ap, ◌∙◌, ◌⊎◌, ⊎_elim, arith}
use Rattle.std.proofs.lemmas.List.{take_all, take-take, take-append-le, length-take, length_push}
use Rattle.std.proofs.lemmas.Bool.{cases_lt, cond-false, ne_eqb, lt-leb}
use Rattle.std.proofs.lemmas.Bool.Decides.{nat_tests}
use Rattle.script.specs.Forms.{Form, line_parsed}
use Rattle.script.specs.Gathering.{kept, pushed}

kept_more : (line : List ℕ) (byte : ℕ) → kept (kept line ++ byte ∷ []) ≡ kept (line ++ byte ∷ [])
kept_more line byte =
    ⊎_elim
    (λ (short : length line < 81). ap (λ l. kept (l ++ byte ∷ [])) (take_all 81 line (omega arith)))
    (λ (long : 81 ≤ length line).
    take-append-le 81 (kept line) (byte ∷ []) (omega (arith, length-take 81 line)) ∙ take-take 81 81 line (omega arith)
    ∙ sym (take-append-le 81 line (byte ∷ []) long))
    (cases_lt (length line) 81)

kept_pushed : (line : List ℕ) (byte : ℕ) → kept (pushed (kept line) byte) ≡ kept (pushed line byte)
kept_pushed line byte =
    elim (eqb byte 10) as (λ t. kept (cond t (kept line) (kept line ++ byte ∷ [])) ≡ kept (cond t line (line ++ byte ∷ [])))
    [ true ↦ take-take 81 81 line (omega arith) | false ↦ kept_more line byte ]

-- what was kept decides what is kept of the line with one more byte
pub kept_since : (before after : List ℕ) (byte : ℕ) → after ≡ kept (pushed before byte) → (line : List ℕ) → before ≡ kept line → after ≡ kept (pushed line byte)
kept_since before after byte e line is = e ∙ ap (λ l. kept (pushed l byte)) is ∙ kept_pushed line byte

-- a newline, and a byte that finds no room, change nothing that is kept
pub kept_stays : (line : List ℕ) (byte : ℕ) → length line ≤ 81 → (byte ≡ 10) ⊎ (81 ≤ length line) → line ≡ kept (pushed line byte)
kept_stays line byte within why =
    elim (eqb byte 10) as (λ t. eqb byte 10 ≡ t → line ≡ kept (cond t line (line ++ byte ∷ [])))
    [ true ↦ λ e. sym (take_all 81 line within) | false ↦ λ e. sym (take-append-le 81 line (byte ∷ []) (grind (arith, nat_tests)) ∙ take_all 81 line within) ] refl

-- any other byte is added where there is room
pub kept_added : (line : List ℕ) (byte : ℕ) → length line < 81 → (byte ≡ 10 → ⊥) → line ++ byte ∷ [] ≡ kept (pushed line byte)
kept_added line byte room ne =
    sym (ap kept (cond-false (eqb byte 10) line _ (ne_eqb byte 10 ne)) ∙ take_all 81 _ (omega (arith, length_push line byte)))

-- what was kept of a line has the form of the line
pub parsed_kept : {X : Type 0} (form : Form X) (line : List ℕ) → line_parsed form (kept line) ≡ line_parsed form line
parsed_kept form line =
    ⊎_elim
    (λ (long : 80 < length line).
    cond-false (leb (length (kept line)) 80) _ _ (lt-leb (length (kept line)) 80 (omega (arith, length-take 81 line)))
    ∙ sym (cond-false (leb (length line) 80) _ _ (lt-leb (length line) 80 long)))
    (λ (short : length line ≤ 80). ap (line_parsed form) (take_all 81 line (omega arith)))
    (cases_lt 80 (length line))
