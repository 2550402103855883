-- Entries beside their modes and numbers. Assumes nothing.
use Rattle.std.proofs.Common.{◌≡◌, ℕ, zero, suc, ◌+◌, ◌≤◌, List, [], ◌∷◌, map, length, refl, ap, arith}
use Rattle.std.specs.List.{zip, range_with_len}
use Rattle.terms.specs.declared.few.Few.{Few}
use Rattle.terms.specs.declared.mode.Mode.{Mode}
use Rattle.terms.specs.Few.{few_list}
use Rattle.terms.specs.Modes.{mode_number}
use Rattle.records.specs.declared.line.Line.{Line}
use Rattle.records.specs.declared.transaction.Entry.{Entry}
use Rattle.site.specs.Lines.{line_of, lines_from}
use Rattle.site.proofs.Places.{few_short}

abbrev pub line_of_part : {V : Type 0} → ℕ → (Mode × Entry V) × ℕ → Line V
line_of_part time part = line_of time part.1 (mode_number part.0.0) part.0.1

numbered : {V : Type 0} (time n k : ℕ) (ms : List Mode) (es : List (Entry V)) → length ms ≤ k → map (line_of_part time) (zip (zip ms es) (range_with_len n k)) ≡ lines_from time n (map mode_number ms) es
numbered time n k [] es h = refl
numbered time n k (m ∷ ms) [] h = refl
numbered time n zero (m ∷ ms) (e ∷ es) h = absurd (omega arith)
numbered time n (suc k) (m ∷ ms) (e ∷ es) h = ap (λ ls. line_of time n (mode_number m) e ∷ ls) (numbered time (n + 1) k ms es (omega arith))

-- Numbered from 1, they are a transaction's lines.
pub few_numbered : {V : Type 0} (time : ℕ) (ms : Few Mode) (es : Few (Entry V)) → map (line_of_part time) (zip (zip (few_list ms) (few_list es)) (1 ∷ 2 ∷ 3 ∷ 4 ∷ [])) ≡ lines_from time 1 (map mode_number (few_list ms)) (few_list es)
few_numbered time ms es = numbered time 1 4 (few_list ms) (few_list es) (few_short ms)
