-- Modes and cards side by side. Assumes nothing.
use Rattle.std.proofs.Common.{◌≡◌, ℕ, List, [], ◌∷◌, map, length, refl, ap, arith}
use Rattle.std.specs.List.{zip}
use Rattle.terms.specs.declared.mode.Mode.{Mode}
use Rattle.terms.specs.Modes.{mode_number}
use Rattle.starting.specs.declared.step.Step.{Step}

abbrev pub step_of : Mode × ℕ → Step
step_of pair = record { mode = pair.0; card = pair.1 }

pub modes_side : (ms : List Mode) (cs : List ℕ) → length ms ≡ length cs → map (λ (s : Step). mode_number s.mode) (map step_of (zip ms cs)) ≡ map mode_number ms
modes_side [] cs e = refl
modes_side (m ∷ ms) [] e = absurd (omega arith)
modes_side (m ∷ ms) (c ∷ cs) e = ap (λ ns. mode_number m ∷ ns) (modes_side ms cs (omega arith))

pub cards_side : (ms : List Mode) (cs : List ℕ) → length ms ≡ length cs → map (λ (s : Step). s.card) (map step_of (zip ms cs)) ≡ cs
cards_side [] [] e = refl
cards_side [] (c ∷ cs) e = absurd (omega arith)
cards_side (m ∷ ms) [] e = absurd (omega arith)
cards_side (m ∷ ms) (c ∷ cs) e = ap (λ ns. c ∷ ns) (cards_side ms cs (omega arith))
