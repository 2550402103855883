-- The meaning of a rule book, as a sitting uses it. Assumes nothing.
use Rattle.std.specs.Prelude.{ℕ, ◌≤◌, List, length}
use Rattle.book.specs.Meaning.{Answer, ModesKnown, OneForEachWrite}

-- The modes of a rule's lines, and what a rule answers to an argument and the values read.
pub record Rules (V : Type 0) : Type 0 where
  pub modes : ℕ → List ℕ
  pub answer : ℕ → V → List V → Answer V

-- The laws that every rule book keeps.
pub record Lawful {V : Type 0} (rules : Rules V) : Type 0 where
  pub few : (rule : ℕ) → length (rules.modes rule) ≤ 4
  pub known : (rule : ℕ) → ModesKnown (rules.modes rule)
  pub sized : (rule : ℕ) (argument : V) (read : List V) → OneForEachWrite (rules.modes rule) (rules.answer rule argument read)
