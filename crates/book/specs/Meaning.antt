-- What a book tells of its rules. Assumes nothing.
use Rattle.std.specs.Prelude.{◌≡◌, ℕ, ◌+◌, ◌≤◌, cond, List, [], ◌∷◌, map, length, Ok, Err, Result}
use Rattle.std.specs.List.{AllByRecursion}
use Rattle.terms.specs.Few.{few_list}
use Rattle.terms.specs.Modes.{mode_number, writes}
use Rattle.terms.specs.declared.few.Few.{Few}
use Rattle.terms.specs.declared.mode.Mode.{Mode}
use Rattle.book.specs.declared.fault.BookFault.{BookFault}

-- A rule declines with the book's code, or gives the values to write, in the order of the lines that write.
pub data Answer (V : Type 0) : Type 0 where
  declines : ℕ → Answer V
  gives : List V → Answer V

abbrev pub answer_of : {V : Type 0} → Result (Few V) BookFault → Answer V
answer_of (Ok values) = gives (few_list values)
answer_of (Err fault) = declines fault.code

abbrev pub modes_in : Few Mode → List ℕ
modes_in modes = map mode_number (few_list modes)

-- Each mode is 1, 2 or 3.
abbrev pub ModesKnown : List ℕ → Type 0
ModesKnown modes = AllByRecursion (λ mode. (1 ≤ mode) × (mode ≤ 3)) modes

-- How many lines of these modes write.
abbrev pub written_lines : List ℕ → ℕ
written_lines [] = 0
written_lines (mode ∷ modes) = cond (writes mode) (1 + written_lines modes) (written_lines modes)

-- An answer that gives values gives exactly one for each line that writes.
abbrev pub OneForEachWrite : {V : Type 0} → List ℕ → Answer V → Type 0
OneForEachWrite modes (declines code) = Unit {0}
OneForEachWrite modes (gives values) = length values ≡ written_lines modes
