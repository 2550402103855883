-- The lines of a rule with the cards that a start names for them. Assumes nothing.
use Rattle.std.specs.Prelude.{◌≡◌, ℕ, List, map, length, Some, None, Option}
use Rattle.terms.specs.declared.few.Few.{Few}
use Rattle.terms.specs.Few.{few_list}
use Rattle.terms.specs.Modes.{mode_number}
use Rattle.starting.specs.declared.step.Step.{Step}

abbrev pub modes_of : Few Step → List ℕ
modes_of steps = map (λ s. mode_number s.mode) (few_list steps)

abbrev pub cards_of : Few Step → List ℕ
cards_of steps = map (λ s. s.card) (few_list steps)

-- The steps have these modes and these cards; there are none if the numbers of modes and cards differ.
abbrev pub Paired : List ℕ → List ℕ → Option (Few Step) → Type 0
Paired modes cards None = length modes ≡ length cards → ⊥
Paired modes cards (Some steps) = (modes_of steps ≡ modes) × (cards_of steps ≡ cards)
