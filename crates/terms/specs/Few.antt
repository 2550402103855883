-- Up to four things as a list. Assumes nothing.
use Rattle.std.specs.Prelude.{List, [], ◌∷◌}
use Rattle.terms.specs.declared.few.Few.{Few}
use Rattle.terms.specs.declared.few.Few.TheVariants.{Nothing, One, Two, Three, Four}

abbrev pub few_list : {T : Type 0} → Few T → List T
few_list Nothing = []
few_list (One a) = a ∷ []
few_list (Two a b) = a ∷ b ∷ []
few_list (Three a b c) = a ∷ b ∷ c ∷ []
few_list (Four a b c d) = a ∷ b ∷ c ∷ d ∷ []

-- The first four of a list.
abbrev pub few_of : {T : Type 0} → List T → Few T
few_of [] = Nothing
few_of (a ∷ []) = One a
few_of (a ∷ b ∷ []) = Two a b
few_of (a ∷ b ∷ c ∷ []) = Three a b c
few_of (a ∷ b ∷ c ∷ d ∷ rest) = Four a b c d
