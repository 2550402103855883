-- From the number of a case back to the case. Assumes nothing.
use Rattle.std.specs.Prelude.{ℕ, cond, List, [], ◌∷◌, Some, None, Ok, Err, Option, Result, ◌==◌}
use Rattle.terms.specs.declared.number.UnknownNumber.{UnknownNumber}

-- Of some cases the one that has a number, by the definition that gives each case its number.
abbrev pub numbered : {E : Type 0} → (E → ℕ) → List E → ℕ → Option E
numbered number [] n = None
numbered number (e ∷ es) n = cond (n == number e) (Some e) (numbered number es n)

-- The case that a number tells, or the number that names none.
abbrev pub told_or_unknown : {E : Type 0} → Option E → ℕ → Result E UnknownNumber
told_or_unknown (Some e) n = Ok e
told_or_unknown None n = Err (record { number = n })
