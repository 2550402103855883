-- What both books say of their answers. Assumes nothing.
use Rattle.std.specs.Prelude.{ℕ, Ok, Err, Result}
use Rattle.terms.specs.Few.{few_list}
use Rattle.terms.specs.declared.few.Few.{Few}
use Rattle.book.specs.Meaning.{Answer, declines, gives}

-- The answer that a result tells, with the code of each refusal.
abbrev pub answer_by : {E V : Type 0} → (E → ℕ) → Result (Few V) E → Answer V
answer_by code (Ok values) = gives (few_list values)
answer_by code (Err refusal) = declines (code refusal)
