-- The search for a verdict. Assumes nothing.
use Rattle.std.proofs.Common.{◌≡◌, ℕ, Bool, true, false, cond, List, [], ◌∷◌, ◌&&◌, ◌==◌, Some, None, Option, refl}
use Rattle.std.specs.List.{find}
use Rattle.terms.specs.declared.outcome.Outcome.{Outcome}
use Rattle.records.specs.declared.size.Size.{Size}
use Rattle.records.specs.declared.verdict.Verdict.{Verdict}
use Rattle.records.specs.Present.{verdict_present}
use Rattle.knowledge.specs.Knowledge.{verdict_on}

abbrev pub outcome_of : Option Verdict → Option Outcome
outcome_of None = None
outcome_of (Some v) = Some v.outcome

one_more : (b : Bool) (v : Verdict) (found : Option Verdict) (told : Option Outcome) → outcome_of found ≡ told → outcome_of (cond b (Some v) found) ≡ cond b (Some v.outcome) told
one_more true v found told e = refl
one_more false v found told e = e

-- The first verdict in range on a time tells the outcome.
pub verdict_found : (size : Size) (time : ℕ) (vs : List Verdict) → outcome_of (find (λ (v : Verdict). verdict_present size v && v.time == time) vs) ≡ verdict_on size vs time
verdict_found size time [] = refl
verdict_found size time (v ∷ vs) = one_more _ v _ _ (verdict_found size time vs)
