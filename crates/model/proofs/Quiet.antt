-- With nothing waiting, verdicts have reached every site that a line was for. Assumes nothing.
use Rattle.std.proofs.Common.{◌≡◌, ℕ, ◌⊎◌, List, [], Some, subst, ⊎_elim}
use Rattle.terms.specs.declared.outcome.Outcome.{Outcome}
use Rattle.terms.specs.Lists.{In}
use Rattle.model.specs.Rules.{Rules}
use Rattle.model.specs.Single.{Noted}
use Rattle.model.proofs.State.{State, told}
use Rattle.model.proofs.Lots.{Lot, lots, origin, Goes}
use Rattle.model.proofs.Invariant.{Invariant}
use Rattle.model.proofs.Members.{in_none}

-- Of a line that started at a site or was sent there, the site knows the outcome that its origin knows.
pub told_here : {V : Type 0} (rules : Rules V) (S : State V) (hs : List (Noted V)) → Invariant rules S hs → S.waiting ≡ [] → (b : Lot V) → In b (lots rules S) → (site : ℕ) → (origin b.line ≡ site) ⊎ Goes S b.line site → (o : Outcome) → told S (origin b.line) b.line.time ≡ Some o → told S site b.line.time ≡ Some o
told_here rules S hs inv quiet b i site here o e =
    ⊎_elim
    (λ (h : origin b.line ≡ site). subst (λ s. told S s b.line.time ≡ Some o) h e)
    (λ g. ⊎_elim (λ t. t) (λ w. absurd (in_none w.message S.waiting quiet w.waits)) (inv.verdicts.spread b o i e site g))
    here
