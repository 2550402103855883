-- The cases of an option, an outcome, a result and a choice between two. Assumes nothing.
use Rattle.std.proofs.Common.{◌≡◌, ℕ, Bool, true, false, cond, Some, None, Ok, Err, Option, Result, refl, arith}
use Rattle.std.proofs.lemmas.Bool.{false≢true}
use Rattle.terms.specs.declared.outcome.Outcome.{Outcome}
use Rattle.terms.specs.declared.outcome.Outcome.TheVariants.{Commit, Abort}
use Rattle.knowledge.specs.Knowledge.{says_commit, says_abort}

pub none_some : {X : Type 0} (x : X) → None ≡ Some x → ⊥
none_some x e = let z : ◌≡◌ {A = ℕ} 0 1 = cc in omega arith

pub same_some : {X : Type 0} (x y : X) → Some x ≡ Some y → x ≡ y
same_some x y e = cc

pub if_some : {X : Type 0} (b : Bool) (x y : X) → cond b (Some x) None ≡ Some y → (b ≡ true) × (x ≡ y)
if_some true x y e = (refl, same_some x y e)
if_some false x y e = absurd (none_some y e)

pub never_some : {X : Type 0} (o : Option X) → ((x : X) → o ≡ Some x → ⊥) → o ≡ None
never_some None never = refl
never_some (Some x) never = absurd (never x refl)

pub some_of : {X : Type 0} (o : Option X) → (o ≡ None → ⊥) → (x : X) × (o ≡ Some x)
some_of None there = absurd (there refl)
some_of (Some x) there = (x, refl)

pub commit_abort : (o : Option Outcome) → o ≡ Some Commit → o ≡ Some Abort → ⊥
commit_abort o p q = let z : ◌≡◌ {A = ℕ} 0 1 = cc in omega arith

pub says_commit_is : (o : Option Outcome) → says_commit o ≡ true → o ≡ Some Commit
says_commit_is None e = absurd (false≢true e)
says_commit_is (Some Commit) e = refl
says_commit_is (Some Abort) e = absurd (false≢true e)

pub says_abort_is : (o : Option Outcome) → says_abort o ≡ true → o ≡ Some Abort
says_abort_is None e = absurd (false≢true e)
says_abort_is (Some Commit) e = absurd (false≢true e)
says_abort_is (Some Abort) e = refl

pub err_ok : {X E : Type 0} (f : E) (x : X) → Err f ≡ Ok x → ⊥
err_ok f x e = let z : ◌≡◌ {A = ℕ} 0 1 = cc in omega arith

pub same_ok : {X E : Type 0} (x y : X) → ◌≡◌ {A = Result X E} (Ok x) (Ok y) → x ≡ y
same_ok x y e = cc

-- Of two results where the second is a fault, only the first can be accepted.
pub chosen_first : {X E : Type 0} (b : Bool) (r : Result X E) (f : E) (x : X) → cond b r (Err f) ≡ Ok x → (b ≡ true) × (r ≡ Ok x)
chosen_first true r f x e = (refl, e)
chosen_first false r f x e = absurd (err_ok f x e)

pub chosen_second : {X E : Type 0} (b : Bool) (r : Result X E) (f : E) (x : X) → cond b (Err f) r ≡ Ok x → (b ≡ false) × (r ≡ Ok x)
chosen_second true r f x e = absurd (err_ok f x e)
chosen_second false r f x e = (refl, e)

-- What follows from each of two types follows from a choice between them.
pub cond_cases : {P Q G : Type 0} (b : Bool) → cond b P Q → (b ≡ true → P → G) → (b ≡ false → Q → G) → G
cond_cases true h first second = first refl h
cond_cases false h first second = second refl h
