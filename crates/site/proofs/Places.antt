-- How many lines a transaction has. Assumes nothing.
use Rattle.std.proofs.Common.{ℕ, ◌+◌, ◌≤◌, List, [], ◌∷◌, length, arith}
use Rattle.terms.specs.declared.few.Few.{Few}
use Rattle.terms.specs.declared.few.Few.TheVariants.{Nothing, One, Two, Three, Four}
use Rattle.terms.specs.Few.{few_list}
use Rattle.records.specs.declared.transaction.Entry.{Entry}
use Rattle.records.specs.declared.transaction.Transaction.{Transaction}
use Rattle.site.specs.Lines.{lines_from, lines_of}

pub few_short : {X : Type 0} (xs : Few X) → length (few_list xs) ≤ 4
few_short Nothing = omega arith
few_short (One a) = omega arith
few_short (Two a b) = omega arith
few_short (Three a b c) = omega arith
few_short (Four a b c d) = omega arith

lines_short : {V : Type 0} (time k : ℕ) (modes : List ℕ) (es : List (Entry V)) → length (lines_from time k modes es) ≤ length es
lines_short time k [] es = omega arith
lines_short time k (m ∷ ms) [] = omega arith
lines_short time k (m ∷ ms) (e ∷ es) = let h = lines_short time (k + 1) ms es in omega arith

pub four_lines : {V : Type 0} (modes : List ℕ) (x : Transaction V) → length (lines_of modes x) ≤ 4
four_lines modes x = let short = lines_short x.time 1 modes (few_list x.entries) in let few = few_short x.entries in omega arith
