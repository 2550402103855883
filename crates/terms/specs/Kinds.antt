-- The kinds of messages, and the marks that they leave. Assumes nothing.
use Rattle.std.specs.Prelude.{ℕ, [], ◌∷◌, Option}
use Rattle.terms.specs.declared.kind.Kind.{Kind}
use Rattle.terms.specs.declared.kind.Kind.TheVariants.{Line, Confirm, Deny, Commit, Abort}
use Rattle.terms.specs.declared.mark.Mark.{Mark}
use Rattle.terms.specs.declared.mark.Mark.TheVariants.{Asked, Confirmed, Denied}
use Rattle.terms.specs.declared.outcome.Outcome.{Outcome}
use Rattle.terms.specs.declared.outcome.Outcome.TheVariants.{Commit as committed, Abort as aborted}
use Rattle.terms.specs.Numbers.{numbered}

abbrev pub kind_number : Kind → ℕ
kind_number Line = 1
kind_number Confirm = 2
kind_number Deny = 3
kind_number Commit = 4
kind_number Abort = 5

abbrev pub kind_of : ℕ → Option Kind
kind_of n = numbered kind_number (Line ∷ Confirm ∷ Deny ∷ Commit ∷ Abort ∷ []) n

-- The kind of message that leaves a mark: a line that was sent is asked until it is confirmed or denied.
abbrev pub mark_kind : Mark → Kind
mark_kind Asked = Line
mark_kind Confirmed = Confirm
mark_kind Denied = Deny

-- The kind of message that tells an outcome.
abbrev pub verdict_kind : Outcome → Kind
verdict_kind committed = Commit
verdict_kind aborted = Abort
