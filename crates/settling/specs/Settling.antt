-- Settling a transaction at its origin. Assumes nothing.
use Rattle.std.specs.Prelude.{ℕ, Bool, cond, ◌||◌, List, [], ◌∷◌, map, length, is_some, Some, None, Ok, Err, Option, Result, nat_lt}
use Rattle.terms.specs.declared.outcome.Outcome.{Outcome}
use Rattle.terms.specs.declared.outcome.Outcome.TheVariants.{Commit, Abort}
use Rattle.terms.specs.Few.{few_list}
use Rattle.terms.specs.Kinds.{kind_number, verdict_kind}
use Rattle.terms.specs.Times.{site_of}
use Rattle.records.specs.declared.line.Line.{Line}
use Rattle.records.specs.declared.message.Message.{Message}
use Rattle.records.specs.declared.transaction.Transaction.{Transaction}
use Rattle.knowledge.specs.Knowledge.{Site, known}
use Rattle.site.specs.declared.fault.SiteFault.{SiteFault}
use Rattle.site.specs.declared.fault.SiteFault.TheVariants.{NotOpen, Unsettled, NoPlaces}
use Rattle.site.specs.Lines.{lines_of, sent_sites}
use Rattle.settling.specs.declared.doubt.Doubt.{Doubt}
use Rattle.settling.specs.declared.doubt.Doubt.TheVariants.{Refuted, Unproved}
use Rattle.settling.specs.Doubts.{any_mark, any_writer}

abbrev pub doubted : {V : Type 0} → Site V → Doubt → List ℕ → Transaction V → Bool
doubted site doubt modes x = any_mark doubt (few_list x.entries) || any_writer site doubt (lines_of modes x)

-- A transaction is to be aborted if a line is denied or a time read by mode 1 or 3 is known as aborted; otherwise it is
-- to be committed if all lines are confirmed and each such time is 0 or known as committed.
abbrev pub due : {V : Type 0} → Site V → List ℕ → Transaction V → Option Outcome
due site modes x = cond (doubted site Refuted modes x) (Some Abort) (cond (doubted site Unproved modes x) None (Some Commit))

-- The sites to which the verdict goes: those that were sent a line.
abbrev pub told_sites : {V : Type 0} → Site V → List ℕ → Transaction V → List ℕ
told_sites site modes x = sent_sites site.size site.cards (site_of x.time) (lines_of modes x)

abbrev pub repeating : {V : Type 0} → ℕ → ℕ → List (Line V) → List ℕ → List (Message V)
repeating kind from [] sites = []
repeating kind from (l ∷ ls) sites = map (λ s. record { kind = kind; from = from; to = s; line = l }) sites

-- The verdict goes once to each of these sites, by site number, and repeats line 1.
abbrev pub verdict_messages : {V : Type 0} → Site V → List ℕ → Transaction V → Outcome → List (Message V)
verdict_messages site modes x outcome = repeating (kind_number (verdict_kind outcome)) (site_of x.time) (lines_of modes x) (told_sites site modes x)

abbrev pub settling : Bool → ℕ → ℕ → Option Outcome → Result Outcome SiteFault
settling record_free places messages None = Err Unsettled
settling record_free places messages (Some outcome) = cond record_free (cond (nat_lt places messages) (Err NoPlaces) (Ok outcome)) (Err Unsettled)

-- 18 if a verdict is known; 19 if none is due or no verdict record is free; then 15 if the carrier has too few free
-- places.
abbrev pub settlement : {V : Type 0} → Site V → Bool → ℕ → List ℕ → Transaction V → Result Outcome SiteFault
settlement site record_free places modes x =
    cond (is_some (known site x.time)) (Err NotOpen) (settling record_free places (length (told_sites site modes x)) (due site modes x))
