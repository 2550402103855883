-- The lines of the transactions started, each with the mark that its origin keeps. Assumes nothing.
use Rattle.std.proofs.Common.{◌≡◌, ℕ, ◌+◌, true, cond, ◌&&◌, eqb, List, [], ◌∷◌, Some, None, Option}
use Rattle.std.specs.List.{flat_map}
use Rattle.terms.specs.declared.kind.Kind.{Kind}
use Rattle.terms.specs.declared.mark.Mark.{Mark}
use Rattle.terms.specs.Few.{few_list}
use Rattle.terms.specs.Lists.{In}
use Rattle.terms.specs.Times.{site_of}
use Rattle.records.specs.declared.card.Card.{Card}
use Rattle.records.specs.declared.line.Line.{Line}
use Rattle.records.specs.declared.message.Message.{Message}
use Rattle.records.specs.declared.transaction.Entry.{Entry}
use Rattle.records.specs.declared.transaction.Transaction.{Transaction}
use Rattle.records.specs.Present.{card_at}
use Rattle.site.specs.Lines.{line_of, goes_to}
use Rattle.delivering.specs.Marks.{marked}
use Rattle.model.specs.Rules.{Rules}
use Rattle.model.proofs.State.{State}

pub record Lot (V : Type 0) : Type 0 where
  pub line : Line V
  pub mark : Mark

abbrev pub lot : {V : Type 0} → Line V → Mark → Lot V
lot l mark = record { line = l; mark = mark }

abbrev pub lots_from : {V : Type 0} → ℕ → ℕ → List ℕ → List (Entry V) → List (Lot V)
lots_from time number [] es = []
lots_from time number (mode ∷ modes) [] = []
lots_from time number (mode ∷ modes) (e ∷ es) = lot (line_of time number mode e) e.mark ∷ lots_from time (number + 1) modes es

abbrev pub lots_of : {V : Type 0} → Rules V → Transaction V → List (Lot V)
lots_of rules x = lots_from x.time 1 (rules.modes x.rule) (few_list x.entries)

abbrev pub all_lots : {V : Type 0} → Rules V → List (Transaction V) → List (Lot V)
all_lots rules xs = flat_map (lots_of rules) xs

abbrev pub lots : {V : Type 0} → Rules V → State V → List (Lot V)
lots rules S = all_lots rules S.transactions

-- The lot with its mark as a reply about a time and a line number leaves it.
abbrev pub remark : {V : Type 0} → Kind → ℕ → ℕ → Lot V → Lot V
remark kind time number b = lot b.line (cond (eqb b.line.time time && eqb b.line.number number) (marked b.mark kind) b.mark)

abbrev pub origin : {V : Type 0} → Line V → ℕ
origin l = site_of l.time

abbrev pub card_in : {V : Type 0} → State V → Line V → Option (Card V)
card_in S l = card_at S.size S.cards l.card

-- The primary of a card; a card that is absent has none, which 8 stands for.
abbrev pub primary_of : {V : Type 0} → Option (Card V) → ℕ
primary_of None = 8
primary_of (Some card) = card.primary

abbrev pub primary : {V : Type 0} → State V → Line V → ℕ
primary S l = primary_of (card_in S l)

-- A line has to be sent to a site.
abbrev pub Goes : {V : Type 0} → State V → Line V → ℕ → Type 0
Goes S l site = goes_to (origin l) l.mode (card_in S l) site ≡ true

-- A message of a kind about a line, from a site to another.
abbrev pub message : {V : Type 0} → ℕ → ℕ → ℕ → Line V → Message V
message kind from to l = record { kind = kind; from = from; to = to; line = l }

-- A line is one of a transaction started.
pub record OfStarted {V : Type 0} (rules : Rules V) (S : State V) (l : Line V) : Type 0 where
  pub mark : Mark
  pub noted : In (lot l mark) (lots rules S)
