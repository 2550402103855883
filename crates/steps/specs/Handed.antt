-- What a step at a site is handed, beside the call's input. Assumes nothing.
use Rattle.std.specs.Prelude.{ℕ, ◌-◌, List, length, take}
use Rattle.records.specs.declared.card.Card.{Card}
use Rattle.records.specs.declared.line.Line.{Line}
use Rattle.records.specs.declared.size.Size.{Size}
use Rattle.records.specs.declared.verdict.Verdict.{Verdict}
use Rattle.knowledge.specs.Knowledge.{Site}
use Rattle.steps.specs.declared.numbers.Counts.{Counts}
use Rattle.steps.specs.declared.numbers.Used.{Used}

-- The size of the sitting, the declared cards, the tables of this site and how much of them is used, the sitting's
-- counts, and how many places the carrier has free.
pub record Handed (V : Type 0) : Type 0 where
  pub size : Size
  pub cards : List (Card V)
  pub lines : List (Line V)
  pub verdicts : List Verdict
  pub used : Used
  pub counts : Counts
  pub places : ℕ

abbrev pub handed : {V : Type 0} → Size → List (Card V) → List (Line V) → List Verdict → Used → Counts → ℕ → Handed V
handed size cards lines verdicts used counts places =
    record { size = size; cards = cards; lines = lines; verdicts = verdicts; used = used; counts = counts; places = places }

-- What a site knows: its used records.
abbrev pub used_site : {V : Type 0} → Size → List (Card V) → List (Line V) → List Verdict → Used → Site V
used_site size cards lines verdicts used = record { size = size; cards = cards; lines = take used.lines lines; verdicts = take used.verdicts verdicts }

abbrev pub site_of : {V : Type 0} → Handed V → Site V
site_of h = used_site h.size h.cards h.lines h.verdicts h.used

-- How many records of a table are free.
abbrev pub free : {X : Type 0} → List X → ℕ → ℕ
free table used = length table - used
