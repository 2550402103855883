-- What the primary of one card does with what arrives. Assumes nothing.
use Rattle.std.specs.Prelude.{Bool, cond, ◌&&◌, [], ◌∷◌, ◌++◌, length, is_some, Ok, Err, Result, nat_le, nat_lt}
use Rattle.records.specs.declared.line.Line.{Line}
use Rattle.records.specs.declared.size.Size.{Size}
use Rattle.records.specs.declared.verdict.Verdict.{Verdict}
use Rattle.records.specs.Present.{line_present, verdict_present}
use Rattle.site.specs.declared.fault.SiteFault.{SiteFault}
use Rattle.site.specs.declared.fault.SiteFault.TheVariants.{Foreign}
use Rattle.knowledge.specs.declared.judge.Judgement.{Judgement}
use Rattle.knowledge.specs.Arrivals.{judged, lands, line_arrives, verdict_arrives, after}
use Rattle.knowledge.specs.Knowledge.{Site, known}
use Rattle.desk.specs.declared.register.Full.{Full}

-- One of eight sites, in a sitting of at most 32 transactions.
abbrev pub desk_size : Size
desk_size = record { sites = 8; transactions = 32 }

-- No card, line or verdict yet.
abbrev pub unopened : {V : Type 0} → Site V
unopened = record { size = desk_size; cards = []; lines = []; verdicts = [] }

abbrev pub is_open : {V : Type 0} → Site V → Bool
is_open site = nat_lt 0 (length site.cards)

-- The card is number 0; this site holds it and is its primary.
abbrev pub with_card : {V : Type 0} → Site V → V → Site V
with_card site v =
    record { size = site.size; cards = site.cards ++ record { opening = v; holders = 1; primary = 0 } ∷ []; lines = site.lines; verdicts = site.verdicts }

-- A card is opened once.
abbrev pub open_answer : {V : Type 0} → Site V → Result (Unit {0}) Full
open_answer site = cond (is_open site) (Err (record {})) (Ok tt)

abbrev pub open_after : {V : Type 0} → Site V → V → Site V
open_after site v = cond (is_open site) site (with_card site v)

-- A line is foreign if it is out of range, or would land while no line record is free.
abbrev pub line_answer : {V : Type 0} → Site V → Line V → Result Judgement SiteFault
line_answer site l =
    cond (line_present site.size site.cards l) (cond (lands (judged site l) && nat_le 128 (length site.lines)) (Err Foreign) (Ok (judged site l))) (Err Foreign)

-- A verdict is foreign if it is out of range, or would be recorded while no verdict record is free.
abbrev pub verdict_answer : {V : Type 0} → Site V → Verdict → Result (Unit {0}) SiteFault
verdict_answer site v =
    cond (verdict_present site.size v) (cond (is_some (known site v.time)) (Ok tt) (cond (nat_le 32 (length site.verdicts)) (Err Foreign) (Ok tt))) (Err Foreign)

abbrev unless_refused : {V X : Type 0} → Result X SiteFault → Site V → Site V → Site V
unless_refused (Ok x) changed site = changed
unless_refused (Err e) changed site = site

-- What is not refused leaves what an arrival leaves.
abbrev pub line_after : {V : Type 0} → Site V → Line V → Site V
line_after site l = unless_refused (line_answer site l) (after site (line_arrives l)) site

abbrev pub verdict_after : {V : Type 0} → Site V → Verdict → Site V
verdict_after site v = unless_refused (verdict_answer site v) (after site (verdict_arrives v)) site
