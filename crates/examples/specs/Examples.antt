-- Worked examples of the primary's check and of the tally book. Assumes nothing.
use Rattle.std.specs.Prelude.{◌≡◌, ℕ, List, [], ◌∷◌}
use Rattle.records.specs.declared.line.Line.{Line}
use Rattle.terms.specs.declared.outcome.Outcome.TheVariants.{Abort}
use Rattle.records.specs.declared.verdict.Verdict.{Verdict}
use Rattle.book.specs.Meaning.{Answer, declines, gives}
use Rattle.books.specs.Tallies.{tally_answer}
use Rattle.knowledge.specs.declared.judge.Judgement.{Judgement}
use Rattle.knowledge.specs.declared.judge.Judgement.TheVariants.{Confirmed, Denied}
use Rattle.knowledge.specs.Arrivals.{judged}
use Rattle.knowledge.specs.Knowledge.{Site}

-- A primary with one card, number 0, some landed lines and some verdicts.
abbrev primary : List (Line ℕ) → List Verdict → Site ℕ
primary lines verdicts =
    record { size = record { sites = 8; transactions = 32 }; cards = record { opening = 0; holders = 1; primary = 0 } ∷ []; lines = lines; verdicts = verdicts }

abbrev line : ℕ → ℕ → ℕ → Line ℕ
line mode read time = record { time = time; number = 1; card = 0; mode = mode; read = read; value = 0 }

-- A write at a time: a version that reserves nothing.
abbrev write : ℕ → Line ℕ
write time = line 2 time time

-- A primary judges a line so, or the tally book answers a rule, an argument and the values read so.
pub data Example : Type 0 where
  judges : Site ℕ → Line ℕ → Judgement → Example
  answers : ℕ → ℕ → List ℕ → Answer ℕ → Example

abbrev pub Holds : Example → Type 0
Holds (judges site l judgement) = judged site l ≡ judgement
Holds (answers rule argument read answer) = tally_answer rule argument read ≡ answer

abbrev pub examples : List Example
examples =
    -- mode 1 at time 17 over versions 0 and 9
    judges (primary (write 9 ∷ []) []) (line 1 0 17) Denied
    ∷ judges (primary (write 9 ∷ []) []) (line 1 9 17) Confirmed
    -- mode 1 at time 9, read 0, over versions 0 and 17
    ∷ judges (primary (write 17 ∷ []) []) (line 1 0 9) Confirmed
    -- mode 3 at time 17, read 0, the line at 9 aborted
    ∷ judges (primary (write 9 ∷ []) (record { time = 9; outcome = Abort } ∷ [])) (line 3 0 17) Confirmed
    -- mode 2 against a reservation from 9 to 17
    ∷ judges (primary (line 1 9 17 ∷ []) []) (write 16) Denied
    ∷ judges (primary (line 1 9 17 ∷ []) []) (write 9) Confirmed
    ∷ judges (primary (line 1 9 17 ∷ []) []) (write 24) Confirmed
    -- adding 1 to 999,999; moving 5, and 6, from 5 to 0
    ∷ answers 2 1 (999999 ∷ []) (declines 1)
    ∷ answers 3 5 (5 ∷ 0 ∷ []) (gives (0 ∷ 5 ∷ []))
    ∷ answers 3 6 (5 ∷ 0 ∷ []) (declines 2)
    ∷ []
