-- What is answered to each line of the arrivals script. Assumes nothing.
use Rattle.std.specs.Prelude.{ℕ, ◌+◌, ◌-◌, ◌^◌, min, cond, Some, None, Ok, Err, Option, Result}
use Rattle.records.specs.declared.line.Line as records_line
use Rattle.books.specs.declared.date.Date.{Date}
use Rattle.script.specs.declared.arrival.Arrival.{Arrival}
use Rattle.script.specs.declared.arrival.Arrival.TheVariants.{Opening, Line, Verdict, Value}
use Rattle.site.specs.declared.fault.SiteFault.{SiteFault}
use Rattle.knowledge.specs.declared.judge.Judgement.{Judgement}
use Rattle.knowledge.specs.declared.judge.Judgement.TheVariants.{Dropped, Confirmed, Denied}
use Rattle.knowledge.specs.declared.versions.Version.{Version}
use Rattle.knowledge.specs.Knowledge.{Site}
use Rattle.knowledge.specs.Versions.{current, committed_value}
use Rattle.desk.specs.declared.reply.Reply.{Reply}
use Rattle.desk.specs.declared.reply.Reply.TheVariants.{Bad, Late, Opened, Judged, Recorded, Values}
use Rattle.desk.specs.declared.reply.Summary.{Summary}
use Rattle.desk.specs.Steps.{unopened, is_open, open_after, line_answer, line_after, verdict_answer, verdict_after}

-- The primary's records, and how many lines it confirmed and denied.
pub record Desk : Type 0 where
  pub site : Site Date
  pub confirmed : ℕ
  pub denied : ℕ

abbrev pub fresh : Desk
fresh = record { site = unopened; confirmed = 0; denied = 0 }

-- A line of the script is line 1 of its transaction, on the one card.
abbrev pub line_told : ℕ → ℕ → ℕ → Date → records_line.Line Date
line_told time mode read date = record { time = time; number = 1; card = 0; mode = mode; read = read; value = date }

abbrev pub values_reply : Option (Version Date) → Option (Version Date) → Reply
values_reply (Some c) (Some k) = Values c k
values_reply (Some c) None = Late
values_reply None k = Late

-- The form is judged first; the card is opened first and once.
abbrev pub reply : Site Date → Result Arrival ℕ → Reply
reply site (Err place) = Bad place
reply site (Ok (Opening date)) = cond (is_open site) Late Opened
reply site (Ok (Line time mode read date)) = cond (is_open site) (Judged (line_answer site (line_told time mode read date))) Late
reply site (Ok (Verdict time outcome)) = cond (is_open site) (Recorded (verdict_answer site (record { time = time; outcome = outcome }))) Late
reply site (Ok Value) = cond (is_open site) (values_reply (current site 0) (committed_value site 0)) Late

-- A count stops at the greatest number of 64 bits.
abbrev pub one_more : ℕ → ℕ
one_more n = min (n + 1) (2 ^ 64 - 1)

abbrev pub confirmed_after : Result Judgement SiteFault → ℕ → ℕ
confirmed_after (Ok Dropped) n = n
confirmed_after (Ok Confirmed) n = one_more n
confirmed_after (Ok Denied) n = n
confirmed_after (Err e) n = n

abbrev pub denied_after : Result Judgement SiteFault → ℕ → ℕ
denied_after (Ok Dropped) n = n
denied_after (Ok Confirmed) n = n
denied_after (Ok Denied) n = one_more n
denied_after (Err e) n = n

abbrev pub line_desk : Desk → records_line.Line Date → Desk
line_desk d l =
    record { site = line_after d.site l; confirmed = confirmed_after (line_answer d.site l) d.confirmed; denied = denied_after (line_answer d.site l) d.denied }

abbrev pub on_site : Desk → Site Date → Desk
on_site d site = record { site = site; confirmed = d.confirmed; denied = d.denied }

-- What a line of the script leaves.
abbrev pub desk_after : Desk → Result Arrival ℕ → Desk
desk_after d (Err place) = d
desk_after d (Ok (Opening date)) = on_site d (open_after d.site date)
desk_after d (Ok (Line time mode read date)) = cond (is_open d.site) (line_desk d (line_told time mode read date)) d
desk_after d (Ok (Verdict time outcome)) = cond (is_open d.site) (on_site d (verdict_after d.site (record { time = time; outcome = outcome }))) d
desk_after d (Ok Value) = d

abbrev pub summed : Desk → Summary
summed d = record { judged = min (d.confirmed + d.denied) (2 ^ 64 - 1); confirmed = d.confirmed; denied = d.denied; reads = current d.site 0 }
