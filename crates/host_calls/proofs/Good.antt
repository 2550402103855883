-- The number of a bad field is never 0. Assumes nothing.
use Rattle.std.proofs.Common.{◌≡◌, ℕ, ◌+◌, Bool, true, false, cond, eqb, leb, List, length, is_ok, Some, None, Ok, Err, Result, refl, ap, ◌∙◌, arith}
use Rattle.std.proofs.lemmas.Bool.{ne_eqb}
use Rattle.script.specs.Forms.{Form, ends, wants, may_end, read, parsed, line_parsed}
use Rattle.script.specs.Pieces.{fields, head, others, empty}
use Rattle.host_calls.specs.Calls.{bad_field, line_check, has_form}
use Rattle.commands.specs.Commands.{command_fields, command_form}
use Rattle.script.specs.Dates.{date_text}
use Rattle.script.specs.Numbers.{numeral}

-- a form and the number of its bad field agree on whether it is good
abbrev Agree : {X : Type 0} → Result X ℕ → Type 0
Agree r = eqb (bad_field r) 0 ≡ is_ok r

bad : (place : ℕ) → eqb (place + 1) 0 ≡ false
bad place = ne_eqb (place + 1) 0 (λ e. omega arith)

agree : {X : Type 0} (form : Form X) (place : ℕ) (ps : List (List ℕ)) → Agree (parsed form (place + 1) ps)
agree (ends x) place ps = elim (empty ps) as (λ b. Agree (cond b (Ok x) (Err (place + 1)))) [ true ↦ refl | false ↦ bad place ]
agree {X} (wants reader more) place ps =
    elim (read reader (head ps)) as (λ o. Agree (elim o as (λ _. Result X ℕ) [ None ↦ Err (place + 1) | Some a ↦ parsed (more a) (place + 1 + 1) (others ps) ]))
    [ None ↦ bad place | Some a ↦ agree (more a) (place + 1) (others ps) ]
agree (may_end x more) place ps =
    elim (empty ps) as (λ b. Agree (cond b (Ok x) (parsed more (place + 1) ps))) [ true ↦ refl | false ↦ agree more place ps ]

line_agree : {X : Type 0} (form : Form X) (line : List ℕ) → Agree (line_parsed form line)
line_agree form line =
    elim (leb (length line) 80) as (λ b. Agree (cond b (parsed form 1 (fields line)) (Err 1))) [ true ↦ agree form 0 (fields line) | false ↦ bad 0 ]

pub good : (book : ℕ) (line : List ℕ) (told : ℕ) → told ≡ line_check book line → eqb told 0 ≡ has_form book line
good book line told is = ap (λ n. eqb n 0) is ∙ by (eqb book 1) (eqb book 2)
  where
    by : (one two : Bool) → eqb (cond one (bad_field (command_form numeral line)) (cond two (bad_field (command_form date_text line)) 1)) 0 ≡ cond one (is_ok (command_form numeral line)) (cond two (is_ok (command_form date_text line)) false)
    by true two = line_agree (command_fields numeral) line
    by false true = line_agree (command_fields date_text) line
    by false false = refl
