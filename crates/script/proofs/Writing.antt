-- A number or a date that was written in digits is read again. Assumes nothing.
use Rattle.std.proofs.Common.{◌≡◌, ℕ, ◌^◌, ◌<◌, ◌≤◌, true, ltb, List, [], ◌∷◌, ◌++◌, Some, decimal, ap, ◌∙◌, arith}
use Rattle.std.specs.Result.{result_ok}
use Rattle.std.proofs.lemmas.Fmt.{digits_decimal, digits_value-decimal, decimal_nonempty}
use Rattle.std.proofs.lemmas.Bool.{cond-true, lt-ltb}
use Rattle.std.proofs.lemmas.Bool.Decides.{nat_tests}
use Rattle.books.specs.declared.date.Date.{Date}
use Rattle.script.specs.Dates.{date_form, date_text, date_written, DateFits}
use Rattle.script.specs.Forms.{read, parsed}
use Rattle.script.specs.Numbers.{all_digits, numeral, below}
use Rattle.script.specs.Pieces.{Lacks}
use Rattle.script.proofs.Numerals.{own, digits_told}
use Rattle.script.proofs.Joining.{pieces_joined}

pub numeral_decimal : (n : ℕ) → n < 2 ^ 32 → numeral (decimal n) ≡ Some n
numeral_decimal n h =
    let digits = digits_decimal own n (omega arith) in
    let value = digits_value-decimal own n (omega arith) in
    let some = decimal_nonempty n (omega arith) in
    grind (arith, nat_tests)

lacks_digits : (s : ℕ) → (48 ≤ s → s ≤ 57 → ⊥) → (ds : List ℕ) → all_digits ds ≡ true → Lacks s ds
lacks_digits s none [] e = tt
lacks_digits s none (c ∷ cs) e =
    let k = digits_told.parts c cs e in
    (λ (is : c ≡ s). none (omega (arith, k.0.0)) (omega (arith, k.0.1)), lacks_digits s none cs k.1)

pub lacks_decimal : (s n : ℕ) → (48 ≤ s → s ≤ 57 → ⊥) → n < 2 ^ 32 → Lacks s (decimal n)
lacks_decimal s n none h = lacks_digits s none (decimal n) (digits_decimal own n (omega arith))

bounded : (limit n : ℕ) → limit ≤ 2 ^ 32 → n < limit → read (below limit) (numeral (decimal n)) ≡ Some n
bounded limit n le h = ap (read (below limit)) (numeral_decimal n (omega arith)) ∙ cond-true (ltb n limit) _ _ (lt-ltb n limit h)

hyphen_no_digit : 48 ≤ 45 → 45 ≤ 57 → ⊥
hyphen_no_digit a b = omega arith

hyphen_no_tab : ◌≡◌ {A = ℕ} 45 9 → ⊥
hyphen_no_tab e = omega arith

parts_back : (y m t : List ℕ) (d : Date) → read (below (2 ^ 16)) (numeral y) ≡ Some d.year → read (below (2 ^ 8)) (numeral m) ≡ Some d.month → read (below (2 ^ 8)) (numeral t) ≡ Some d.day → result_ok (parsed date_form 1 (y ∷ m ∷ t ∷ [])) ≡ Some d
parts_back y m t d year month day = cc

pub date_back : (d : Date) → DateFits d → date_text (date_written d) ≡ Some d
date_back d fits =
    let lacks = λ (n : ℕ) (h : n < 2 ^ 32). lacks_decimal 45 n hyphen_no_digit h in
    ap (λ ps. result_ok (parsed date_form 1 ps))
    (pieces_joined 45 (decimal d.year) (decimal d.month ∷ decimal d.day ∷ [])
    (lacks d.year (omega (arith, fits.year)))
    (lacks d.month (omega (arith, fits.month)), (lacks d.day (omega (arith, fits.day)), tt)))
    ∙ parts_back (decimal d.year) (decimal d.month) (decimal d.day) d (bounded (2 ^ 16) d.year (omega arith) fits.year) (bounded (2 ^ 8) d.month (omega arith) fits.month) (bounded (2 ^ 8) d.day (omega arith) fits.day)

lacks_append : (s : ℕ) (xs ys : List ℕ) → Lacks s xs → Lacks s ys → Lacks s (xs ++ ys)
lacks_append s [] ys a b = b
lacks_append s (x ∷ xs) ys a b = (a.0, lacks_append s xs ys a.1 b)

-- no tab stands in the text of a date
pub date_lacks : (d : Date) → DateFits d → Lacks 9 (date_written d)
date_lacks d fits =
    let lacks = λ (n : ℕ) (h : n < 2 ^ 32). lacks_decimal 9 n (λ a b. omega arith) h in
    lacks_append 9 (decimal d.year) _ (lacks d.year (omega (arith, fits.year)))
    (hyphen_no_tab, lacks_append 9 (decimal d.month) _ (lacks d.month (omega (arith, fits.month))) (hyphen_no_tab, lacks d.day (omega (arith, fits.day))))
