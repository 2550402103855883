-- Which texts are numerals, and one digit more of a number. Assumes nothing.
use Rattle.std.proofs.Common.{◌≡◌, ℕ, ◌+◌, ◌-◌, ◌*◌, ◌^◌, ◌<◌, ◌≤◌, true, List, [], ◌∷◌, length, get_or, drop, Some, None, refl, sym, ◌∙◌, arith}
use Rattle.std.proofs.lemmas.List.{at_drop_more}
use Rattle.std.proofs.lemmas.Str.Parse.{IsNumeralModel, IsDigitsTest, FoldsDigits, numerals_by_fold}
use Rattle.std.proofs.lemmas.Bool.Decides.{nat_tests}
use Rattle.script.specs.Numbers.{all_digits, value_on, numeral_on}

pub digits_told : IsDigitsTest (λ ds. all_digits ds ≡ true)
digits_told = record {
  empty = refl;
  parts = λ c cs e. grind (arith, nat_tests);
  more = λ c cs k e. grind (arith, nat_tests);
}

folded : FoldsDigits value_on
folded = record { empty = λ n. refl; more = λ n c cs k. refl }

-- all_digits and value_on say what std's own words of digits say
pub own : IsNumeralModel (λ ds. all_digits ds ≡ true) (value_on 0)
own = numerals_by_fold _ digits_told value_on folded

value_ge : (n : ℕ) (bs : List ℕ) → n ≤ value_on n bs
value_ge n [] = omega arith
value_ge n (b ∷ bs) = omega (arith, value_ge (n * 10 + (b - 48)) bs)

more : (n b m : ℕ) (bs : List ℕ) → Some m ≡ numeral_on n (b ∷ []) → (m < 2 ^ 32) × (numeral_on m bs ≡ numeral_on n (b ∷ bs))
more n b m bs e = (grind (arith, nat_tests), grind (arith, nat_tests))

none : (n b : ℕ) (bs : List ℕ) → None ≡ numeral_on n (b ∷ []) → None ≡ numeral_on n (b ∷ bs)
none n b bs e = let h = value_ge (n * 10 + (b - 48)) bs in grind (arith, nat_tests)

pub numeral_more : (n m : ℕ) (bs : List ℕ) (i : ℕ) → i < length bs → Some m ≡ numeral_on n (get_or bs i 0 ∷ []) → (m < 2 ^ 32) × (numeral_on m (drop (i + 1) bs) ≡ numeral_on n (drop i bs))
numeral_more n m bs i h e =
    let step = more n (get_or bs i 0) m (drop (i + 1) bs) e in
    (step.0, step.1 ∙ sym (at_drop_more (numeral_on n) bs i 0 h))

pub numeral_none : (n : ℕ) (bs : List ℕ) (i : ℕ) → i < length bs → None ≡ numeral_on n (get_or bs i 0 ∷ []) → None ≡ numeral_on n (drop i bs)
numeral_none n bs i h e = none n (get_or bs i 0) (drop (i + 1) bs) e ∙ sym (at_drop_more (numeral_on n) bs i 0 h)
