-- Dates, their order, and the rules of the date book. Assumes nothing.
use Rattle.std.specs.Prelude.{◌≡◌, ℕ, ◌+◌, ◌*◌, ◌^◌, ◌<◌, Bool, true, false, cond, not, ◌&&◌, ◌||◌, List, [], ◌∷◌, Some, None, Option, ◌==◌, nat_le, nat_lt, slice_get, unwrap_or}
use Rattle.std.specs.Option.{option_map_or}
use Rattle.terms.specs.Numbers.{numbered}
use Rattle.book.specs.Meaning.{Answer, declines, gives}
use Rattle.books.specs.declared.date.Date.{Date}
use Rattle.books.specs.declared.date.DateRefusal.{DateRefusal}
use Rattle.books.specs.declared.date.DateRefusal.TheVariants.{UnknownRule, UnlawfulArgument, OutOfOrder}
use Rattle.books.specs.declared.date.DateRule.{DateRule}
use Rattle.books.specs.declared.date.DateRule.TheVariants.{Set, Fill, Earlier, Compare}

abbrev pub blank : Date
blank = record { year = 0; month = 0; day = 0 }

abbrev pub is_blank : Date → Bool
is_blank d = d.year == 0 && (d.month == 0 && d.day == 0)

abbrev pub between : ℕ → ℕ → ℕ → Bool
between low high n = nat_le low n && nat_le n high

-- February has 29 days in every year.
abbrev pub days_in : ℕ → ℕ
days_in month =
    cond (month == 2) 29
    (cond (month == 4 || (month == 6 || (month == 9 || month == 11))) 30 31)

-- Blank, or a day of a month of the years 1500 to 1999.
abbrev pub lawful : Date → Bool
lawful d = is_blank d || (between 1500 1999 d.year && (between 1 12 d.month && between 1 (days_in d.month) d.day))

-- A date's place in the order: by year, then month, then day, and a blank after every other.
abbrev pub date_key : Date → ℕ
date_key d = cond (is_blank d) (2 ^ 32) ((d.year * 256 + d.month) * 256 + d.day)

abbrev pub earlier : Date → Date → Bool
earlier a b = nat_lt (date_key a) (date_key b)

-- The date with these numbers, if they have 16, 8 and 8 bits.
abbrev pub date_of : ℕ → ℕ → ℕ → Option Date
date_of year month day =
    cond (nat_lt year (2 ^ 16) && (nat_lt month (2 ^ 8) && nat_lt day (2 ^ 8))) (Some (record { year = year; month = month; day = day })) None

-- The fields have their 16, 8 and 8 bits, and are not all zero.
pub record Filled (a : Date) : Type 0 where
  pub year_bits : a.year < 2 ^ 16
  pub month_bits : a.month < 2 ^ 8
  pub day_bits : a.day < 2 ^ 8
  pub not_blank : is_blank a ≡ false

-- The year is below, or the same and the month below, or both the same and the day below.
abbrev pub before : Date → Date → Bool
before a b = nat_lt a.year b.year || (a.year == b.year && (nat_lt a.month b.month || (a.month == b.month && nat_lt a.day b.day)))

-- A strict order in which dates tie exactly if their keys are equal; filled dates go by year, month and day, and before a blank.
pub record DateOrder : Type 0 where
  pub irreflexive : (a : Date) → earlier a a ≡ false
  pub transitive : (a b c : Date) → earlier a b ≡ true → earlier b c ≡ true → earlier a c ≡ true
  pub tied : (a b : Date) → earlier a b ≡ false → earlier b a ≡ false → date_key a ≡ date_key b
  pub level : (a b : Date) → date_key a ≡ date_key b → (earlier a b ≡ false) × (earlier b a ≡ false)
  pub by_parts : (a b : Date) → Filled a → Filled b → earlier a b ≡ true → before a b ≡ true
  pub from_parts : (a b : Date) → Filled a → Filled b → before a b ≡ true → earlier a b ≡ true
  pub blank_last : (a : Date) → Filled a → earlier a blank ≡ true

-- In order: there is no such rule; the argument is not lawful; two dates are out of order.
abbrev pub date_code : DateRefusal → ℕ
date_code UnknownRule = 0
date_code UnlawfulArgument = 3
date_code OutOfOrder = 5

abbrev pub rule_number : DateRule → ℕ
rule_number Set = 1
rule_number Fill = 2
rule_number Earlier = 3
rule_number Compare = 4

abbrev pub date_rule : ℕ → Option DateRule
date_rule n = numbered rule_number (Set ∷ Fill ∷ Earlier ∷ Compare ∷ []) n

-- Set sets a card, Fill fills a blank one, Earlier leaves the earlier date, Compare compares two cards and writes nothing.
abbrev pub rule_modes : DateRule → List ℕ
rule_modes Set = 2 ∷ []
rule_modes Fill = 3 ∷ []
rule_modes Earlier = 3 ∷ []
rule_modes Compare = 1 ∷ 1 ∷ []

abbrev pub dates_modes : ℕ → List ℕ
dates_modes rule = option_map_or rule_modes (date_rule rule) []

-- Both dates are filled, and the second is earlier than the first.
abbrev pub out_of_order : Date → Date → Bool
out_of_order first second = not (is_blank first) && (not (is_blank second) && earlier second first)

-- What a rule says to a lawful argument and the first two dates read.
abbrev pub written : DateRule → Date → Date → Date → Answer Date
written Set argument first second = gives (argument ∷ [])
written Fill argument first second = gives (cond (is_blank first) argument first ∷ [])
written Earlier argument first second = gives (cond (earlier argument first) argument first ∷ [])
written Compare argument first second = cond (out_of_order first second) (declines (date_code OutOfOrder)) (gives [])

-- The argument is judged before all else.
abbrev pub rule_answer : DateRule → Date → Date → Date → Answer Date
rule_answer rule argument first second =
    cond (lawful argument) (written rule argument first second) (declines (date_code UnlawfulArgument))

-- A card that is missing from those read counts as blank.
abbrev pub dates_answer : ℕ → Date → List Date → Answer Date
dates_answer rule argument read =
    option_map_or
    (λ r. rule_answer r argument (unwrap_or (slice_get read 0) blank) (unwrap_or (slice_get read 1) blank))
    (date_rule rule)
    (declines (date_code UnknownRule))
