-- The rules of the tally book. Assumes nothing.
use Rattle.std.specs.Prelude.{ℕ, ◌+◌, ◌-◌, Bool, true, cond, ◌&&◌, List, [], ◌∷◌, Ok, Err, Option, Result, nat_le, nat_lt, slice_get, unwrap_or}
use Rattle.std.specs.Option.{option_map_or}
use Rattle.terms.specs.Numbers.{numbered}
use Rattle.book.specs.Meaning.{Answer, declines, gives}
use Rattle.books.specs.declared.tally.TallyRefusal.{TallyRefusal}
use Rattle.books.specs.declared.tally.TallyRefusal.TheVariants.{UnknownRule, AboveLimit, TooFew, ArgumentAboveLimit}
use Rattle.books.specs.declared.tally.TallyRule.{TallyRule}
use Rattle.books.specs.declared.tally.TallyRule.TheVariants.{Set, Add, Move, Sum}

-- The greatest count that is taken as an argument or written.
abbrev pub limit : ℕ
limit = 999999

-- In order: there is no such rule; a count to be written is above the limit; the first card has less than is to be
-- moved; the argument is above the limit.
abbrev pub tally_code : TallyRefusal → ℕ
tally_code UnknownRule = 0
tally_code AboveLimit = 1
tally_code TooFew = 2
tally_code ArgumentAboveLimit = 3

abbrev pub rule_number : TallyRule → ℕ
rule_number Set = 1
rule_number Add = 2
rule_number Move = 3
rule_number Sum = 4

abbrev pub tally_rule : ℕ → Option TallyRule
tally_rule n = numbered rule_number (Set ∷ Add ∷ Move ∷ Sum ∷ []) n

-- Set sets a card, Add adds to one, Move moves from the first to the second, Sum writes the sum of two to a third.
abbrev pub rule_modes : TallyRule → List ℕ
rule_modes Set = 2 ∷ []
rule_modes Add = 3 ∷ []
rule_modes Move = 3 ∷ 3 ∷ []
rule_modes Sum = 1 ∷ 1 ∷ 2 ∷ []

abbrev pub tally_modes : ℕ → List ℕ
tally_modes rule = option_map_or rule_modes (tally_rule rule) []

-- A count to be written, unless it is above the limit.
abbrev pub counted : ℕ → Result ℕ TallyRefusal
counted count = cond (nat_le count limit) (Ok count) (Err AboveLimit)

abbrev pub all_within : List ℕ → Bool
all_within [] = true
all_within (count ∷ counts) = nat_le count limit && all_within counts

abbrev pub within_limit : List ℕ → Answer ℕ
within_limit counts = cond (all_within counts) (gives counts) (declines (tally_code AboveLimit))

abbrev pub moving : ℕ → ℕ → ℕ → Answer ℕ
moving argument first second =
    cond (nat_lt first argument) (declines (tally_code TooFew)) (within_limit ((first - argument) ∷ (second + argument) ∷ []))

-- What a rule says to an argument within the limit and the first two counts read.
abbrev pub written : TallyRule → ℕ → ℕ → ℕ → Answer ℕ
written Set argument first second = within_limit (argument ∷ [])
written Add argument first second = within_limit ((first + argument) ∷ [])
written Move argument first second = moving argument first second
written Sum argument first second = within_limit ((first + second) ∷ [])

-- The argument is judged before all else.
abbrev pub rule_answer : TallyRule → ℕ → ℕ → ℕ → Answer ℕ
rule_answer rule argument first second =
    cond (nat_le argument limit) (written rule argument first second) (declines (tally_code ArgumentAboveLimit))

-- A card that is missing from those read counts as 0.
abbrev pub tally_answer : ℕ → ℕ → List ℕ → Answer ℕ
tally_answer rule argument read =
    option_map_or (λ r. rule_answer r argument (unwrap_or (slice_get read 0) 0) (unwrap_or (slice_get read 1) 0)) (tally_rule rule) (declines (tally_code UnknownRule))
