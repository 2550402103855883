-- Numbers in decimal digits. Assumes nothing.
use Rattle.std.specs.Prelude.{ℕ, ◌+◌, ◌-◌, ◌*◌, ◌^◌, Bool, true, cond, ◌&&◌, List, [], ◌∷◌, length, Some, None, Option, ◌==◌, nat_le, nat_lt}

abbrev pub digit : ℕ → Bool
digit b = nat_le 48 b && nat_le b 57

abbrev pub all_digits : List ℕ → Bool
all_digits [] = true
all_digits (b ∷ bs) = digit b && all_digits bs

-- The number that n and then some digits write.
abbrev pub value_on : ℕ → List ℕ → ℕ
value_on n [] = n
value_on n (b ∷ bs) = value_on (n * 10 + (b - 48)) bs

-- The number that n and then some bytes write, if they are digits and it has 32 bits.
abbrev pub numeral_on : ℕ → List ℕ → Option ℕ
numeral_on n bs = cond (all_digits bs && nat_lt (value_on n bs) (2 ^ 32)) (Some (value_on n bs)) None

-- A numeral is one digit or more, with any zeros in front, and has 32 bits.
abbrev pub numeral : List ℕ → Option ℕ
numeral bs = cond (length bs == 0) None (numeral_on 0 bs)

abbrev pub below : ℕ → ℕ → Option ℕ
below limit n = cond (nat_lt n limit) (Some n) None
