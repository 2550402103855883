-- What a register of bounded length holds. Assumes nothing.
use Rattle.std.specs.Prelude.{ℕ, cond, List, [], ◌∷◌, ◌++◌, length, Ok, Err, Result, nat_le}
use Rattle.desk.specs.declared.register.Full.{Full}

abbrev pub push_answer : {X : Type 0} → ℕ → List X → Result (Unit {0}) Full
push_answer most xs = cond (nat_le most (length xs)) (Err (record {})) (Ok tt)

-- A record is put behind the others, unless as many are there as may be.
abbrev pub pushed : {X : Type 0} → ℕ → List X → X → List X
pushed most xs x = cond (nat_le most (length xs)) xs (xs ++ x ∷ [])
