-- The sitting's counts of messages. Assumes nothing.
use Rattle.std.specs.Prelude.{ℕ, ◌+◌, min}

-- A count of messages after some more; it stops at 10^9.
abbrev pub stopped : ℕ → ℕ → ℕ
stopped count more = min (count + more) 1000000000
