-- Tables of records: the used part that belongs to one site, and writing behind it. Assumes nothing.
use Rattle.std.specs.Prelude.{ℕ, ◌+◌, ◌*◌, List, ◌++◌, length, take, drop}

-- The used records of a site in a table in which each site has a share of the same size.
abbrev pub used_of : {X : Type 0} → List X → ℕ → ℕ → ℕ → List X
used_of table share site used = take used (drop (site * share) table)

-- The table with some records in place of those from a place on.
abbrev pub written_at : {X : Type 0} → List X → ℕ → List X → List X
written_at table place more = take place table ++ (more ++ drop (place + length more) table)
