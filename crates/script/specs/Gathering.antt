-- What is gathered of a line. Assumes nothing.
use Rattle.std.specs.Prelude.{ℕ, cond, List, [], ◌∷◌, ◌++◌, take, ◌==◌}
use Rattle.script.specs.declared.gather.Gather.{Gather}

abbrev pub gathered : Gather → List ℕ
gathered g = g.bytes.items

-- Of a line the first 81 bytes are kept, which tell a line above 80 bytes from any other.
abbrev pub kept : List ℕ → List ℕ
kept line = take 81 line

-- A line with one more byte; a newline ends it and is no part of it.
abbrev pub pushed : List ℕ → ℕ → List ℕ
pushed line byte = cond (byte == 10) line (line ++ byte ∷ [])
