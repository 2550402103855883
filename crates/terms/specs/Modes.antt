-- The modes of lines. Assumes nothing.
use Rattle.std.specs.Prelude.{ℕ, Bool, ◌||◌, [], ◌∷◌, Option, ◌==◌}
use Rattle.terms.specs.declared.mode.Mode.{Mode}
use Rattle.terms.specs.declared.mode.Mode.TheVariants.{Read, Write, Update}
use Rattle.terms.specs.Numbers.{numbered}

-- Mode 1 reads, 2 writes without reading, 3 reads and writes.
abbrev pub mode_number : Mode → ℕ
mode_number Read = 1
mode_number Write = 2
mode_number Update = 3

abbrev pub mode_of : ℕ → Option Mode
mode_of n = numbered mode_number (Read ∷ Write ∷ Update ∷ []) n

abbrev pub reads : ℕ → Bool
reads mode = mode == 1 || mode == 3

abbrev pub writes : ℕ → Bool
writes mode = mode == 2 || mode == 3
