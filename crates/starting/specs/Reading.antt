-- What a start reads. Assumes nothing.
use Rattle.std.specs.Prelude.{ℕ, cond, List, [], ◌∷◌, Option}
use Rattle.std.specs.Option.{unwrap_or}
use Rattle.terms.specs.Modes.{reads}
use Rattle.knowledge.specs.declared.versions.Version.{Version}
use Rattle.knowledge.specs.Knowledge.{Site}
use Rattle.knowledge.specs.Versions.{current}

-- A start reads the current value of a card, with its time.
abbrev pub start_reads : {V : Type 0} → Site V → ℕ → Option (Version V)
start_reads site card = current site card

-- The version read; a card that is absent, which no start that is accepted names, would read as the argument at time 0.
abbrev pub version_read : {V : Type 0} → Site V → V → ℕ → Version V
version_read site argument card = unwrap_or (start_reads site card) (record { time = 0; value = argument })

-- The values that lines of modes 1 and 3 read, in line order.
abbrev pub values_read : {V : Type 0} → Site V → V → List ℕ → List ℕ → List V
values_read site argument [] cards = []
values_read site argument (mode ∷ modes) [] = []
values_read site argument (mode ∷ modes) (card ∷ cards) =
    cond (reads mode) ((version_read site argument card).value ∷ values_read site argument modes cards) (values_read site argument modes cards)
