-- Sending one message to several sites. Assumes nothing.
use Rattle.std.specs.Prelude.{ℕ, List, map, filter}
use Rattle.std.specs.List.{range_with_len}
use Rattle.records.specs.declared.message.Message.{Message}
use Rattle.records.specs.Present.{holds}

-- The sites from 0 to 7 that a mask names, rising; its bits from 8 on name none.
abbrev pub targets : ℕ → List ℕ
targets mask = filter (holds mask) (range_with_len 0 8)

abbrev pub addressed : {V : Type 0} → Message V → ℕ → Message V
addressed m site = record { kind = m.kind; from = m.from; to = site; line = m.line }

-- The message once for each site that the mask names.
abbrev pub copies : {V : Type 0} → Message V → ℕ → List (Message V)
copies m mask = map (addressed m) (targets mask)
