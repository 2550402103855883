use Rattle.std.proofs.Common.{◌≡◌, ◌^◌, ◌<◌, drop}
use Rattle.script.specs.Numbers.{numeral_on}
use Rattle.script.proofs.number.U32Field.of_text.Given as goal

abbrev pub invariant-loop-byte : goal.invariant-loop-byte
invariant-loop-byte l = (l.value < 2 ^ 32) × (numeral_on l.value (drop l.byte-index l.text) ≡ numeral_on 0 l.text)
