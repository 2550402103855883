use Rattle.std.proofs.Common.{sym, ap, ◌∙◌, arith}
use lib.Bits.{bit_xor}
use Rattle.std.proofs.lemmas.Nat.{one_shl}
use Rattle.records.specs.Present.{holds}
use Rattle.site.proofs.Named.{named_below, holds_dropped}
use Rattle.site.proofs.masks.without.Goals as goal

pub overflow_shl-result : goal.overflow_shl-result
overflow_shl-result c = named_below c.args.holders c.args.site (omega arith) (sym c.if-names.ensures)

pub returns-then-names : goal.returns-then-names
returns-then-names c s =
    let named = sym c.if-names.ensures in
    ap (λ m. holds (bit_xor c.args.holders m) s) (one_shl c.args.site 32 (named_below c.args.holders c.args.site (omega arith) named))
    ∙ holds_dropped c.args.holders c.args.site s named
