use Rattle.std.proofs.Common.{◌<◌, ap, ◌∙◌, arith}
use Rattle.std.proofs.lemmas.Nat.{one_shl}
use Rattle.records.specs.Present.{holds}
use Rattle.site.proofs.Named.{holds_power}
use Rattle.site.proofs.masks.only.Goals as goal

pub returns : goal.returns
returns c s = let small : c.args.site < 32 = omega arith in ap (λ m. holds m s) (one_shl c.args.site 32 small) ∙ holds_power c.args.site s
