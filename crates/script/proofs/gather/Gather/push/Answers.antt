use Rattle.std.proofs.Common.{◌∙◌, inl, inr, arith, rules}
use Rattle.std.proofs.lemmas.Bool.Decides.{nat_tests}
use Rattle.script.proofs.Keeping.{kept_stays, kept_added, kept_since}
use Rattle.script.proofs.gather.Gather.push.Goals as goal
use Rattle.script.proofs.gather.Gather.push.Goals.{else-not-ended-via-then-not-ended+else-not-full, else-not-ended-via-else-not-ended}

pub returns-then-not-full : goal.returns-then-not-full
returns-then-not-full c =
    let line = c.push.ensures.items ∙ kept_added c.args.self.now.bytes.items c.args.byte (grind (arith, nat_tests)) (λ e. grind (arith, nat_tests)) in
    record { ended = search rules; line = line; since = kept_since _ _ c.args.byte line }

pub returns-else-not-ended : goal.returns-else-not-ended
returns-else-not-ended c =
    let line = kept_stays c.args.self.now.bytes.items c.args.byte c.is_full-full.ensures.fits
    (elim c.else-not-ended.branch [
      | else-not-ended-via-then-not-ended+else-not-full w ↦ inr (grind (arith, nat_tests))
      | else-not-ended-via-else-not-ended w ↦ inl (grind (arith, nat_tests))
    ]) in
    record { ended = search rules; line = line; since = kept_since _ _ c.args.byte line }
