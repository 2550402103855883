use Rattle.terms.specs.Few.{few_list}
use Rattle.site.proofs.Named.{sent_more}
use Rattle.site.proofs.lines.sent_mask.Goals as goal

pub loop-line-preserved : goal.loop-line-preserved
loop-line-preserved g c s h =
    sent_more c.args.table.now.size c.args.table.now.cards.now c.args.origin c.loop-line.mask c.target_mask-mask.result s c.in-Some.line (few_list c.loop-line.line-iterator.few) (few_list c.next.new.self.few) _
    (c.target_mask-mask.ensures s h) c.in-Some.ensures.steps (c.loop-line.invariant s h)
