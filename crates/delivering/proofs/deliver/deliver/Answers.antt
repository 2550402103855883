use Rattle.knowledge.specs.Knowledge.{seen}
use Rattle.delivering.proofs.Arriving.{answers_as}
use Rattle.delivering.proofs.deliver.deliver.Goals as goal

pub returns-then-fits-clause-answers : goal.returns-then-fits-clause-answers
returns-then-fits-clause-answers g c =
    answers_as (seen c.args.view.now) c.args.message.now c.args.own c.in-Ok.kind _ _ _ c.in-Ok.ensures c.effect_of-effect.ensures
