use Rattle.std.proofs.Common.{refl, lit≤}
use Rattle.model.proofs.worked_sitting.Goals as goal

pub returns : goal.returns
returns c =
    record {
      count = refl;
      computes = refl;
      opened = record { sized = refl; long = refl; few_cards = lit≤ tt; none_started = refl; none_landed = refl; none_recorded = refl; none_counted = refl; none_put = refl; none_delivered = refl; none_waiting = refl; room = lit≤ tt };
    }
