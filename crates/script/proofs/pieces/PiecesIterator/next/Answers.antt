use Rattle.std.proofs.Common.{◌≡◌, Some, refl, arith}
use Rattle.script.specs.declared.pieces.Pieces.{Pieces}
use Rattle.script.specs.Pieces.{head, others}
use Rattle.script.specs.Readers.{left}
use Rattle.script.proofs.Parts.{past_end, part}
use Rattle.script.proofs.pieces.PiecesIterator.next.Goals as goal

pub returns-clause-steps : goal.returns-clause-steps
returns-clause-steps c =
    let before = c.args.self.now in
    let after : Pieces = record { separator = before.separator; rest = c.get-self.result; place = c.saturating_add-self.result } in
    let text : Some c.split_at.result.0.now ≡ head (left before) = grind arith in
    let past = past_end before.separator c.split_at.result.1.now c.get-self.result c.get-self.ensures.lookup.0 in
    let rest : left after ≡ others (left before) = grind arith in
    record {
      text = text;
      rest = rest;
      place = grind arith;
      part = part before after c.split_at.result.0.now text rest refl c.saturating_add-self.ensures;
    }
