use Rattle.model.proofs.Lawful.{law}
use Rattle.model.proofs.Prepared.{opens_right}
use Rattle.model.proofs.Refusals.{unaltered}
use Rattle.model.proofs.law_stands.Goals as goal

pub returns : goal.returns
returns g c =
    let book = c.args.book.now in
    record {
      law = law _ (record { few = g.met.B.RuleBook.few book; known = g.met.B.RuleBook.known book; sized = g.met.B.RuleBook.sized book });
      opens = opens_right;
      refusals = unaltered _;
    }
