use Rattle.std.proofs.Common.{rules, ◌≡◌, codes, arith}
use Rattle.std.proofs.lemmas.Slice.Eq.{text_from_reads}
use Rattle.script.proofs.word.WordField.of_text.Goals as goal

pub returns-in-opening : goal.returns-in-opening
returns-in-opening c = let e : c.args.text.now ≡ codes "opening" = search (rules, text_from_reads) in search rules

pub returns-in-verdict : goal.returns-in-verdict
returns-in-verdict c = let e : c.args.text.now ≡ codes "verdict" = text_from_reads _ (codes "verdict") (omega arith) (omega arith, (omega arith, (omega arith, (omega arith, (omega arith, (omega arith, (omega arith, tt))))))) in search rules
