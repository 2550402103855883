use Rattle.std.proofs.Common.{rules, ◌≡◌, codes}
use Rattle.std.proofs.lemmas.Slice.Eq.{text_from_reads}
use Rattle.commands.proofs.word.WordField.of_text.Goals as goal

pub returns-in-settle : goal.returns-in-settle
returns-in-settle c = let e : c.args.text.now ≡ codes "settle" = search (rules, text_from_reads) in search rules

pub returns-in-deliver : goal.returns-in-deliver
returns-in-deliver c = let e : c.args.text.now ≡ codes "deliver" = search (rules, text_from_reads) in search rules
