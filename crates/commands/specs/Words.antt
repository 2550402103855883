-- The words of a sitting's script. Assumes nothing.
use Rattle.std.specs.Prelude.{ℕ, cond, List, Some, None, codes, Option}
use Rattle.std.specs.Str.{bytes_eq}
use Rattle.commands.specs.declared.word.Word.{Word}
use Rattle.commands.specs.declared.word.Word.TheVariants.{Sites, Card, Open, Start, Deliver, Settle, Value, Close}

abbrev pub word_of : List ℕ → Option Word
word_of text =
    cond (bytes_eq text (codes "sites")) (Some Sites)
    (cond (bytes_eq text (codes "card")) (Some Card)
    (cond (bytes_eq text (codes "open")) (Some Open)
    (cond (bytes_eq text (codes "start")) (Some Start)
    (cond (bytes_eq text (codes "deliver")) (Some Deliver)
    (cond (bytes_eq text (codes "settle")) (Some Settle)
    (cond (bytes_eq text (codes "value")) (Some Value)
    (cond (bytes_eq text (codes "close")) (Some Close) None)))))))
