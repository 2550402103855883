-- The words of the arrivals script. Assumes nothing.
use Rattle.std.specs.Prelude.{ℕ, cond, List, Some, None, codes, Option}
use Rattle.std.specs.Str.{bytes_eq}
use Rattle.script.specs.declared.word.Word.{Word}
use Rattle.script.specs.declared.word.Word.TheVariants.{Opening, Line, Verdict, Value}

abbrev pub word_of : List ℕ → Option Word
word_of text =
    cond (bytes_eq text (codes "opening")) (Some Opening)
    (cond (bytes_eq text (codes "line")) (Some Line)
    (cond (bytes_eq text (codes "verdict")) (Some Verdict)
    (cond (bytes_eq text (codes "value")) (Some Value) None)))
