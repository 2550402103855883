use Rattle.std.proofs.Common.{◌∙◌, arith}
use Rattle.std.proofs.lemmas.List.{at_drop_all}
use Rattle.std.proofs.lemmas.Bool.Decides.{nat_tests}
use Rattle.script.specs.Numbers.{numeral_on}
use Rattle.script.proofs.Numerals.{numeral_more, numeral_none}
use Rattle.script.proofs.number.U32Field.of_text.Goals as goal

pub returns-in_err-value : goal.returns-in_err-value
returns-in_err-value c =
    let e = numeral_none c.loop-byte.value c.args.text.now c.loop-byte.byte-index c.loop-byte-test.true c.in_err-value.ensures in
    grind (arith, nat_tests)

pub loop-byte-preserved : goal.loop-byte-preserved
loop-byte-preserved c =
    let e = numeral_more c.loop-byte.value c.in_ok-value.value c.args.text.now c.loop-byte.byte-index c.loop-byte-test.true c.in_ok-value.ensures in
    (e.0, e.1 ∙ c.loop-byte.invariant.1)

pub returns : goal.returns
returns c =
    let e = at_drop_all (numeral_on c.loop-byte.value) c.args.text.now c.loop-byte.byte-index c.loop-byte-test.false in
    grind (arith, nat_tests)
