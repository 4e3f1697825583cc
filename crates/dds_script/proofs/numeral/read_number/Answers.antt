use Rattle.dds_script.proofs.Numbers.{begins-number, number-word, no-number, number-utf8}
use Rattle.dds_script.proofs.numeral.read_number.Goals as goal

pub returns-then-not-begins_well : goal.returns-then-not-begins_well
returns-then-not-begins_well c = λ n is. let t = c.begins_well.ensures.1 (begins-number _ n is) in absurd (cc (t, c.if-not-begins_well.true))

pub returns-in-Ok-parse : goal.returns-in-Ok-parse
returns-in-Ok-parse c =
    let b = c.begins_well.ensures.0 c.if-not-begins_well.false in
    number-word c.args.word.now c.in-Ok.text.now _ c.in-Ok.ensures.cases.0 b.1 b.2 c.in-Ok-parse.ensures.value.0

pub returns-in-Err-parse : goal.returns-in-Err-parse
returns-in-Err-parse c = λ n is. no-number c.args.word.now c.in-Ok.text.now c.in-Ok.ensures.cases.0 c.in-Err-parse.ensures.value.0 n is

pub returns-in-Err : goal.returns-in-Err
returns-in-Err c = λ n is. c.in-Err.ensures.cases.0 (number-utf8 _ n is)
