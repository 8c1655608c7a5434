use Rattle.nef_lex.proofs.Prelude.{◌+◌, arith}
use Rattle.nef_lex.proofs.Decimal.{decimal_value-more, decimal_value-take}
use Rattle.nef_lex.proofs.word.magnitude.Goals as goal

pub returns-then-value-digit-clause-value : goal.returns-then-value-digit-clause-value
returns-then-value-digit-clause-value c =
    let more = decimal_value-more c.args.digits.now c.loop-b.b-index (omega arith) in
    let whole = decimal_value-take c.args.digits.now (c.loop-b.b-index + 1) in
    omega arith

pub loop-b-preserved : goal.loop-b-preserved
loop-b-preserved c =
    let more = decimal_value-more c.args.digits.now c.loop-b.b-index (omega arith) in
    (omega arith, omega arith)
