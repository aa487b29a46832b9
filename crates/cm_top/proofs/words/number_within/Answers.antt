use Rattle.std.proofs.Common.{sym, arith}
use Rattle.std.proofs.lemmas.Bool.{both_ways}
use Rattle.cm_top.proofs.NumberLemmas.{not_plain, plain_parsed, not_parsed, number_within-within}
use Rattle.cm_top.proofs.words.number_within.Goals as goal

pub returns-then-not-is_plain : goal.returns-then-not-is_plain
returns-then-not-is_plain c = not_plain c.args.least c.args.most c.args.text.now (omega arith)
    (λ plain. both_ways c.is_plain.result c.if-not-is_plain.true (c.is_plain.ensures.1 plain))

pub returns-then-number-most : goal.returns-then-number-most
returns-then-number-most c =
    let digits = plain_parsed c.args.text.now c.parse.result c.in-Ok.number (c.is_plain.ensures.0 c.if-not-is_plain.false) c.parse.ensures.value.0 c.in-Ok.is in
    sym (number_within-within c.args.least c.args.most c.in-Ok.number c.args.text.now (omega arith)
    (record { digits = digits; low = c.if-least-number.true; high = c.if-number-most.true }))

pub returns-in-Err : goal.returns-in-Err
returns-in-Err c = not_parsed c.args.least c.args.most c.args.text.now c.parse.result c.in-Err.field-0 (omega arith) c.parse.ensures.value.0 c.in-Err.is
