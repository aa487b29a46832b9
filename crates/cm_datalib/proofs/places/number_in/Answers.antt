use Rattle.std.proofs.Common.{ℕ, List, sym, ◌∙◌, ap, subst, arith}
use Rattle.std.specs.Result.{result_ok}
use Rattle.std.specs.Str.{IsUtf8}
use Rattle.std.specs.Fmt.{decimal}
use Rattle.std.proofs.lemmas.Fmt.{parse-decimal, IsAscii-decimal}
use Rattle.std.proofs.lemmas.Str.{IsUtf8-from_ascii}
use Rattle.cm_datalib.proofs.places.number_in.Goals as goal

pub returns-in-Ok-parse : goal.returns-in-Ok-parse
returns-in-Ok-parse c number small is =
    let read = parse-decimal 32 number c.in-Ok.digits.now c.parse.result small (omega (arith, small)) (c.in-Ok.ensures.cases.0 ∙ is) c.parse.ensures.value.0 in
    ap (λ r. result_ok r) (sym c.in-Ok-parse.is ∙ read)

pub returns-in-Err-parse : goal.returns-in-Err-parse
returns-in-Err-parse c number small is =
    let read = parse-decimal 32 number c.in-Ok.digits.now c.parse.result small (omega (arith, small)) (c.in-Ok.ensures.cases.0 ∙ is) c.parse.ensures.value.0 in
    ap (λ r. result_ok r) (sym c.in-Err-parse.is ∙ read)

pub returns-in-Err : goal.returns-in-Err
returns-in-Err c number small is = absurd (c.in-Err.ensures.cases.0 (subst (λ (l : List ℕ). IsUtf8 l) (sym is) (IsUtf8-from_ascii (decimal number) (IsAscii-decimal number (omega (arith, small))))))
