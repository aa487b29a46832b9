use Rattle.std.proofs.Common.{◌∙◌, sym}
use Rattle.std.specs.Cmp.Lexicographic.{other_text}
use Rattle.cm_notes.proofs.Folded.{none_read, other_read}
use Rattle.cm_notes.proofs.decode.name_of.Goals as goal

pub returns-in_err-name : goal.returns-in_err-name
returns-in_err-name c = c.from_residual.ensures ∙ none_read c.args.text.now c.in_err-name.ensures

pub returns-else-eq : goal.returns-else-eq
returns-else-eq c = other_read c.args.text.now c.in_ok-name.name c.in_ok-name.ensures (λ same. other_text c.as_bytes.result.now c.args.text.now (sym c.if-eq.false ∙ c.eq.ensures) (c.as_bytes.ensures ∙ same))
