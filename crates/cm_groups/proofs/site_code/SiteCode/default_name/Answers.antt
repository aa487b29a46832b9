use Rattle.std.proofs.Common.{◌≡◌, ◌∙◌, sym, ap, Bool}
use Rattle.std.proofs.lemmas.Option.{none-some}
use Rattle.cm_base.specs.Names.{is_label, text_if}
use Rattle.cm_groups.specs.Codes.{default_name}
use Rattle.cm_groups.proofs.DefaultNames.{default_label}
use Rattle.cm_groups.proofs.site_code.SiteCode.default_name.Goals as goal

pub unreachable-requires : goal.unreachable-requires
unreachable-requires c =
    let name = default_name c.self.inside.bytes in
    let good = default_label c.self.inside.bytes c.self.invariant in
    let read : c.read.result ≡ text_if (is_label name) name = rw c.copy_from_slice.ensures.after at c.read.ensures in
    none-some _ (sym c.in-None.is ∙ read ∙ ap (λ (b : Bool). text_if b name) good)
