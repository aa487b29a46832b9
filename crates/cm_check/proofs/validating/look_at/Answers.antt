use Rattle.std.proofs.Common.{◌≡◌, sym, ◌∙◌, ap}
use Rattle.std.proofs.lemmas.Option.{same_Some}
use Rattle.cm_filelib.specs.Places.{file_place}
use Rattle.cm_tree.specs.declared.entry.Entry.{Entry}
use Rattle.cm_check.specs.Findings.{finding_in}
use Rattle.cm_check.proofs.validating.look_at.Goals as goal

pub returns-in-Ok-clause-found : goal.returns-in-Ok-clause-found
returns-in-Ok-clause-found g c e at files told =
    let same : c.entry_at-entry.result ≡ e = same_Some _ _ (sym c.entry_at-entry.ensures.is ∙ at) in
    c.finding_in.ensures (files (file_place e.hash.0)) (c.in-Ok.ensures.exact e at files told) ∙ ap (λ (x : Entry). finding_in (files (file_place e.hash.0)) x) same
