use Rattle.std.proofs.Common.{rules}
use Rattle.std.proofs.lemmas.Fn.{filter_same}
use Rattle.std.specs.Prelude.{not, ◌==◌, ◌&&◌}
use Rattle.std.specs.Str.{bytes_eq}
use Rattle.cm_state.specs.declared.row.VersionRow.{VersionRow}
use Rattle.cm_contents.proofs.told.drop_told.Goals as goal

pub returns-clause-rows : goal.returns-clause-rows
returns-clause-rows c = filter_same _ (λ (row : VersionRow). not (bytes_eq row.package c.args.package && row.version == c.args.version)) _ (λ x b f r. search rules) _ _ c.retain.ensures.filtered
