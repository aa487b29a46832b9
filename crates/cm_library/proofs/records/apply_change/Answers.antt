use Rattle.std.proofs.Common.{sym, ap, subst}
use Rattle.cm_pkglib.specs.InMemory.{RowsInMemory}
use Rattle.cm_state.specs.Sound.{AreFit}
use Rattle.cm_state.proofs.Soundness.{after_fit}
use Rattle.cm_library.proofs.records.apply_change.Goals as goal

pub returns-in-Ok-clause-fit : goal.returns-in-Ok-clause-fit
returns-in-Ok-clause-fit c = subst AreFit (sym (ap (λ (r : RowsInMemory). r.rows) c.in-Ok.ensures.ok)) (after_fit c.args.change.now c.args.rows.now.rows c.versions-rising.ensures.valid c.requires.fit c.requires.names c.requires.free)
