use Rattle.std.proofs.Common.{◌≡◌, sym, ◌∙◌, ap, subst}
use Rattle.std.specs.Prelude.{Option, None, Some}
use Rattle.cm_base.specs.declared.hash.Hash.{Hash}
use Rattle.cm_pkglib.specs.declared.change.Change.{Change}
use Rattle.cm_pkglib.specs.declared.counts.Seal.{Seal}
use Rattle.cm_pkglib.specs.Counts.{sealed_of, seal_at}
use Rattle.cm_pkglib.specs.Rows.{fault_of}
use Rattle.cm_pkglib.proofs.Times.{seals_are}
use Rattle.cm_state.specs.Changes.{Finished}
use Rattle.cm_state.specs.State.{rows_of}
use Rattle.cm_contents.specs.Contents.{change_in}
use Rattle.cm_contents.specs.Seals.{end_fault}
use Rattle.cm_library.specs.Kept.{Seen}
use Rattle.cm_library.proofs.EndChanges.{fault_is}
use Rattle.cm_library.proofs.library.Library.end_fault.Goals as goal

pub returns-in-Some : goal.returns-in-Some
returns-in-Some g c =
    let s = c.self.inside in
    let free = subst (λ (r : Change). fault_of (rows_of s.contents.state) r ≡ None) c.in-Done.is (sym c.in-Ok.ensures) in
    sym (fault_is (λ hash. sealed_of s.counts hash) s.contents.state c.in-Done.job (Some c.in-Some.hash) free (sym c.in-Some.ensures))
    ∙ ap (λ (f : Hash → Option Seal). end_fault f s.contents.state (Finished c.in-Done.job)) (seals_are s.counts)
    ∙ ap (λ (r : Change). end_fault (λ hash. seal_at (Rattle.cm_pkglib.specs.Counts.seals_in s.counts) hash) s.contents.state (change_in None r)) (sym c.in-Done.is)
    ∙ ap (λ (v : Seen g.row.D.Denot). end_fault (seal_at v.seals) v.state (change_in None c.args.change.now)) c.self.view_is

pub returns-in-None : goal.returns-in-None
returns-in-None g c =
    let s = c.self.inside in
    let free = subst (λ (r : Change). fault_of (rows_of s.contents.state) r ≡ None) c.in-Done.is (sym c.in-Ok.ensures) in
    sym (fault_is (λ hash. sealed_of s.counts hash) s.contents.state c.in-Done.job None free (sym c.in-None.ensures))
    ∙ ap (λ (f : Hash → Option Seal). end_fault f s.contents.state (Finished c.in-Done.job)) (seals_are s.counts)
    ∙ ap (λ (r : Change). end_fault (λ hash. seal_at (Rattle.cm_pkglib.specs.Counts.seals_in s.counts) hash) s.contents.state (change_in None r)) (sym c.in-Done.is)
    ∙ ap (λ (v : Seen g.row.D.Denot). end_fault (seal_at v.seals) v.state (change_in None c.args.change.now)) c.self.view_is
