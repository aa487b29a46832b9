use Rattle.std.proofs.Common.{◌≡◌, ℕ, List, None, slice_index_or, refl, sym, ◌∙◌, ap, subst}
use Rattle.cm_site.specs.Found.{IsLibraryAt}
use Rattle.cm_site.specs.OneLibrary.{drop}
use Rattle.cm_site.specs.Opened.{world_of}
use Rattle.cm_site.specs.Worlds.{library_at}
use Rattle.cm_site.specs.declared.member.Member.{Member}
use Rattle.cm_site.proofs.Placed.{not_records, worked_on, refused_there}
use Rattle.cm_site.proofs.site.Site.drop_job.Goals as goal

pub unreachable-requires : goal.unreachable-requires
unreachable-requires g c =
    let items = c.self.inside.members.items in
    let d = c.index_mut.result.now in
    not_records c.args.bay c.in-Some.at items d c.in-Records.field-0 (subst (λ (ms : List (Member g.row.D.Denot)). IsLibraryAt c.args.bay c.in-Some.at ms) c.deref.ensures.value c.in-Some.ensures.found)
    (ap (λ (m : Member g.row.D.Denot). m.hold) (sym c.index_mut.ensures.value) ∙ c.in-Records.is)

pub returns-in-Library : goal.returns-in-Library
returns-in-Library g c = λ from to minute.
    let d = g.D.Disk in
    let items = c.self.inside.members.items in
    worked_on d.reads d.may_leave d.moment d.left_since d.faults c.args.bay c.args.self.now items c.self.view_is c.requires.opened (λ given. drop c.args.job) from to minute c.drop_opened.result c.in-Some.at c.in-Library.library c.drop_opened.new.library c.index_mut.result.now
    (subst (λ (ms : List (Member g.row.D.Denot)). IsLibraryAt c.args.bay c.in-Some.at ms) c.deref.ensures.value c.in-Some.ensures.found) c.index_mut.ensures.value c.in-Library.is
    (c.drop_opened.ensures from.folder to.folder)

pub returns-in-None : goal.returns-in-None
returns-in-None g c = λ from to minute.
    let d = g.D.Disk in
    refused_there d.reads d.may_leave d.moment d.left_since d.faults c.args.bay c.args.self.now c.self.inside.members.items c.self.view_is c.requires.opened (λ given. drop c.args.job) from to minute c.refused.result
    (subst (λ (ms : List (Member g.row.D.Denot)). library_at c.args.bay (world_of ms) ≡ None) c.deref.ensures.value (c.in-None.ensures.none refl)) c.refused.ensures
