use Rattle.std.proofs.Common.{◌≡◌, List, sym, ◌∙◌, ap}
use Rattle.cm_site.specs.Contents.{site}
use Rattle.cm_site.specs.OneLibrary.{update}
use Rattle.cm_site.specs.Runs.{beside, sourced}
use Rattle.cm_site.specs.declared.member.Member.{Member}
use Rattle.cm_site.proofs.Placed.{not_records, opened_there, site_named, site_there, worked_on}
use Rattle.cm_site.proofs.site.Site.update.Goals as goal

pub update_opened-requires-clause-opened : goal.update_opened-requires-clause-opened
update_opened-requires-clause-opened g c =
    let d = g.D.Disk in
    let items = c.self.inside.members.items in
    let first = c.index_mut.result.now in
    opened_there d.reads d.may_leave d.moment d.left_since d.faults site c.args.self.now items c.self.view_is c.requires.opened 0 c.in-Library.library first
    (site_there d.reads d.may_leave d.moment d.left_since d.faults site c.args.self.now items c.self.view_is c.requires.opened) (ap (λ (m : Member g.row.D.Denot). m.hold) (sym c.index_mut.ensures.value) ∙ c.in-Library.is)

pub update_opened-requires-clause-named : goal.update_opened-requires-clause-named
update_opened-requires-clause-named g c =
    let d = g.D.Disk in
    let items = c.self.inside.members.items in
    site_named items c.index.result.now (site_there d.reads d.may_leave d.moment d.left_since d.faults site c.args.self.now items c.self.view_is c.requires.opened) c.index.ensures

pub unreachable-requires : goal.unreachable-requires
unreachable-requires g c =
    let d = g.D.Disk in
    let items = c.self.inside.members.items in
    not_records site 0 items c.index_mut.result.now c.in-Records.field-0 (site_there d.reads d.may_leave d.moment d.left_since d.faults site c.args.self.now items c.self.view_is c.requires.opened)
    (ap (λ (m : Member g.row.D.Denot). m.hold) (sym c.index_mut.ensures.value) ∙ c.in-Records.is)

pub returns : goal.returns
returns g c = λ from to minute.
    let d = g.D.Disk in
    let f = g.F.Folder in
    let items = c.self.inside.members.items in
    worked_on d.reads d.may_leave d.moment d.left_since d.faults site c.args.self.now items c.self.view_is c.requires.opened (update c.args.«package»)
    (beside (sourced f.shows f.faults c.args.folder.now) from) (beside (sourced f.shows f.faults c.update_opened.new.folder) to) minute c.update_opened.result 0 c.in-Library.library c.update_opened.new.library c.index_mut.result.now
    (site_there d.reads d.may_leave d.moment d.left_since d.faults site c.args.self.now items c.self.view_is c.requires.opened) c.index_mut.ensures.value c.in-Library.is
    c.update_opened.ensures
