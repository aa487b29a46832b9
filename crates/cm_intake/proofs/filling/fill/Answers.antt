use Rattle.std.proofs.Common.{List, sym, ◌∙◌, ap, subst, arith}
use Rattle.std.specs.Prelude.{Option, None, Ok}
use Rattle.cm_pkglib.specs.Counts.{seal_at}
use Rattle.cm_state.specs.State.{State}
use Rattle.cm_contents.specs.Seals.{job_manifest}
use Rattle.cm_contents.specs.Wants.{IsLeastWanted, IsNextWanted}
use Rattle.cm_tree.specs.declared.entry.Entry.{Entry}
use Rattle.cm_library.specs.Kept.{Seen}
use Rattle.cm_intake.specs.Filling.{KeepsState, ReadsFirst, Fills}
use Rattle.cm_intake.specs.declared.fault.IntakeFault.{IntakeFault}
use Rattle.cm_intake.proofs.Filled.{filled_none, filled_next, fills_done, fills_changed, fills_failed, fewer_unsealed}
use Rattle.cm_intake.proofs.Going.{keeps_itself, keeps_then}
use Rattle.cm_intake.proofs.Reread.{read_then, read_itself}
use Rattle.cm_intake.proofs.filling.fill.Goals as goal

pub hashes-init : goal.hashes-init
hashes-init g c =
    let d = g.D.Disk in
    let old = c.args.library.now in
    record {
      so_far = filled_none d.reads d.may_leave d.moment d.left_since (g.F.Folder.shows c.args.folder.now) c.args.entries.now c.args.job old
          (keeps_itself d.reads d.may_leave d.moment d.left_since g.met.D.Disk.only_now c.args.job old c.requires.settled c.tells.ensures.opens) c.requires.sealed;
      shown = read_itself (g.F.Folder.shows c.args.folder.now);
      folder_later = omega arith;
      later = omega arith;
    }

pub returns-in-None-clause-fills : goal.returns-in-None-clause-fills
returns-in-None-clause-fills g c =
    let d = g.D.Disk in
    let old = c.args.library.now in
    let now = c.hashes.library in
    let held = ap (λ (s : State). job_manifest c.args.job s) c.hashes.invariant.so_far.keeps.rows.state ∙ c.requires.manifest in
    let none = subst (λ (es : List Entry). IsNextWanted (seal_at now.seals) es c.hashes.after None) held c.in-None.ensures.next in
    subst (λ (v : Seen g.row.D.Denot). Fills (g.F.Folder.shows c.args.folder.now) (g.F.Folder.faults c.args.folder.now) (g.F.Folder.faults c.hashes.folder) c.args.entries.now old v (Ok None)) (sym c.next_wanted.ensures.same)
    (fills_done d.reads d.may_leave d.moment d.left_since (g.F.Folder.shows c.args.folder.now) (g.F.Folder.faults c.args.folder.now) (g.F.Folder.faults c.hashes.folder) c.args.entries.now c.args.job old now c.hashes.after c.hashes.invariant.so_far none)

pub hashes-smaller : goal.hashes-smaller
hashes-smaller g c =
    let now = c.hashes.library in
    let held = ap (λ (s : State). job_manifest c.args.job s) c.hashes.invariant.so_far.keeps.rows.state ∙ c.requires.manifest in
    let next = subst (λ (es : List Entry). IsLeastWanted (seal_at now.seals) es c.hashes.after c.in-Some.hash c.in-Some.field-0-1) held c.in-Some.ensures.next in
    let shows = g.F.Folder.shows c.hashes.folder in
    let new = seal_at c.fill_one.new.library.seals in
    let reads = subst (λ (v : Seen g.row.D.Denot). ReadsFirst shows c.args.entries.now c.in-Some.hash (seal_at v.seals) new c.in-Ok-None.field-0) c.next_wanted.ensures.same c.in-Ok-None.ensures.first in
    fewer_unsealed shows c.args.entries.now c.in-Some.hash (seal_at now.seals) new next.unsealed (subst (λ (o : Option IntakeFault). ReadsFirst shows c.args.entries.now c.in-Some.hash (seal_at now.seals) new o) c.in-Ok-None.field-0-is reads)

pub hashes-preserved : goal.hashes-preserved
hashes-preserved g c =
    let d = g.D.Disk in
    let old = c.args.library.now in
    let now = c.hashes.library in
    let held = ap (λ (s : State). job_manifest c.args.job s) c.hashes.invariant.so_far.keeps.rows.state ∙ c.requires.manifest in
    let next = subst (λ (es : List Entry). IsLeastWanted (seal_at now.seals) es c.hashes.after c.in-Some.hash c.in-Some.field-0-1) held c.in-Some.ensures.next in
    let shown = g.F.Folder.shows c.args.folder.now in
    let shows = g.F.Folder.shows c.hashes.folder in
    let new = seal_at c.fill_one.new.library.seals in
    let reads = subst (λ (v : Seen g.row.D.Denot). ReadsFirst shows c.args.entries.now c.in-Some.hash (seal_at v.seals) new c.in-Ok-None.field-0) c.next_wanted.ensures.same c.in-Ok-None.ensures.first in
    let first = subst (λ (o : Option IntakeFault). ReadsFirst shows c.args.entries.now c.in-Some.hash (seal_at now.seals) new o) c.in-Ok-None.field-0-is reads in
    let keeps = subst (λ (v : Seen g.row.D.Denot). KeepsState d.reads d.may_leave d.moment d.left_since c.args.job v c.fill_one.new.library) c.next_wanted.ensures.same c.fill_one.ensures.keeps in
    let disk_before = c.hashes.invariant.later in
    let disk_after = c.fill_one.ensures.later in
    let same = ap (λ (v : Seen g.row.D.Denot). d.faults v.disk) c.next_wanted.ensures.same in
    let folder_before = c.hashes.invariant.folder_later in
    let folder_after = c.fill_one.ensures.folder_later in
    record {
      so_far = filled_next d.reads d.may_leave d.moment d.left_since shown shows c.args.entries.now c.args.job old now c.hashes.after c.hashes.invariant.so_far c.hashes.invariant.shown c.in-Some.hash c.in-Some.field-0-1 next c.fill_one.new.library keeps first;
      shown = read_then shown shows (g.F.Folder.shows c.fill_one.new.folder) c.hashes.invariant.shown c.fill_one.ensures.shown;
      folder_later = omega (arith, folder_before, folder_after);
      later = omega (arith, disk_before, disk_after, same);
    }

pub returns-in-Ok-Some-clause-keeps : goal.returns-in-Ok-Some-clause-keeps
returns-in-Ok-Some-clause-keeps g c =
    let d = g.D.Disk in
    let keeps = subst (λ (v : Seen g.row.D.Denot). KeepsState d.reads d.may_leave d.moment d.left_since c.args.job v c.fill_one.new.library) c.next_wanted.ensures.same c.fill_one.ensures.keeps in
    keeps_then d.reads d.may_leave d.moment d.left_since c.args.job c.args.library.now c.hashes.library c.fill_one.new.library c.hashes.invariant.so_far.keeps keeps

pub returns-in-Ok-Some-clause-fills : goal.returns-in-Ok-Some-clause-fills
returns-in-Ok-Some-clause-fills g c =
    let d = g.D.Disk in
    let old = c.args.library.now in
    let now = c.hashes.library in
    let held = ap (λ (s : State). job_manifest c.args.job s) c.hashes.invariant.so_far.keeps.rows.state ∙ c.requires.manifest in
    let next = subst (λ (es : List Entry). IsLeastWanted (seal_at now.seals) es c.hashes.after c.in-Some.hash c.in-Some.field-0-1) held c.in-Some.ensures.next in
    let shown = g.F.Folder.shows c.args.folder.now in
    let shows = g.F.Folder.shows c.hashes.folder in
    let new = seal_at c.fill_one.new.library.seals in
    let reads = subst (λ (v : Seen g.row.D.Denot). ReadsFirst shows c.args.entries.now c.in-Some.hash (seal_at v.seals) new c.in-Ok-Some.field-0) c.next_wanted.ensures.same c.in-Ok-Some.ensures.first in
    let first = subst (λ (o : Option IntakeFault). ReadsFirst shows c.args.entries.now c.in-Some.hash (seal_at now.seals) new o) c.in-Ok-Some.field-0-is reads in
    fills_changed d.reads d.may_leave d.moment d.left_since shown shows (g.F.Folder.faults c.args.folder.now) (g.F.Folder.faults c.fill_one.new.folder) c.args.entries.now c.args.job old now c.fill_one.new.library c.hashes.after c.in-Some.hash c.in-Some.field-0-1 c.in-Ok-Some.change
    c.hashes.invariant.so_far c.hashes.invariant.shown next first

pub returns-in-Err-Folder-clause-keeps : goal.returns-in-Err-Folder-clause-keeps
returns-in-Err-Folder-clause-keeps g c =
    let d = g.D.Disk in
    let keeps = subst (λ (v : Seen g.row.D.Denot). KeepsState d.reads d.may_leave d.moment d.left_since c.args.job v c.fill_one.new.library) c.next_wanted.ensures.same c.fill_one.ensures.keeps in
    keeps_then d.reads d.may_leave d.moment d.left_since c.args.job c.args.library.now c.hashes.library c.fill_one.new.library c.hashes.invariant.so_far.keeps keeps

pub returns-in-Err-Disk-clause-keeps : goal.returns-in-Err-Disk-clause-keeps
returns-in-Err-Disk-clause-keeps g c =
    let d = g.D.Disk in
    let keeps = subst (λ (v : Seen g.row.D.Denot). KeepsState d.reads d.may_leave d.moment d.left_since c.args.job v c.fill_one.new.library) c.next_wanted.ensures.same c.fill_one.ensures.keeps in
    keeps_then d.reads d.may_leave d.moment d.left_since c.args.job c.args.library.now c.hashes.library c.fill_one.new.library c.hashes.invariant.so_far.keeps keeps

pub returns-in-Err-Disk-clause-fills : goal.returns-in-Err-Disk-clause-fills
returns-in-Err-Disk-clause-fills g c =
    let d = g.D.Disk in
    fills_failed d.reads d.may_leave d.moment d.left_since (g.F.Folder.shows c.args.folder.now) (g.F.Folder.faults c.args.folder.now) (g.F.Folder.faults c.fill_one.new.folder) c.args.entries.now c.args.job c.args.library.now c.hashes.library c.fill_one.new.library c.hashes.after _ c.hashes.invariant.so_far
