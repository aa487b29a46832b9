use Rattle.std.proofs.Common.{◌≡◌, List, length, sym, ◌∙◌, subst}
use Rattle.std.specs.Prelude.{None, Some, Err, is_some}
use Rattle.std.specs.List.{AllByRecursion}
use Rattle.cm_pkglib.specs.Counts.{seal_at}
use Rattle.cm_tree.specs.Trees.{manifest_of}
use Rattle.cm_tree.specs.declared.entry.Entry.{Entry}
use Rattle.cm_state.specs.Faults.{limit_fault}
use Rattle.cm_state.specs.Needed.{is_named}
use Rattle.cm_library.proofs.KeptPlaces.{joined_places}
use Rattle.cm_intake.specs.Ending.{HasBegun}
use Rattle.cm_intake.specs.Intake.{within_limits}
use Rattle.cm_intake.proofs.Began.{begun_sealed}
use Rattle.cm_intake.proofs.Ended.{ends_unmade}
use Rattle.cm_intake.proofs.Filled.{as_shown}
use Rattle.cm_intake.proofs.Scanned.{second_shown, by_files, by_job, rests_still}
use Rattle.cm_intake.proofs.taking.take_scanned.Goals as goal

pub returns-in-Err-clause-takes : goal.returns-in-Err-clause-takes
returns-in-Err-clause-takes g c files is =
    let d = g.D.Disk in
    let old = c.args.library.now in
    let shown = g.F.Folder.shows c.args.folder.now in
    let taken = within_limits c.args.«package» c.args.version (manifest_of files) old.state (Some (as_shown shown)) (limit_fault old.state old.end (length files)) in
    record {
      second = Some (as_shown shown);
      is_second = second_shown shown (g.F.Folder.faults c.args.folder.now) (g.F.Folder.faults c.args.folder.now);
      ends = ends_unmade d.reads d.may_leave d.moment d.left_since (record { first = Some files; second = Some (as_shown shown) }) taken old old
          (rests_still d.reads d.may_leave d.moment d.left_since g.met.D.Disk.only_now taken.changes old c.requires.settled c.tells.ensures.opens);
    }

pub returns-in-Err-begin-clause-takes : goal.returns-in-Err-begin-clause-takes
returns-in-Err-begin-clause-takes g c files is =
    let d = g.D.Disk in
    let old = c.args.library.now in
    let shown = g.F.Folder.shows c.args.folder.now in
    let copied : c.in-Ok.field-0.copy ≡ c.args.manifest.now = c.in-Ok.ensures.copy in
    record {
      second = Some (as_shown shown);
      is_second = second_shown shown (g.F.Folder.faults c.args.folder.now) (g.F.Folder.faults c.args.folder.now);
      ends = by_files d.reads d.may_leave d.moment d.left_since c.args.«package» c.args.version c.in-Ok.field-0.copy files (record { first = Some files; second = Some (as_shown shown) }) old c.begin.new.library (Err c.in-Err-begin.fault) (copied ∙ is)
          (c.in-Err-begin.ensures.refused (record { first = Some files; second = Some (as_shown shown) }));
    }

pub fill_and_end-requires-clause-sealed : goal.fill_and_end-requires-clause-sealed
fill_and_end-requires-clause-sealed g c =
    let old = c.args.library.now in
    let new = c.begin.new.library in
    let begun = c.in-Ok-begin.ensures.begun in
    let copied : c.in-Ok.field-0.copy ≡ c.args.manifest.now = c.in-Ok.ensures.copy in
    subst (λ (es : List Entry). AllByRecursion (λ (entry : Entry). is_some (seal_at new.seals entry.hash) ≡ is_named entry.hash.0 new.state) es) (copied ∙ sym c.entries-entries.ensures.value)
    (begun_sealed old.state new.state old.state.next c.args.«package» c.args.version c.in-Ok.field-0.copy (seal_at old.seals) (seal_at new.seals) c.requires.sealed begun.state begun.seals)

pub returns-clause-takes : goal.returns-clause-takes
returns-clause-takes g c files is =
    let d = g.D.Disk in
    let old = c.args.library.now in
    let begun = c.begin.new.library in
    let new = c.fill_and_end.new.library in
    let entries = c.entries-entries.result.now in
    let copied : c.in-Ok.field-0.copy ≡ c.args.manifest.now = c.in-Ok.ensures.copy in
    let same : c.in-Ok.field-0.copy ≡ entries = copied ∙ sym c.entries-entries.ensures.value in
    let has = subst (λ (es : List Entry). HasBegun d.reads d.may_leave d.moment d.left_since c.args.«package» c.args.version es c.in-Ok-begin.job old begun) same c.in-Ok-begin.ensures.begun in
    let free = subst (λ (es : List Entry). limit_fault old.state old.end (length es) ≡ None) same c.in-Ok-begin.ensures.free in
    let told = c.entries-entries.ensures.value ∙ is in
    let job = c.fill_and_end.ensures.ends in
    record {
      second = job.second;
      is_second = job.is_second;
      ends = by_job d.reads d.may_leave d.moment d.left_since c.args.«package» c.args.version entries files (record { first = Some files; second = job.second }) old new c.fill_and_end.result free told
          (job.ends c.args.«package» c.args.version files old told has);
    }

pub returns-clause-places : goal.returns-clause-places
returns-clause-places g c =
    let d = g.D.Disk in
    joined_places (d.reads c.args.library.now.disk) (d.reads c.begin.new.library.disk) (d.reads c.fill_and_end.new.library.disk) c.begin.ensures.places c.fill_and_end.ensures.places
