use Rattle.std.proofs.Common.{◌≡◌, ℕ, ◌≤◌, [], List, Some, length, refl, sym, ap, ◌∙◌, subst, arith}
use Rattle.std.specs.List.{slice_get}
use Rattle.cm_tree.specs.declared.entry.Entry.{Entry}
use Rattle.cm_tree.specs.Trees.{file_paths}
use Rattle.cm_tree.specs.Folders.{Shown}
use Rattle.cm_tree.specs.Scans.{Scans}
use Rattle.cm_tree.proofs.Shows.{stays_self}
use Rattle.cm_tree.proofs.Walked.{walked_start, walked_read, length_paths, path_has, read_has, may_walk, may_turn, turned, any_err}
use Rattle.cm_tree.proofs.Scanned.{stays_scanned, scans_all, scanned_push, scanned_manifest}
use Rattle.cm_tree.proofs.scanning.scan_of_room.Goals as goal

pub loop-n-init : goal.loop-n-init
loop-n-init g c =
    let first : Shown = g.F.Folder.shows c.args.folder.now in
    record {
      scanned = record {
        files = [];
        walked = walked_start c.args.most_bytes first first (stays_self first);
        entries_are = c.new-entries.ensures.items;
        taken_are = c.new-taken.ensures;
        number = refl;
      };
      later = omega arith;
    }

pub of-requires : goal.of-requires
of-requires g c =
    scanned_manifest c.args.most_bytes (g.F.Folder.shows c.args.folder.now) (g.F.Folder.shows c.loop-n.folder) c.loop-n.entries.items c.loop-n.taken c.loop-n.n c.loop-n.invariant.scanned
    (g.met.F.Folder.rising c.args.folder.now) (omega (arith, c.requires.most, c.loop-n-test.true)) (omega arith)

pub returns-in-Ok-None-clause-manifest : goal.returns-in-Ok-None-clause-manifest
returns-in-Ok-None-clause-manifest g c =
    let first : Shown = g.F.Folder.shows c.args.folder.now in
    let cur : Shown = g.F.Folder.shows c.loop-n.folder in
    let le : length first.paths ≤ length c.loop-n.invariant.scanned.files =
    omega (arith, ap (λ (ps : List (List ℕ)). length ps) c.loop-n.invariant.scanned.walked.paths, rw c.in-Ok-None.field-0-is at c.in-Ok-None.ensures.exact, c.loop-n.invariant.scanned.number) in
    subst (λ (es : List Entry). Scans c.args.most_files c.args.most_bytes first es) (sym c.of.ensures)
    (scans_all c.args.most_files c.args.most_bytes first cur c.loop-n.entries.items c.loop-n.taken c.loop-n.n c.loop-n.invariant.scanned (g.met.F.Folder.rising c.args.folder.now) (omega (arith, c.requires.most, c.loop-n-test.true)) (omega arith) le c.requires.few)

pub returns-in-Ok-None-clause-read : goal.returns-in-Ok-None-clause-read
returns-in-Ok-None-clause-read g c =
    let first : Shown = g.F.Folder.shows c.args.folder.now in
    let new : Shown = g.F.Folder.shows c.next_path.new.folder in
    let s = stays_scanned c.args.most_bytes first (g.F.Folder.shows c.loop-n.folder) new c.loop-n.entries.items c.loop-n.taken c.loop-n.n c.loop-n.invariant.scanned c.in-Ok-None.ensures.same in
    let le : length first.paths ≤ length s.files =
    omega (arith, ap (λ (ps : List (List ℕ)). length ps) c.loop-n.invariant.scanned.walked.paths, rw c.in-Ok-None.field-0-is at c.in-Ok-None.ensures.exact, c.loop-n.invariant.scanned.number) in
    walked_read c.args.most_bytes first new s.files s.walked le

pub returns-in-Err-clause-fault : goal.returns-in-Err-clause-fault
returns-in-Err-clause-fault g c =
    let s = c.loop-n.invariant.scanned in
    path_has c.args.most_files c.args.most_bytes (g.F.Folder.shows c.args.folder.now) (g.F.Folder.shows c.loop-n.folder) s.files c.loop-n.taken c.loop-n.n c.in-Err.fault
    s.walked (sym s.number) c.requires.few s.taken_are c.in-Err.ensures.exact

pub returns-in-Err-clause-failed : goal.returns-in-Err-clause-failed
returns-in-Err-clause-failed g c =
    let first : Shown = g.F.Folder.shows c.args.folder.now in
    let new : Shown = g.F.Folder.shows c.next_path.new.folder in
    let s = stays_scanned c.args.most_bytes first (g.F.Folder.shows c.loop-n.folder) new c.loop-n.entries.items c.loop-n.taken c.loop-n.n c.loop-n.invariant.scanned c.in-Err.ensures.same in
    may_walk c.args.most_bytes first new s.files s.walked

pub returns-in-Err-hashed_file-clause-fault : goal.returns-in-Err-hashed_file-clause-fault
returns-in-Err-hashed_file-clause-fault g c =
    let first : Shown = g.F.Folder.shows c.args.folder.now in
    let mid : Shown = g.F.Folder.shows c.next_path.new.folder in
    let s = stays_scanned c.args.most_bytes first (g.F.Folder.shows c.loop-n.folder) mid c.loop-n.entries.items c.loop-n.taken c.loop-n.n c.loop-n.invariant.scanned c.in-Ok-Some.ensures.same in
    let exact = rw c.in-Ok-Some.field-0-is at c.in-Ok-Some.ensures.exact in
    let at : slice_get mid.paths c.loop-n.n ≡ Some c.in-Ok-Some.path = ap (λ (ps : List (List ℕ)). slice_get ps c.loop-n.n) c.in-Ok-Some.ensures.same.paths ∙ exact.0 in
    let good = exact.1.is (file_paths s.files) s.taken_are (length_paths s.files ∙ s.number) in
    read_has c.args.most_files c.args.most_bytes first mid s.files c.in-Ok-Some.path c.loop-n.n c.in-Err-hashed_file.fault s.walked (sym s.number) c.requires.few at good.0 c.in-Err-hashed_file.ensures.fault

pub returns-in-Err-hashed_file-clause-failed : goal.returns-in-Err-hashed_file-clause-failed
returns-in-Err-hashed_file-clause-failed g c =
    let first : Shown = g.F.Folder.shows c.args.folder.now in
    let mid : Shown = g.F.Folder.shows c.next_path.new.folder in
    let s = stays_scanned c.args.most_bytes first (g.F.Folder.shows c.loop-n.folder) mid c.loop-n.entries.items c.loop-n.taken c.loop-n.n c.loop-n.invariant.scanned c.in-Ok-Some.ensures.same in
    may_turn first mid (g.F.Folder.shows c.hashed_file.new.folder) c.loop-n.n (may_walk c.args.most_bytes first mid s.files s.walked) c.in-Err-hashed_file.ensures.failed

pub returns-in_err-push-clause-failed : goal.returns-in_err-push-clause-failed
returns-in_err-push-clause-failed g c =
    let first : Shown = g.F.Folder.shows c.args.folder.now in
    let mid : Shown = g.F.Folder.shows c.next_path.new.folder in
    let new : Shown = g.F.Folder.shows c.hashed_file.new.folder in
    let s = stays_scanned c.args.most_bytes first (g.F.Folder.shows c.loop-n.folder) mid c.loop-n.entries.items c.loop-n.taken c.loop-n.n c.loop-n.invariant.scanned c.in-Ok-Some.ensures.same in
    any_err c.from_residual.result (may_turn first mid new c.loop-n.n (may_walk c.args.most_bytes first mid s.files s.walked) (turned c.loop-n.n mid new c.in-Ok.ensures.read))

pub loop-n-preserved : goal.loop-n-preserved
loop-n-preserved g c =
    let first : Shown = g.F.Folder.shows c.args.folder.now in
    let mid : Shown = g.F.Folder.shows c.next_path.new.folder in
    let new : Shown = g.F.Folder.shows c.hashed_file.new.folder in
    let s = stays_scanned c.args.most_bytes first (g.F.Folder.shows c.loop-n.folder) mid c.loop-n.entries.items c.loop-n.taken c.loop-n.n c.loop-n.invariant.scanned c.in-Ok-Some.ensures.same in
    let exact = rw c.in-Ok-Some.field-0-is at c.in-Ok-Some.ensures.exact in
    let at : slice_get mid.paths c.loop-n.n ≡ Some c.in-Ok-Some.path = ap (λ (ps : List (List ℕ)). slice_get ps c.loop-n.n) c.in-Ok-Some.ensures.same.paths ∙ exact.0 in
    record {
      scanned = scanned_push c.args.most_bytes first mid new c.loop-n.entries.items c.push.new.self.items c.loop-n.taken c.next_path.new.taken c.loop-n.n c.in-Ok-Some.path c.in-Ok.found.0 c.in-Ok.found.1.0 s
          at exact.1 (rw c.in-Ok-Some.field-0-is at c.in-Ok-Some.ensures.taken) c.in-Ok.ensures.hash c.in-Ok.ensures.read c.in_ok-push.ensures.items;
      later = omega (arith, c.loop-n.invariant.later, c.in-Ok-Some.ensures.later, c.in-Ok.ensures.later);
    }

pub of-requires-2 : goal.of-requires-2
of-requires-2 g c =
    scanned_manifest c.args.most_bytes (g.F.Folder.shows c.args.folder.now) (g.F.Folder.shows c.loop-n.folder) c.loop-n.entries.items c.loop-n.taken c.loop-n.n c.loop-n.invariant.scanned
    (g.met.F.Folder.rising c.args.folder.now) (omega (arith, c.requires.most)) (omega arith)

pub returns-clause-manifest : goal.returns-clause-manifest
returns-clause-manifest g c =
    let first : Shown = g.F.Folder.shows c.args.folder.now in
    let cur : Shown = g.F.Folder.shows c.loop-n.folder in
    let le : length first.paths ≤ length c.loop-n.invariant.scanned.files = omega (arith, c.loop-n.invariant.scanned.number, c.requires.few, c.loop-n-test.false) in
    subst (λ (es : List Entry). Scans c.args.most_files c.args.most_bytes first es) (sym c.of-2.ensures)
    (scans_all c.args.most_files c.args.most_bytes first cur c.loop-n.entries.items c.loop-n.taken c.loop-n.n c.loop-n.invariant.scanned (g.met.F.Folder.rising c.args.folder.now) (omega (arith, c.requires.most)) (omega arith) le c.requires.few)

pub returns-clause-read : goal.returns-clause-read
returns-clause-read g c =
    let first : Shown = g.F.Folder.shows c.args.folder.now in
    let s = c.loop-n.invariant.scanned in
    walked_read c.args.most_bytes first (g.F.Folder.shows c.loop-n.folder) s.files s.walked (omega (arith, s.number, c.requires.few, c.loop-n-test.false))
