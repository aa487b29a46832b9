use Rattle.std.proofs.Common.{◌≡◌, ◌-◌, length, take, arith}
use Rattle.std.specs.Prelude.{min}
use Rattle.cm_intake.proofs.Going.{keeps_itself, keeps_then}
use Rattle.cm_intake.proofs.Reread.{read_then, read_itself, room_in, fits_left, some_left, none_read, read_more, read_empty, read_ended, read_full, is_behind}
use Rattle.cm_intake.proofs.rereading.put_again.Goals as goal

pub loop-at-init : goal.loop-at-init
loop-at-init g c =
    let d = g.D.Disk in
    let old = c.args.library.now in
    record {
      so_far = none_read d.reads d.may_leave d.moment d.left_since ((g.F.Folder.shows c.args.folder.now).later c.args.n) c.args.job c.args.size old (keeps_itself d.reads d.may_leave d.moment d.left_since g.met.D.Disk.only_now c.args.job old c.requires.settled c.tells.ensures.opens);
      shown = read_itself (g.F.Folder.shows c.args.folder.now);
      folder_later = omega arith;
      later = omega arith;
    }

pub put_piece-requires-clause-room : goal.put_piece-requires-clause-room
put_piece-requires-clause-room g c =
    let s = c.loop-at.invariant.so_far in
    let empty = c.requires.empty in
    let piece = c.loop-at.piece in
    let room : length piece ≡ 65536 = omega (arith, c.loop-at.auto.piece, c.requires.piece) in
    let left : c.min-left.result ≡ min (c.args.size - c.loop-at.at) 65536 = omega (arith, c.min-left.ensures, c.from-in-loop-at.ensures) in
    room_in c.args.job empty.0 c.args.size s.got c.loop-at.library.started c.loop-at.at (length (take c.min-left.result piece)) (s.put empty.0 empty.1) s.long
    (fits_left c.loop-at.at c.args.size c.min-left.result piece (omega (arith, c.loop-at-test.true, c.from.ensures)) left room)

pub returns-in-Ok-eq0-clause-keeps : goal.returns-in-Ok-eq0-clause-keeps
returns-in-Ok-eq0-clause-keeps g c =
    let d = g.D.Disk in
    keeps_then d.reads d.may_leave d.moment d.left_since c.args.job c.args.library.now c.loop-at.library c.put_piece.new.library c.loop-at.invariant.so_far.keeps c.put_piece.ensures.keeps

pub returns-in-Ok-eq0-clause-put : goal.returns-in-Ok-eq0-clause-put
returns-in-Ok-eq0-clause-put g c =
    let d = g.D.Disk in
    let told = (g.F.Folder.shows c.args.folder.now).later c.args.n in
    let shows = (g.F.Folder.shows c.loop-at.folder).now c.args.n in
    let piece = c.loop-at.piece in
    let room : length piece ≡ 65536 = omega (arith, c.loop-at.auto.piece, c.requires.piece) in
    let left : c.min-left.result ≡ min (c.args.size - c.loop-at.at) 65536 = omega (arith, c.min-left.ensures, c.from-in-loop-at.ensures) in
    let some = some_left c.loop-at.at c.args.size c.min-left.result piece (omega (arith, c.loop-at-test.true, c.from.ensures)) left room in
    let now = read_empty d.reads d.may_leave d.moment d.left_since told c.args.job c.args.size c.args.library.now c.loop-at.library c.put_piece.new.library c.loop-at.at c.in-Ok-eq0.field-0 c.put_piece.new.room c.loop-at.invariant.so_far c.in-Ok-eq0.field-0-test
    c.put_piece.ensures.keeps c.put_piece.ensures.seals c.in-Ok-eq0.ensures.put in
    read_ended d.reads d.may_leave d.moment d.left_since told c.args.job c.args.size c.args.library.now c.put_piece.new.library c.loop-at.at now
    (is_behind told shows c.loop-at.at c.put_piece.new.room c.in-Ok-eq0.field-0 (c.loop-at.invariant.shown.now c.args.n c.requires.read) c.in-Ok-eq0.field-0-test (omega (arith, some, c.put_piece.auto.room)) c.in-Ok-eq0.ensures.bytes)

pub loop-at-preserved : goal.loop-at-preserved
loop-at-preserved g c =
    let d = g.D.Disk in
    let told = (g.F.Folder.shows c.args.folder.now).later c.args.n in
    let shows = (g.F.Folder.shows c.loop-at.folder).now c.args.n in
    let piece = c.loop-at.piece in
    let room : length piece ≡ 65536 = omega (arith, c.loop-at.auto.piece, c.requires.piece) in
    let left : c.min-left.result ≡ min (c.args.size - c.loop-at.at) 65536 = omega (arith, c.min-left.ensures, c.from-in-loop-at.ensures) in
    let fits = fits_left c.loop-at.at c.args.size c.min-left.result piece (omega (arith, c.loop-at-test.true, c.from.ensures)) left room in
    let before = c.loop-at.invariant.later in
    let after = c.put_piece.ensures.later in
    let folder_before = c.loop-at.invariant.folder_later in
    let folder_after = c.put_piece.ensures.folder_later in
    record {
      so_far = read_more d.reads d.may_leave d.moment d.left_since told shows c.args.job c.args.size c.args.library.now c.loop-at.library c.put_piece.new.library c.loop-at.at c.in-Ok.count c.put_piece.new.room c.loop-at.invariant.so_far
          (c.loop-at.invariant.shown.now c.args.n c.requires.read) c.in-Ok.ensures.fits (omega (arith, fits, c.put_piece.auto.room)) (omega (arith, c.in-Ok.count-test)) c.put_piece.ensures.keeps c.put_piece.ensures.seals c.in-Ok.ensures.bytes c.in-Ok.ensures.put;
      shown = read_then (g.F.Folder.shows c.args.folder.now) (g.F.Folder.shows c.loop-at.folder) (g.F.Folder.shows c.put_piece.new.folder) c.loop-at.invariant.shown c.put_piece.ensures.shown;
      folder_later = omega (arith, folder_before, folder_after);
      later = omega (arith, before, after);
    }

pub returns-in-Err-clause-keeps : goal.returns-in-Err-clause-keeps
returns-in-Err-clause-keeps g c =
    let d = g.D.Disk in
    keeps_then d.reads d.may_leave d.moment d.left_since c.args.job c.args.library.now c.loop-at.library c.put_piece.new.library c.loop-at.invariant.so_far.keeps c.put_piece.ensures.keeps

pub returns-clause-put : goal.returns-clause-put
returns-clause-put g c =
    let d = g.D.Disk in
    read_full d.reads d.may_leave d.moment d.left_since ((g.F.Folder.shows c.args.folder.now).later c.args.n) c.args.job c.args.size c.args.library.now c.loop-at.library c.loop-at.at c.loop-at.invariant.so_far (omega (arith, c.loop-at-test.false, c.from.ensures))
