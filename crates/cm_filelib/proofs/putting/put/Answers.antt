use Rattle.std.proofs.Common.{refl, sym, ◌∙◌, arith}
use Rattle.std.proofs.lemmas.Option.{same_Some}
use Rattle.cm_disk.proofs.Puts.{told_before}
use Rattle.cm_filelib.specs.Stored.{appended}
use Rattle.cm_filelib.specs.Writings.{place_of}
use Rattle.cm_filelib.proofs.Adding.{unchanged, appends_ok, appends_err, ends_at, writes_on}
use Rattle.cm_filelib.proofs.putting.put.Goals as goal

pub returns-then-offset-writing-clause-work : goal.returns-then-offset-writing-clause-work
returns-then-offset-writing-clause-work g c = unchanged (g.D.Disk.reads c.args.disk.now) (place_of c.args.writing.now) (appended c.args.bytes.now) _

pub returns-then-offset-bytes-clause-work : goal.returns-then-offset-bytes-clause-work
returns-then-offset-bytes-clause-work g c = unchanged (g.D.Disk.reads c.args.disk.now) (place_of c.args.writing.now) (appended c.args.bytes.now) _

pub write_at-requires-clause-within : goal.write_at-requires-clause-within
write_at-requires-clause-within g c x told =
    omega (arith, ends_at x c.args.writing.now c.file_at-place.result c.args.offset c.file_at-place.ensures c.if-offset-writing.false (c.requires.stands x told))

pub returns-in-Ok-clause-work : goal.returns-in-Ok-clause-work
returns-in-Ok-clause-work g c =
    appends_ok (g.D.Disk.reads c.args.disk.now) (g.D.Disk.reads c.write_at.new.self) c.file_at-place.result (place_of c.args.writing.now) c.args.bytes.now c.args.offset _ c.file_at-place.ensures
    (λ files told. ends_at files c.args.writing.now c.file_at-place.result c.args.offset c.file_at-place.ensures c.if-offset-writing.false (c.requires.stands files told)) c.in-Ok.ensures.work.ok c.write_at.ensures.work.silent

pub returns-in-Ok-clause-stands : goal.returns-in-Ok-clause-stands
returns-in-Ok-clause-stands g c x told =
    let before = told_before (g.D.Disk.reads c.args.disk.now) (g.D.Disk.reads c.write_at.new.self) c.write_at.ensures.work.silent x told in
    writes_on before.0 x c.args.writing.now _ c.file_at-place.result c.args.bytes.now c.args.offset c.file_at-place.ensures refl c.if-offset-writing.false (c.requires.stands before.0 before.1)
    (same_Some _ x (sym (c.in-Ok.ensures.work.ok before.0 before.1) ∙ told)) refl c.feed.ensures.fed

pub returns-in-Err-clause-work : goal.returns-in-Err-clause-work
returns-in-Err-clause-work g c =
    appends_err (g.D.Disk.reads c.args.disk.now) (g.D.Disk.reads c.write_at.new.self) c.file_at-place.result (place_of c.args.writing.now) c.args.bytes.now c.args.offset _ c.file_at-place.ensures
    (λ files told. ends_at files c.args.writing.now c.file_at-place.result c.args.offset c.file_at-place.ensures c.if-offset-writing.false (c.requires.stands files told)) c.in-Err.ensures.work.err c.write_at.ensures.work.silent
