use Rattle.std.proofs.Common.{◌∙◌, ap}
use Rattle.std.specs.Prelude.{is_some}
use Rattle.cm_pkglib.specs.Counts.{seal_at}
use Rattle.cm_state.specs.State.{State, held_by_job}
use Rattle.cm_intake.proofs.Going.{keeps_then}
use Rattle.cm_intake.proofs.Reread.{starts_empty, may_seal, reads_again}
use Rattle.cm_intake.proofs.rereading.store_again.Goals as goal

pub put_again-requires-clause-empty : goal.put_again-requires-clause-empty
put_again-requires-clause-empty g c = (c.args.hash, starts_empty c.args.job c.args.hash c.args.size _ c.args.library.now.started c.start.new.library.started c.requires.wanted c.in-Ok.ensures.started)

pub returns-in-Err-put_again-clause-keeps : goal.returns-in-Err-put_again-clause-keeps
returns-in-Err-put_again-clause-keeps g c =
    let d = g.D.Disk in
    keeps_then d.reads d.may_leave d.moment d.left_since c.args.job c.args.library.now c.start.new.library c.put_again.new.library c.start.ensures.keeps c.put_again.ensures.keeps

pub seal-requires-clause-may : goal.seal-requires-clause-may
seal-requires-clause-may g c =
    let told = (g.F.Folder.shows c.args.folder.now).later c.args.n in
    let first = c.start.new.library in
    let mid = c.put_again.new.library in
    let empty = starts_empty c.args.job c.args.hash c.args.size _ c.args.library.now.started first.started c.requires.wanted c.in-Ok.ensures.started in
    may_seal told c.args.job c.args.hash c.args.size mid.state first.started mid.started c.in-Ok-put_again.ensures.put empty
    (ap (λ (s : State). is_some (held_by_job c.args.job s.jobs)) (c.put_again.ensures.keeps.rows.state ∙ c.start.ensures.keeps.rows.state) ∙ c.requires.unfinished)

pub returns-in-Ok-seal-clause-keeps : goal.returns-in-Ok-seal-clause-keeps
returns-in-Ok-seal-clause-keeps g c =
    let d = g.D.Disk in
    let old = c.args.library.now in
    let mid = c.put_again.new.library in
    keeps_then d.reads d.may_leave d.moment d.left_since c.args.job old mid c.seal.new.library
    (keeps_then d.reads d.may_leave d.moment d.left_since c.args.job old c.start.new.library mid c.start.ensures.keeps c.put_again.ensures.keeps) c.seal.ensures.keeps

pub returns-in-Ok-seal-clause-again : goal.returns-in-Ok-seal-clause-again
returns-in-Ok-seal-clause-again g c =
    let told = (g.F.Folder.shows c.args.folder.now).later c.args.n in
    let old = c.args.library.now in
    let first = c.start.new.library in
    let mid = c.put_again.new.library in
    let empty = starts_empty c.args.job c.args.hash c.args.size _ old.started first.started c.requires.wanted c.in-Ok.ensures.started in
    reads_again told c.args.job c.args.hash c.args.size first.started mid.started (seal_at old.seals) (seal_at mid.seals) (seal_at c.seal.new.library.seals) c.in-Ok-seal.got c.in-Ok-put_again.ensures.put empty
    (ap seal_at (c.put_again.ensures.seals ∙ c.start.ensures.seals)) c.in-Ok-seal.ensures.sealed

pub returns-in-Err-seal-clause-keeps : goal.returns-in-Err-seal-clause-keeps
returns-in-Err-seal-clause-keeps g c =
    let d = g.D.Disk in
    let old = c.args.library.now in
    let mid = c.put_again.new.library in
    keeps_then d.reads d.may_leave d.moment d.left_since c.args.job old mid c.seal.new.library
    (keeps_then d.reads d.may_leave d.moment d.left_since c.args.job old c.start.new.library mid c.start.ensures.keeps c.put_again.ensures.keeps) c.seal.ensures.keeps
