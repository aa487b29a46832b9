use Rattle.std.specs.Prelude.{Ok}
use Rattle.cm_library.specs.Filing.{Puts}
use Rattle.cm_library.specs.Started.{without_file}
use Rattle.cm_intake.proofs.Others.{put_held}
use Rattle.cm_intake.proofs.Going.{worked, kept}
use Rattle.cm_intake.proofs.calls.put.Goals as goal

pub returns-in-Ok-clause-keeps : goal.returns-in-Ok-clause-keeps
returns-in-Ok-clause-keeps g c =
    let d = g.D.Disk in
    let old = c.args.library.now in
    let new = c.put.new.self in
    let job = c.args.job in
    let does = worked d.reads d.may_leave d.moment d.left_since (without_file job) (λ mid then. Puts d.reads job c.args.offset c.args.bytes.now mid then c.put.result) old new c.put.result c.requires.settled c.put.ensures.call in
    kept d.reads d.may_leave d.moment d.left_since job old new c.requires.settled c.tells.ensures.files c.put.ensures.opens c.put.ensures.places does.rows (put_held d.reads job c.args.offset c.args.bytes.now old new c.put.result c.requires.may does)

pub returns-in-Ok-clause-goes_on : goal.returns-in-Ok-clause-goes_on
returns-in-Ok-clause-goes_on g c =
    let d = g.D.Disk in
    (worked d.reads d.may_leave d.moment d.left_since (without_file c.args.job) (λ mid then. Puts d.reads c.args.job c.args.offset c.args.bytes.now mid then (Ok c.in-Ok.field-0)) c.args.library.now c.put.new.self (Ok c.in-Ok.field-0) c.requires.settled c.in-Ok.ensures.call).goes_on

pub returns-in-Err-clause-keeps : goal.returns-in-Err-clause-keeps
returns-in-Err-clause-keeps g c =
    let d = g.D.Disk in
    let old = c.args.library.now in
    let new = c.put.new.self in
    let job = c.args.job in
    let does = worked d.reads d.may_leave d.moment d.left_since (without_file job) (λ mid then. Puts d.reads job c.args.offset c.args.bytes.now mid then c.put.result) old new c.put.result c.requires.settled c.put.ensures.call in
    kept d.reads d.may_leave d.moment d.left_since job old new c.requires.settled c.tells.ensures.files c.put.ensures.opens c.put.ensures.places does.rows (put_held d.reads job c.args.offset c.args.bytes.now old new c.put.result c.requires.may does)
