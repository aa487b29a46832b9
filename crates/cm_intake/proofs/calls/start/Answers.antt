use Rattle.std.specs.Prelude.{Ok}
use Rattle.cm_library.specs.Filing.{Starts}
use Rattle.cm_library.specs.Started.{without_file}
use Rattle.cm_intake.proofs.Others.{start_held}
use Rattle.cm_intake.proofs.Going.{worked, kept}
use Rattle.cm_intake.proofs.calls.start.Goals as goal

pub returns-in-Ok-clause-keeps : goal.returns-in-Ok-clause-keeps
returns-in-Ok-clause-keeps g c =
    let d = g.D.Disk in
    let old = c.args.library.now in
    let new = c.start_file.new.self in
    let job = c.args.job in
    let does = worked d.reads d.may_leave d.moment d.left_since (without_file job) (λ mid then. Starts d.reads job c.args.hash mid then c.start_file.result) old new c.start_file.result c.requires.settled c.start_file.ensures.call in
    kept d.reads d.may_leave d.moment d.left_since job old new c.requires.settled c.tells.ensures.files c.start_file.ensures.opens c.start_file.ensures.places does.rows (start_held d.reads job c.args.hash old new c.start_file.result c.requires.may does)

pub returns-in-Ok-clause-started : goal.returns-in-Ok-clause-started
returns-in-Ok-clause-started g c =
    let d = g.D.Disk in
    (worked d.reads d.may_leave d.moment d.left_since (without_file c.args.job) (λ mid then. Starts d.reads c.args.job c.args.hash mid then (Ok c.in-Ok.field-0)) c.args.library.now c.start_file.new.self (Ok c.in-Ok.field-0) c.requires.settled c.in-Ok.ensures.call).started

pub returns-in-Err-clause-keeps : goal.returns-in-Err-clause-keeps
returns-in-Err-clause-keeps g c =
    let d = g.D.Disk in
    let old = c.args.library.now in
    let new = c.start_file.new.self in
    let job = c.args.job in
    let does = worked d.reads d.may_leave d.moment d.left_since (without_file job) (λ mid then. Starts d.reads job c.args.hash mid then c.start_file.result) old new c.start_file.result c.requires.settled c.start_file.ensures.call in
    kept d.reads d.may_leave d.moment d.left_since job old new c.requires.settled c.tells.ensures.files c.start_file.ensures.opens c.start_file.ensures.places does.rows (start_held d.reads job c.args.hash old new c.start_file.result c.requires.may does)
