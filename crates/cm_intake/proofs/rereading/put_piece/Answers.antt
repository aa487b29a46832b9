use Rattle.cm_intake.proofs.Going.{keeps_itself}
use Rattle.cm_intake.proofs.Reread.{puts_more}
use Rattle.cm_intake.proofs.rereading.put_piece.Goals as goal

pub returns-in-Ok-eq0-clause-keeps : goal.returns-in-Ok-eq0-clause-keeps
returns-in-Ok-eq0-clause-keeps g c =
    let d = g.D.Disk in
    keeps_itself d.reads d.may_leave d.moment d.left_since g.met.D.Disk.only_now c.args.job c.args.library.now c.requires.settled c.tells.ensures.opens

pub returns-in-Ok-put-clause-put : goal.returns-in-Ok-put-clause-put
returns-in-Ok-put-clause-put g c = puts_more c.args.job _ c.args.library.now.started c.put.new.library.started c.in-Ok-put.ensures.goes_on

pub returns-in-Err-clause-keeps : goal.returns-in-Err-clause-keeps
returns-in-Err-clause-keeps g c =
    let d = g.D.Disk in
    keeps_itself d.reads d.may_leave d.moment d.left_since g.met.D.Disk.only_now c.args.job c.args.library.now c.requires.settled c.tells.ensures.opens
