use Rattle.cm_site.specs.Runs.{beside, fed, sourced}
use Rattle.cm_top.proofs.Lines.{not_open}
use Rattle.cm_top.proofs.running.answer_opened.Goals as goal

pub returns-in-Err : goal.returns-in-Err
returns-in-Err g c =
    let outside = beside (sourced g.F.Folder.shows g.F.Folder.faults c.args.folder.now) (fed g.S.Source.left g.S.Source.faults c.args.input.now) in
    not_open _ _ _ _ _ outside outside c.args.minute c.in-Err.reply _ _ (λ needs. c.in-Err.ensures.refused needs outside outside c.args.minute) c.args.line.now c.requires.no_init

pub returns : goal.returns
returns g c = rw c.close.ensures (rw c.in-Ok.ensures.start at c.command-reply.ensures)
