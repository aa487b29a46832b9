use Rattle.std.proofs.Common.{ap}
use Rattle.std.specs.Prelude.{Ok, Err}
use Rattle.cm_pkglib.specs.Counts.{seal_at}
use Rattle.cm_state.specs.Changes.{Dropped}
use Rattle.cm_state.specs.Faults.{RefusesOr}
use Rattle.cm_state.specs.declared.fault.LibFault.{LibFault}
use Rattle.cm_contents.specs.Seals.{end_fault}
use Rattle.cm_intake.proofs.Ended.{only_disk, commits_done, commits_failed}
use Rattle.cm_intake.proofs.Going.{ended}
use Rattle.cm_intake.proofs.ending.drop_job.Goals as goal

pub returns-in-Ok-clause-commits : goal.returns-in-Ok-clause-commits
returns-in-Ok-clause-commits g c =
    let d = g.D.Disk in
    let change = Dropped c.args.job in
    let done = ended d.reads d.may_leave d.moment d.left_since (λ _. change) (λ mid answer. RefusesOr (end_fault (seal_at mid.seals) mid.state change) answer) c.args.library.now c.drop_job.new.self (Ok c.in-Ok.field-0) c.requires.settled c.in-Ok.ensures.call in
    commits_done d.reads d.may_leave d.moment d.left_since _ _ change (λ mid answer. RefusesOr (end_fault (seal_at mid.seals) mid.state change) answer) c.args.library.now c.drop_job.new.self c.requires.settled c.tells.ensures.files c.drop_job.ensures.opens c.in-Ok.field-0 tt done

pub returns-in-Err-clause-commits : goal.returns-in-Err-clause-commits
returns-in-Err-clause-commits g c =
    let d = g.D.Disk in
    let change = Dropped c.args.job in
    let done = ended d.reads d.may_leave d.moment d.left_since (λ _. change) (λ mid answer. RefusesOr (end_fault (seal_at mid.seals) mid.state change) answer) c.args.library.now c.drop_job.new.self (Err c.in-Err.field-0) c.requires.settled c.in-Err.ensures.call in
    commits_failed d.reads d.may_leave d.moment d.left_since _ _ change (λ mid answer. RefusesOr (end_fault (seal_at mid.seals) mid.state change) answer) c.args.library.now c.drop_job.new.self c.requires.settled c.tells.ensures.files c.drop_job.ensures.opens c.in-Err.field-0 done

pub returns-in-Err-clause-cause : goal.returns-in-Err-clause-cause
returns-in-Err-clause-cause g c is =
    let d = g.D.Disk in
    let change = Dropped c.args.job in
    let done = ended d.reads d.may_leave d.moment d.left_since (λ _. change) (λ mid answer. RefusesOr (end_fault (seal_at mid.seals) mid.state change) answer) c.args.library.now c.drop_job.new.self (Err c.in-Err.field-0) c.requires.settled c.in-Err.ensures.call in
    let disk = only_disk _ (seal_at done.mid.seals) c.args.library.now.state done.mid.state c.args.job c.in-Err.field-0 done.state c.requires.unfinished done.answers in
    c.in-Err.ensures.cause (ap (λ (fault : LibFault). Err fault) disk)
