use Rattle.std.proofs.Common.{inr, refl}
use Rattle.std.specs.Prelude.{Ok, Err}
use Rattle.cm_pkglib.specs.Counts.{seal_at}
use Rattle.cm_state.specs.Changes.{Finished}
use Rattle.cm_state.specs.Faults.{RefusesOr}
use Rattle.cm_contents.specs.Seals.{end_fault}
use Rattle.cm_intake.specs.declared.fault.IntakeFault.TheVariants.{Memory}
use Rattle.cm_intake.proofs.Ended.{only_unstored, not_disk, commits_done, commits_failed, commits_none}
use Rattle.cm_intake.proofs.Going.{ended}
use Rattle.cm_intake.proofs.ending.finish.Goals as goal

pub returns-in-Ok-clause-commits : goal.returns-in-Ok-clause-commits
returns-in-Ok-clause-commits g c =
    let d = g.D.Disk in
    let change = Finished c.args.job in
    let done = ended d.reads d.may_leave d.moment d.left_since (λ _. change) (λ mid answer. RefusesOr (end_fault (seal_at mid.seals) mid.state change) answer) c.args.library.now c.finish.new.self (Ok c.in-Ok.field-0) c.requires.settled c.in-Ok.ensures.call in
    commits_done d.reads d.may_leave d.moment d.left_since _ _ change (λ mid answer. RefusesOr (end_fault (seal_at mid.seals) mid.state change) answer) c.args.library.now c.finish.new.self c.requires.settled c.tells.ensures.files c.finish.ensures.opens c.in-Ok.field-0 tt done

pub returns-in-Disk-clause-commits : goal.returns-in-Disk-clause-commits
returns-in-Disk-clause-commits g c =
    let d = g.D.Disk in
    let change = Finished c.args.job in
    let done = ended d.reads d.may_leave d.moment d.left_since (λ _. change) (λ mid answer. RefusesOr (end_fault (seal_at mid.seals) mid.state change) answer) c.args.library.now c.finish.new.self (Err c.in-Err.fault) c.requires.settled c.in-Err.ensures.call in
    commits_failed d.reads d.may_leave d.moment d.left_since _ _ change (λ mid answer. RefusesOr (end_fault (seal_at mid.seals) mid.state change) answer) c.args.library.now c.finish.new.self c.requires.settled c.tells.ensures.files c.finish.ensures.opens c.in-Err.fault done

pub returns-in_default : goal.returns-in_default
returns-in_default g c =
    let d = g.D.Disk in
    let old = c.args.library.now in
    let new = c.finish.new.self in
    let change = Finished c.args.job in
    let done = ended d.reads d.may_leave d.moment d.left_since (λ _. change) (λ mid answer. RefusesOr (end_fault (seal_at mid.seals) mid.state change) answer) old new (Err c.in-Err.fault) c.requires.settled c.in-Err.ensures.call in
    record {
      commits = commits_none d.reads d.may_leave d.moment d.left_since (Unit {0}) (Unit {0}) change (λ mid answer. RefusesOr (end_fault (seal_at mid.seals) mid.state change) answer) old new c.requires.settled c.tells.ensures.files c.finish.ensures.opens Memory (c.in-Err.ensures.unchanged c.requires.settled c.in_default.not-Disk);
      kind = inr (refl, λ stored. c.in_default.not-Disk (only_unstored (Unit {0}) (seal_at old.seals) (seal_at done.mid.seals) old.state done.mid.state c.args.job c.in-Err.fault done.state c.requires.unfinished done.finds.seals done.answers stored));
      places = c.finish.ensures.places;
      later = c.finish.ensures.later;
      cause = λ is. absurd (not_disk is);
    }
