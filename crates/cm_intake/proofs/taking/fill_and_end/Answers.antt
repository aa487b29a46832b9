use Rattle.std.proofs.Common.{sym, ◌∙◌}
use Rattle.cm_library.proofs.KeptPlaces.{joined_places}
use Rattle.cm_intake.proofs.Ended.{ends_finished, ends_dropped, ends_unfilled, ends_undropped, ends_unfinished}
use Rattle.cm_intake.proofs.taking.fill_and_end.Goals as goal

pub returns-in-Ok-clause-ends : goal.returns-in-Ok-clause-ends
returns-in-Ok-clause-ends g c =
    let d = g.D.Disk in
    let old = c.args.library.now in
    let mid = c.fill.new.library in
    let fills = c.in-Ok-None.ensures.fills in
    record {
      second = fills.second;
      is_second = fills.is_second;
      ends = λ id version files first is begun. ends_finished d.reads d.may_leave d.moment d.left_since id version c.args.entries.now files c.args.job first old mid is begun c.fill.ensures.keeps c.requires.settled fills.second (Unit {0}) c.finish.new.library c.in-Ok.field-0 c.taken_of.result (sym c.in-Ok-None.field-0-is ∙ fills.cause) c.in-Ok.ensures.commits c.taken_of.ensures.files c.taken_of.ensures.bytes;
    }

pub returns-in-Ok-clause-places : goal.returns-in-Ok-clause-places
returns-in-Ok-clause-places g c =
    let d = g.D.Disk in
    joined_places (d.reads c.args.library.now.disk) (d.reads c.fill.new.library.disk) (d.reads c.finish.new.library.disk) c.fill.ensures.keeps.places c.finish.ensures.places

pub returns-in-Err-finish-clause-ends : goal.returns-in-Err-finish-clause-ends
returns-in-Err-finish-clause-ends g c =
    let d = g.D.Disk in
    let old = c.args.library.now in
    let mid = c.fill.new.library in
    let fills = c.in-Ok-None.ensures.fills in
    let filled = fills.filled c.in-Ok-None.field-0-is in
    record {
      second = fills.second;
      is_second = fills.is_second;
      ends = λ id version files first is begun. ends_unfinished d.reads d.may_leave d.moment d.left_since id version c.args.entries.now files c.args.job first old mid is begun c.fill.ensures.keeps c.requires.settled fills.second (Unit {0}) c.finish.new.library c.in-Err-finish.fault (sym c.in-Ok-None.field-0-is ∙ fills.cause) c.requires.manifest filled.0 filled.1 c.in-Err-finish.ensures.commits c.in-Err-finish.ensures.kind;
    }

pub returns-in-Err-finish-clause-places : goal.returns-in-Err-finish-clause-places
returns-in-Err-finish-clause-places g c =
    let d = g.D.Disk in
    joined_places (d.reads c.args.library.now.disk) (d.reads c.fill.new.library.disk) (d.reads c.finish.new.library.disk) c.fill.ensures.keeps.places c.finish.ensures.places

pub returns-in-Ok-drop_job-clause-ends : goal.returns-in-Ok-drop_job-clause-ends
returns-in-Ok-drop_job-clause-ends g c =
    let d = g.D.Disk in
    let old = c.args.library.now in
    let mid = c.fill.new.library in
    let fills = c.in-Ok-Some.ensures.fills in
    record {
      second = fills.second;
      is_second = fills.is_second;
      ends = λ id version files first is begun. ends_dropped d.reads d.may_leave d.moment d.left_since id version c.args.entries.now files c.args.job first old mid is begun c.fill.ensures.keeps c.requires.settled fills.second (Unit {0}) c.drop_job.new.library c.in-Ok-drop_job.field-0 c.in-Ok-Some.cause (sym c.in-Ok-Some.field-0-is ∙ fills.cause) c.in-Ok-drop_job.ensures.commits;
    }

pub returns-in-Err-drop_job-clause-ends : goal.returns-in-Err-drop_job-clause-ends
returns-in-Err-drop_job-clause-ends g c =
    let d = g.D.Disk in
    let old = c.args.library.now in
    let mid = c.fill.new.library in
    let fills = c.in-Ok-Some.ensures.fills in
    record {
      second = fills.second;
      is_second = fills.is_second;
      ends = λ id version files first is begun. ends_undropped d.reads d.may_leave d.moment d.left_since id version c.args.entries.now files c.args.job first old mid is begun c.fill.ensures.keeps c.requires.settled fills.second (Unit {0}) c.drop_job.new.library c.in-Err-drop_job.fault c.in-Ok-Some.cause (sym c.in-Ok-Some.field-0-is ∙ fills.cause) c.in-Err-drop_job.ensures.kind c.in-Err-drop_job.ensures.commits;
    }

pub returns-in-Err-clause-ends : goal.returns-in-Err-clause-ends
returns-in-Err-clause-ends g c =
    let d = g.D.Disk in
    let old = c.args.library.now in
    let mid = c.fill.new.library in
    let fills = c.in-Err.ensures.fills in
    record {
      second = fills.second;
      is_second = fills.is_second;
      ends = λ id version files first is begun. ends_unfilled d.reads d.may_leave d.moment d.left_since id version c.args.entries.now files c.args.job first old mid is begun c.fill.ensures.keeps c.requires.settled fills.second;
    }
