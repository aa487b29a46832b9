use Rattle.std.proofs.Common.{refl}
use Rattle.cm_top.proofs.Meets.{meets_read, meets_refused}
use Rattle.cm_top.proofs.running.run_words.Goals as goal

pub returns-in-Ok : goal.returns-in-Ok
returns-in-Ok g c = meets_read _ _ _ _ _ _ _ _ _ _ _ _ _ _ c.in-Ok.line c.answer-reply.result c.in-Ok.ensures.ok c.answer-reply.ensures c.show.ensures

pub returns-in-Err : goal.returns-in-Err
returns-in-Err g c = meets_refused _ _ _ _ _ _ _ _ _ _ _ _ _ _ c.in-Err.fault c.in-Err.ensures.err refl c.show-in-Err.ensures
