use Rattle.std.proofs.Common.{ap}
use Rattle.std.specs.Prelude.{Err}
use Rattle.cm_state.specs.declared.fault.LibFault.{LibFault}
use Rattle.cm_library.specs.Filing.{Seals}
use Rattle.cm_library.specs.Started.{without_file}
use Rattle.cm_intake.proofs.Going.{worked, kept}
use Rattle.cm_intake.proofs.Others.{seal_held, is_wrong, only_failed}
use Rattle.cm_intake.proofs.calls.seal.Goals as goal

pub returns-in-Ok-clause-keeps : goal.returns-in-Ok-clause-keeps
returns-in-Ok-clause-keeps g c =
    let d = g.D.Disk in
    let old = c.args.library.now in
    let new = c.seal.new.self in
    let job = c.args.job in
    let does = worked d.reads d.may_leave d.moment d.left_since (without_file job) (λ mid then. Seals d.reads job mid then c.seal.result) old new c.seal.result c.requires.settled c.seal.ensures.call in
    kept d.reads d.may_leave d.moment d.left_since job old new c.requires.settled c.tells.ensures.files c.seal.ensures.opens c.seal.ensures.places does.rows (seal_held d.reads job old new c.seal.result c.requires.may does)

pub returns-in-WrongBytes-clause-keeps : goal.returns-in-WrongBytes-clause-keeps
returns-in-WrongBytes-clause-keeps g c =
    let d = g.D.Disk in
    let old = c.args.library.now in
    let new = c.seal.new.self in
    let job = c.args.job in
    let does = worked d.reads d.may_leave d.moment d.left_since (without_file job) (λ mid then. Seals d.reads job mid then c.seal.result) old new c.seal.result c.requires.settled c.seal.ensures.call in
    kept d.reads d.may_leave d.moment d.left_since job old new c.requires.settled c.tells.ensures.files c.seal.ensures.opens c.seal.ensures.places does.rows (seal_held d.reads job old new c.seal.result c.requires.may does)

pub returns-in-WrongBytes-clause-sealed : goal.returns-in-WrongBytes-clause-sealed
returns-in-WrongBytes-clause-sealed g c was is bytes put =
    let d = g.D.Disk in
    let does = worked d.reads d.may_leave d.moment d.left_since (without_file c.args.job) (λ mid then. Seals {T = Unit {0}} d.reads c.args.job mid then (Err c.in-Err.fault)) c.args.library.now c.seal.new.self (Err c.in-Err.fault) c.requires.settled c.in-Err.ensures.call in
    is_wrong was c.in-Err.fault _ _ _ _ c.in-WrongBytes.is (does.failed.1 c.requires.may was is) bytes put

pub returns-in_default : goal.returns-in_default
returns-in_default g c =
    let d = g.D.Disk in
    let old = c.args.library.now in
    let new = c.seal.new.self in
    let job = c.args.job in
    let does = worked d.reads d.may_leave d.moment d.left_since (without_file job) (λ mid then. Seals d.reads job mid then c.seal.result) old new c.seal.result c.requires.settled c.seal.ensures.call in
    let failed = worked d.reads d.may_leave d.moment d.left_since (without_file job) (λ mid then. Seals {T = Unit {0}} d.reads job mid then (Err c.in-Err.fault)) old new (Err c.in-Err.fault) c.requires.settled c.in-Err.ensures.call in
    let disk = only_failed d.reads job old new c.in-Err.fault c.requires.may failed c.in_default.not-WrongBytes in
    record {
      keeps = kept d.reads d.may_leave d.moment d.left_since job old new c.requires.settled c.tells.ensures.files c.seal.ensures.opens c.seal.ensures.places does.rows (seal_held d.reads job old new c.seal.result c.requires.may does);
      sealed = tt;
      cause = record { later = c.seal.ensures.later; failed = c.in-Err.ensures.cause (ap (λ (fault : LibFault). Err fault) disk) };
    }
