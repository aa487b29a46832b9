use Rattle.std.proofs.Common.{rules, ◌≡◌, sym, ◌∙◌}
use Rattle.cm_filelib.proofs.Adding.{kept_by}
use Rattle.cm_filelib.proofs.Wholes.{is_sure}
use Rattle.cm_filelib.proofs.putting.seal.Goals as goal

pub returns-clause-kept : goal.returns-clause-kept
returns-clause-kept g c x told =
    let before = sym c.sync.ensures.same ∙ told in
    let w = c.requires.stands x before in
    let done = c.done-put.ensures.hash w.bytes w.put.fed in
    let named : c.done-put.result.1.0 ≡ c.args.writing.hash.0 = search rules in
    kept_by x (g.D.Disk.may_leave c.sync.new.self) c.file_at.result c.args.writing.hash.0 w.bytes c.args.writing.size c.file_at.ensures w.reads
    (sym done.1 ∙ named) (sym done.0 ∙ c.if-put-from.false ∙ c.from.ensures) (c.in_ok-sync.ensures.durable x before)

pub returns-clause-sure : goal.returns-clause-sure
returns-clause-sure g c x told = is_sure x (g.D.Disk.may_leave c.sync.new.self) c.args.writing.hash.0 c.args.writing.size (returns-clause-kept g c x told)
