use Rattle.std.proofs.Common.{List, ℕ, subst}
use Rattle.std.specs.Prelude.{Some, OnOk}
use Rattle.std.specs.Option.{ForSome}
use Rattle.cm_disk.specs.Disk.{Files, Only}
use Rattle.cm_textlib.proofs.storing.store.Goals as goal

pub returns-clause-durable : goal.returns-clause-durable
returns-clause-durable g c =
    let d = g.D.Disk in
    subst (λ (q : List ℕ). OnOk c.write_whole.result (ForSome (d.reads c.args.disk.now) (λ (files : Files). Only (Some c.args.text.now) (d.may_leave c.write_whole.new.disk q))))
    c.text_at-place.ensures c.write_whole.ensures.durable
