use Rattle.std.proofs.Common.{List, ℕ, subst}
use Rattle.std.specs.Option.{ForSome}
use Rattle.cm_disk.specs.Disk.{Files, Only}
use Rattle.cm_textlib.specs.Places.{topology_place}
use Rattle.cm_textlib.proofs.Loaded.{on_any}
use Rattle.cm_textlib.proofs.loading.load.Goals as goal

pub returns-clause-durable : goal.returns-clause-durable
returns-clause-durable g c =
    let d = g.D.Disk in
    let place = topology_place c.args.number in
    let place_is = c.text_at-place.ensures in
    on_any c.load_sized.result (ForSome (d.reads c.args.disk.now) (λ (files : Files). Only (files place) (d.may_leave c.load_sized.new.disk place)))
    (λ x told. subst (λ (q : List ℕ). Only (x q) (d.may_leave c.load_sized.new.disk q)) place_is
    (λ left l. c.in_ok-sync.ensures.durable x told left (c.size.ensures.stop c.text_at-place.result left (c.load_sized.ensures.only.stop c.text_at-place.result left l))))
