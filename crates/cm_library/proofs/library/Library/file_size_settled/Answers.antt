use Rattle.std.specs.Prelude.{vec_capacity}
use Rattle.cm_library.proofs.SettledCalls.{read_alone}
use Rattle.cm_library.proofs.library.Library.file_size_settled.Goals as goal

pub invariant_of-self : goal.invariant_of-self
invariant_of-self g c =
    let d = g.D.Disk in
    let s = c.self.inside in
    read_alone d.reads d.may_leave d.moment d.left_since g.met.D.Disk.as_it_reads s.start.value s.disk s.log s.contents s.counts s.pending s.started.items (vec_capacity s.started) c.args.self.now c.self.view_is c.requires.settled c.self.invariant c.file_size.new.disk c.file_size.ensures.same c.file_size.ensures.stop
