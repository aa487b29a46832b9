use Rattle.cm_log.proofs.Frames.{alone_only}
use Rattle.cm_library.specs.Purging.{IsFirm}
use Rattle.cm_library.proofs.Loose.{library_still}
use Rattle.cm_library.proofs.library.Library.next_in_store.Goals as goal

pub invariant_of-self : goal.invariant_of-self
invariant_of-self g c =
    let d = g.D.Disk in
    let s = c.self.inside in
    library_still d.reads d.may_leave d.moment d.left_since d.faults g.met.D.Disk.as_it_reads s.start.value s.disk s.log s.contents s.counts s.pending s.started.items _ c.args.self.now c.self.view_is c.requires.settled c.self.invariant
    c.next_in_folders.new.disk (alone_only (IsFirm s.contents.state) c.next_in_folders.ensures.only)
