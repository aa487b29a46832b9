use Rattle.cm_library.proofs.library.Library.leave_started.Goals as goal
use Rattle.std.proofs.Common.{ℕ, ◌≤◌, List, sym, subst}
use Rattle.cm_filelib.specs.declared.writing.Writing.{Writing}
use Rattle.cm_pkglib.specs.Counts.{sealed_of}
use Rattle.cm_library.specs.Kept.{pending_in}
use Rattle.cm_library.specs.Started.{AreStarted}
use Rattle.cm_library.proofs.StartedFiles.{files_given}

pub invariant_of-self : goal.invariant_of-self
invariant_of-self g c =
    let d = g.D.Disk in
    let s = c.self.inside in
    record {
      kept = c.self.invariant.kept;
      files = subst (λ (xs : List (ℕ × Writing)). AreStarted (d.reads s.disk) s.contents.state (λ hash. sealed_of s.counts hash) (pending_in s.contents.taken s.pending) xs) (sym c.leave_file.ensures.rest)
          (files_given (d.reads s.disk) s.contents.state (λ hash. sealed_of s.counts hash) (pending_in s.contents.taken s.pending) c.args.job s.started.items c.self.invariant.files);
      enough = subst (λ (n : ℕ). 256 ≤ n) (sym c.leave_file.ensures.capacity) c.self.invariant.enough;
    }
