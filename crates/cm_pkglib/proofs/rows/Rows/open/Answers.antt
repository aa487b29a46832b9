use Rattle.std.proofs.Common.{◌∙◌, ap, sym, subst, arith, ◌+◌, ◌≤◌}
use Rattle.cm_pkglib.specs.InMemory.{RowsInMemory}
use Rattle.cm_pkglib.proofs.Steps.{may_open, opened_valid_behind, opened_sum}
use Rattle.cm_pkglib.proofs.rows.Rows.open.Goals as goal

pub invariant_of-self : goal.invariant_of-self
invariant_of-self c =
    let may = may_open _ c.args.job c.args.row.package c.args.row.version c.args.row.entries (rw (← c.self.view_is) at c.requires.free) in
    let old = c.self.invariant.has_room in
    let one = subst (λ (r : RowsInMemory). 1 ≤ r.room) (sym c.self.view_is) c.requires.room in
    rw (c.put_job.ensures.jobs, c.put_last.ensures.lasts, c.job_behind-self-inside.ensures) (record {
      valid = opened_valid_behind _ c.self.invariant.valid c.args.job c.args.row may;
      sum = ap (λ n. n + c.args.row.entries) c.self.invariant.sum ∙ sym (opened_sum (record { versions = c.self.inside.versions.items; jobs = c.self.inside.jobs.items; next = c.self.inside.next; lasts = c.self.inside.lasts.items }) c.args.job c.args.row);
      has_room = record { jobs = omega arith; lasts = omega arith; versions = omega (arith, old.versions, c.put_job.ensures.len) };
    })
