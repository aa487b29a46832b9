use Rattle.std.proofs.Common.{◌∙◌, sym, arith}
use Rattle.cm_pkglib.proofs.Steps.{job_absent, done_valid, done_sum}
use Rattle.cm_pkglib.proofs.rows.Rows.finish.Goals as goal

pub put_row-requires-clause-absent : goal.put_row-requires-clause-absent
put_row-requires-clause-absent c = job_absent _ c.self.invariant.valid c.args.job c.take_job-row.result c.take_job-row.ensures.row

pub invariant_of-self : goal.invariant_of-self
invariant_of-self c =
    rw (c.put_row.ensures.rows, c.take_job-row.ensures.rest) (record {
      valid = done_valid _ c.self.invariant.valid c.args.job c.take_job-row.result c.take_job-row.ensures.row;
      sum = c.self.invariant.sum ∙ sym (done_sum _ c.self.invariant.valid c.args.job c.take_job-row.result c.take_job-row.ensures.row);
      has_room = record { jobs = omega arith; lasts = omega arith; versions = omega arith };
    })
