use Rattle.std.proofs.Common.{ap, is_some, arith}
use Rattle.cm_pkglib.proofs.Steps.{dropped_sum, dropped_valid}
use Rattle.cm_pkglib.proofs.rows.Rows.give_up.Goals as goal

pub overflow_sub-self : goal.overflow_sub-self
overflow_sub-self c =
    let sum = c.self.invariant.sum in
    omega (arith, dropped_sum _ c.self.invariant.valid c.args.job c.take_job-row.result c.take_job-row.ensures.row)

pub invariant_of-self : goal.invariant_of-self
invariant_of-self c =
    let sum = c.self.invariant.sum in
    rw (c.take_job-row.ensures.rest) (record {
      valid = dropped_valid _ c.self.invariant.valid c.args.job (ap is_some c.take_job-row.ensures.row);
      sum = omega (arith, dropped_sum _ c.self.invariant.valid c.args.job c.take_job-row.result c.take_job-row.ensures.row);
      has_room = record { jobs = omega arith; lasts = omega arith; versions = omega arith };
    })
