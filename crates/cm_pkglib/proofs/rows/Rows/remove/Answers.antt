use Rattle.std.proofs.Common.{◌≡◌, true, arith}
use Rattle.std.specs.List.{list_any}
use Rattle.cm_pkglib.specs.Rows.{is_of}
use Rattle.cm_pkglib.proofs.Steps.{removed_sum, removed_valid, when_true}
use Rattle.cm_pkglib.proofs.rows.Rows.remove.Goals as goal

pub overflow_sub-self : goal.overflow_sub-self
overflow_sub-self c =
    let there : list_any (is_of c.args.id c.args.version) c.self.inside.versions.items ≡ true = when_true _ _ (rw (← c.self.view_is) at c.requires) in
    let sum = c.self.invariant.sum in
    omega (arith, removed_sum _ c.self.invariant.valid c.args.id c.args.version c.take_row-row.result c.take_row-row.ensures.row there)

pub invariant_of-self : goal.invariant_of-self
invariant_of-self c =
    let there : list_any (is_of c.args.id c.args.version) c.self.inside.versions.items ≡ true = when_true _ _ (rw (← c.self.view_is) at c.requires) in
    let sum = c.self.invariant.sum in
    rw (c.take_row-row.ensures.rest) (record {
      valid = removed_valid _ c.self.invariant.valid c.args.id c.args.version there;
      sum = omega (arith, removed_sum _ c.self.invariant.valid c.args.id c.args.version c.take_row-row.result c.take_row-row.ensures.row there);
      has_room = record { jobs = omega arith; lasts = omega arith; versions = omega arith };
    })
