-- The reached groups, by marks.
use Rattle.std.proofs.Common.{◌≡◌, ◌∙◌, List, ap, arith, length, subst}
use Rattle.cm_groups.specs.declared.group.Group.{Group}
use Rattle.cm_groups.specs.Rows.{AreGroups}
use Rattle.cm_groups.proofs.Reached.{reached_are, reached_there}
use Rattle.cm_groups.proofs.groups.Groups.reach.Goals as goal

pub returns-clause-those : goal.returns-clause-those
returns-clause-those c =
    let count : c.len-2.result ≡ length c.args.self.now = omega (arith, c.len-2.ensures, c.deref.ensures.len, ap length (c.deref.ensures.value ∙ c.self.view_is)) in
    reached_are c.args.self.now c.deref.result.now c.deref-2.result.now c.args.current.now c.in_ok-numbers_reached.field-0.items c.args.elapsed c.len-2.result
    c.args.neighbours c.args.default_group c.is_default_reached-default.result c.in_ok-own.own c.in_ok-targets.targets
    (c.deref.ensures.value ∙ c.self.view_is) (c.deref-2.ensures.value ∙ c.self.view_is) count
    (subst (λ (groups : List Group). AreGroups groups) c.self.view_is c.self.invariant.sound)
    c.is_default_reached-default.ensures c.in_ok-own.ensures c.in_ok-targets.ensures c.in_ok-numbers_reached.ensures

pub returns-clause-there : goal.returns-clause-there
returns-clause-there c =
    reached_there c.args.self.now c.args.current.now c.args.elapsed c.args.neighbours c.args.default_group c.in_ok-numbers_reached.field-0.items
    (subst (λ (groups : List Group). AreGroups groups) c.self.view_is c.self.invariant.sound) (returns-clause-those c)
