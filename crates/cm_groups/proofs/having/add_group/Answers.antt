-- A group more for a point that has some, and for one that has none.
use Rattle.std.proofs.Common.{rules, sym, ap, ◌∙◌, []}
use Rattle.std.specs.BTreeMap.{get}
use Rattle.std.specs.Cmp.Lexicographic.{slice_cmp}
use Rattle.std.specs.Ordering.{nat_cmp}
use Rattle.cm_net.specs.Sites.{numbers_there}
use Rattle.cm_groups.proofs.Pointed.{group_added, pushed}
use Rattle.cm_groups.proofs.having.add_group.Goals as goal

pub returns-in-Some : goal.returns-in-Some
returns-in-Some c = λ name other.
    group_added (get (slice_cmp nat_cmp) c.args.having.now name) _ c.add_once.new.numbers c.args.point.now name c.in-Some.numbers.now.items c.args.number other
    (((c.get_mut.follows.holds c.add_once.new.numbers).3 (search rules)).0 name) (c.in_ok-add_once.ensures other)
    (λ same. ap numbers_there (ap (get (slice_cmp nat_cmp) c.args.having.now) (sym same) ∙ sym c.in-Some.ensures.value))

pub returns : goal.returns
returns c = λ name other.
    group_added (get (slice_cmp nat_cmp) c.args.having.now name) _ c.in_ok-from_slice.field-0 c.args.point.now name [] c.args.number other
    (rw c.get_mut.follows.holds-at-none at (c.in_ok-insert.ensures.updates.0 name)) (pushed [] c.in_ok-from_slice.field-0.items c.args.number other c.in_ok-from_slice.ensures.items)
    (λ same. ap numbers_there (ap (get (slice_cmp nat_cmp) c.args.having.now) (sym same) ∙ sym c.in_default.ensures.value))
