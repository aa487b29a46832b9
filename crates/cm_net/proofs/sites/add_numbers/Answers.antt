use Rattle.std.proofs.Common.{rules, sym, ap, ◌∙◌, []}
use Rattle.std.specs.BTreeMap.{get}
use Rattle.std.specs.Cmp.Lexicographic.{slice_cmp}
use Rattle.std.specs.Ordering.{nat_cmp}
use Rattle.cm_net.specs.Sites.{numbers_there}
use Rattle.cm_net.proofs.Named.{numbers_added}
use Rattle.cm_net.proofs.sites.add_numbers.Goals as goal

pub returns-in-Some-clause-added : goal.returns-in-Some-clause-added
returns-in-Some-clause-added c = λ site.
    numbers_added (get (slice_cmp nat_cmp) c.args.sites.now site) _ c.extend_from_slice.new.self c.args.name.now site c.in-Some.list.now.items c.args.numbers.now
    (((c.get_mut.follows.holds c.extend_from_slice.new.self).3 (search rules)).0 site) c.in_ok-extend_from_slice.ensures.items
    (λ same. ap numbers_there (ap (get (slice_cmp nat_cmp) c.args.sites.now) (sym same) ∙ sym c.in-Some.ensures.value))

pub returns-clause-added : goal.returns-clause-added
returns-clause-added c = λ site.
    numbers_added (get (slice_cmp nat_cmp) c.args.sites.now site) _ c.in_ok-from_slice.field-0 c.args.name.now site [] c.args.numbers.now
    (rw c.get_mut.follows.holds-at-none at (c.in_ok-insert.ensures.updates.0 site)) c.in_ok-from_slice.ensures.items
    (λ same. ap numbers_there (ap (get (slice_cmp nat_cmp) c.args.sites.now) (sym same) ∙ sym c.in_default.ensures.value))
