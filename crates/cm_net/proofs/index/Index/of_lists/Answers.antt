use Rattle.std.proofs.Common.{arith}
use Rattle.cm_net.specs.Groups.{rows_in}
use Rattle.cm_net.proofs.Gapless.{segments_same}
use Rattle.cm_net.proofs.GatheredRows.{sites_in}
use Rattle.cm_net.proofs.index.Index.of_lists.Goals as goal

pub invariant_of-result : goal.invariant_of-result
invariant_of-result c =
    let all = rw c.items.ensures at c.in_ok-four.ensures in
    let segments4 = segments_same all.four.each _ _ all.four.same all.four.few c.in_ok-segments_of.ensures in
    let segments6 = segments_same all.six.each _ _ all.six.same all.six.few c.in_ok-segments_of-2.ensures in
    rw c.of.ensures
    (record {
      four_right = record {
        right = λ address small. rw (all.four.right address small) at (segments4.right address (omega arith));
        order = segments4.order;
        few = rw all.four.counted at segments4.few;
      };
      six_right = record {
        right = λ address small. rw (all.six.right address small) at (segments6.right address small);
        order = segments6.order;
        few = rw all.six.counted at segments6.few;
      };
      sites_right = sites_in (rows_in c.args.lists.now) _ c.in_ok-sites_of.field-0.items all.sites all.few (rw c.deref.ensures.value at c.in_ok-sites_of.ensures);
    })
