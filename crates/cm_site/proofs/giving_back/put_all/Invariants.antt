use Rattle.std.proofs.Common.{◌≡◌, ◌≤◌, ◌+◌, ◌++◌, vec_len, vec_capacity, length}
use Rattle.std.specs.Vec.Iter.{into_iter_items, into_iter_len}
use Rattle.cm_site.proofs.giving_back.put_all.Given as goal

abbrev pub invariant-loop-bay : goal.invariant-loop-bay
invariant-loop-bay g l = record {
  next : (goal.iterator-loop-bay g).can_next l.bay-iterator;
  finite : (goal.iterator-loop-bay g).is_finite l.bay-iterator;
  items : l.back.items ++ into_iter_items l.bay-iterator ≡ l.fn.back.items ++ l.fn.bays.items;
  left : into_iter_len l.bay-iterator ≡ length (into_iter_items l.bay-iterator);
  room : vec_len l.back + into_iter_len l.bay-iterator ≤ vec_capacity l.fn.back;
  capacity : vec_capacity l.back ≡ vec_capacity l.fn.back;
}
