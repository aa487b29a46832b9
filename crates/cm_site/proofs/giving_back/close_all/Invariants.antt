use Rattle.std.proofs.Common.{◌≡◌, ◌≤◌, ◌+◌, ◌++◌, vec_len, vec_capacity, length}
use Rattle.std.specs.Vec.Iter.{into_iter_items, into_iter_len}
use Rattle.cm_site.specs.Opened.{bays_now}
use Rattle.cm_site.proofs.giving_back.close_all.Given as goal

abbrev pub invariant-loop-member : goal.invariant-loop-member
invariant-loop-member g l = record {
  next : (goal.iterator-loop-member g).can_next l.member-iterator;
  finite : (goal.iterator-loop-member g).is_finite l.member-iterator;
  items : l.back.items ++ bays_now (into_iter_items l.member-iterator) ≡ l.fn.back.items ++ bays_now l.fn.members.items;
  left : into_iter_len l.member-iterator ≡ length (into_iter_items l.member-iterator);
  room : vec_len l.back + into_iter_len l.member-iterator ≤ vec_capacity l.fn.back;
  capacity : vec_capacity l.back ≡ vec_capacity l.fn.back;
}
