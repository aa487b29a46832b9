use Rattle.std.proofs.Common.{◌≡◌, ◌≤◌, length, take, drop}
use Rattle.cm_site.specs.Making.{HasMadeAll}
use Rattle.cm_site.proofs.init.make_all.Given as goal

abbrev pub invariant-loop-at : goal.invariant-loop-at
invariant-loop-at g l = record {
  few : l.count ≤ l.at;
  within : l.at ≤ length l.fn.bays.items;
  size : length l.bays.items ≡ length l.fn.bays.items;
  end : l.at-end ≡ length l.fn.bays.items;
  rest : drop l.at l.bays.items ≡ drop l.at l.fn.bays.items;
  made : HasMadeAll g.D.Disk.reads g.D.Disk.may_leave g.D.Disk.moment g.D.Disk.left_since l.names l.count (take l.at l.fn.bays.items) (take l.at l.bays.items);
}
