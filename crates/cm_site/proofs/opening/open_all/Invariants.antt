use Rattle.std.proofs.Common.{◌≡◌, ◌≤◌, ◌+◌, ◌++◌, [], vec_len, vec_capacity}
use Rattle.std.specs.List.{AllByRecursion}
use Rattle.cm_site.specs.Opened.{IsOpenAs, bays_from}
use Rattle.cm_site.specs.declared.member.Member.{Member}
use Rattle.cm_site.proofs.opening.open_all.Given as goal

abbrev pub invariant-loop-bay : goal.invariant-loop-bay
invariant-loop-bay g l = record {
  left : vec_len l.rest + l._bay ≡ vec_len l.fn.bays;
  fits : vec_len l.members + vec_len l.rest ≤ vec_capacity l.members;
  room : vec_len l.members + vec_len l.rest ≤ vec_capacity l.fn.back;
  items : bays_from l.members.items ++ l.rest.items ≡ l.fn.bays.items;
  each : AllByRecursion (λ (member : Member g.row.D.Denot). IsOpenAs g.D.Disk.reads g.D.Disk.may_leave g.D.Disk.moment g.D.Disk.left_since g.D.Disk.faults member.name member.hold) l.members.items;
}
