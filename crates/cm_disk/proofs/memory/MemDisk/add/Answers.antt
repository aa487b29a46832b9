use Rattle.std.proofs.Common.{List, ℕ, sym, subst}
use Rattle.cm_disk.specs.Images.{Stand, IsLeft}
use Rattle.cm_disk.specs.Rows.{InRow}
use Rattle.cm_disk.specs.Stands.{files_after}
use Rattle.cm_disk.proofs.Above.{row-none}
use Rattle.cm_disk.proofs.Joined.{all_same, all_small}
use Rattle.cm_disk.proofs.Steps.{stays_read}
use Rattle.cm_disk.proofs.memory.MemDisk.add.Goals as goal

pub joined-requires-clause-reads : goal.joined-requires-clause-reads
joined-requires-clause-reads c =
    subst (λ (s : Stand). IsLeft s s.now) (sym (c.args.self.now.same c.args.place.now)) (stays_read c.args.self.now.calls.items c.args.place.now)

pub invariant_of-self : goal.invariant_of-self
invariant_of-self c = record {
  same = all_same c.args.self.now.slots c.joined.new.slots c.args.self.now.calls.items c.args.place.now c.args.work c.args.done c.requires.can c.args.self.now.same c.args.self.now.small
      c.joined.result c.joined.new.calls.items c.joined.ensures.calls c.joined.ensures.here c.joined.ensures.same;
  small = all_small c.args.self.now.slots c.joined.new.slots c.args.self.now.calls.items c.args.place.now c.args.work c.args.done c.requires.can c.args.self.now.same c.args.self.now.small
      c.joined.result c.joined.new.calls.items c.joined.ensures.calls;
  row = subst (λ (places : List (List ℕ)). InRow (files_after c.joined.new.calls.items) places) (sym c.clear.ensures) (row-none (files_after c.joined.new.calls.items));
}
