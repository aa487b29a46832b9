use Rattle.std.proofs.Common.{◌≡◌, ◌∙◌, ◌+◌, ◌≤◌, ◌^◌, ap, sym, subst, arith, length}
use Rattle.std.specs.Prelude.{Some}
use Rattle.cm_disk.specs.Disk.{File, bytes_of}
use Rattle.cm_disk.specs.Slots.{stand_of, file_of}
use Rattle.cm_disk.specs.Stands.{picked}
use Rattle.cm_disk.proofs.Picked.{kept_stand, joins_if, picked_small}
use Rattle.cm_disk.proofs.memory.MemDisk.keep.Goals as goal

pub add-is_written-requires : goal.add-is_written-requires
add-is_written-requires c =
    let is : picked c.args.pick (stand_of c.args.slot.now) ≡ Some c.in-Some.bytes.items = sym c.in_ok-bytes.ensures ∙ ap file_of c.in-Some.is in
    record { can = omega (arith, subst (λ (f : File). length (bytes_of f) ≤ 2 ^ 40 + 131072) is (picked_small c.args.pick (stand_of c.args.slot.now) c.requires.small)) }

pub returns-clause-kept : goal.returns-clause-kept
returns-clause-kept c =
    kept_stand c.args.self.now.calls.items c.add-is_written.new.self.calls.items c.add-is_synced.new.self.calls.items c.args.place.now c.in-Some.bytes (picked c.args.pick (stand_of c.args.slot.now))
    (sym c.in_ok-bytes.ensures ∙ ap file_of c.in-Some.is) c.requires.none
    (joins_if c.add-is_written.result _ _ _ c.add-is_written.ensures.calls c.if-not-is_written.false) (joins_if c.add-is_synced.result _ _ _ c.add-is_synced.ensures.calls c.if-not-is_synced.false)
