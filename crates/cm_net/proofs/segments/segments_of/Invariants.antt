use Rattle.std.proofs.Common.{◌≡◌, ◌≤◌, length, take}
use Rattle.cm_net.specs.Entries.{keys_in}
use Rattle.cm_net.specs.Spans.{AreReachesOf}
use Rattle.cm_net.proofs.Turning.{AreRightBefore, HaveBegun}
use Rattle.cm_net.proofs.segments.segments_of.Given as goal

abbrev pub invariant-loop-start : goal.invariant-loop-start
invariant-loop-start l =
    (keys_in l.segments.items ≡ take l.start-index l.start-items)
    × AreRightBefore l.fn.spans.items l.start-items l.start-index l.segments.items
    × (l.begun ≤ length l.spans.items) × HaveBegun l.spans.items l.begun l.start-items l.start-index × AreReachesOf (take l.begun l.spans.items) l.reaches
