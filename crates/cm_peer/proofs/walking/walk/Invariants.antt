use Rattle.std.proofs.Common.{◌≡◌, ◌≤◌, take, vec_len}
use Rattle.cm_peer.specs.Links.{IsSameTest, WasAsked, RoseBy}
use Rattle.cm_peer.specs.Walks.{AreRefused, link_count}
use Rattle.cm_peer.proofs.walking.walk.Given as goal

abbrev pub invariant-loop-number : goal.invariant-loop-number
invariant-loop-number g l = record {
  refused : AreRefused (g.L.Link.gives l.fn.link) l.want 0 (take l.number l.sources) l.refusals.items;
  many : vec_len l.refusals ≡ l.number;
  same : IsSameTest (g.L.Link.gives l.fn.link) (g.L.Link.gives l.link);
  asked : WasAsked (g.L.Link.asked l.fn.link) (g.L.Link.asked l.link) (take l.number l.sources);
  count : RoseBy (link_count l.refusals.items) (g.L.Link.faults l.fn.link) (g.L.Link.faults l.link);
  later : g.L.Link.faults l.fn.link ≤ g.L.Link.faults l.link;
}
