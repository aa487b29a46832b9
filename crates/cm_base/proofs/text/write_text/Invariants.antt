use Rattle.std.proofs.Common.{◌≡◌, ◌-◌, ◌≤◌, length, take}
use Rattle.cm_base.specs.Streams.{Gets}
use Rattle.cm_base.proofs.text.write_text.Given as goal

abbrev pub invariant-loop-at : goal.invariant-loop-at
invariant-loop-at g l = record {
  within : l.at ≤ length l.text;
  told : Gets (g.K.Sink.got l.fn.out) (g.K.Sink.got l.out) (take l.at l.text);
  beside : g.K.Sink.beside l.out ≡ g.K.Sink.beside l.fn.out;
  later : g.K.Sink.faults l.fn.out ≤ g.K.Sink.faults l.out;
}

abbrev pub decreases-loop-at : goal.decreases-loop-at
decreases-loop-at g l = length l.text - l.at
