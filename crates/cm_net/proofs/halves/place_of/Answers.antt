use Rattle.std.proofs.Common.{◌≡◌, ◌-◌, length, sym, arith, Less, Greater}
use Rattle.std.proofs.lemmas.List.Elements.{at_read}
use Rattle.cm_net.proofs.Halving.{halved, halves, narrowed_above, narrowed_below}
use Rattle.cm_net.proofs.halves.place_of.Goals as goal

pub loop-low-preserved-in-Less : goal.loop-low-preserved-in-Less
loop-low-preserved-in-Less g c = (
  omega arith,
  omega arith,
  halved (length c.args.entries.now) (c.loop-low.high - c.loop-low.low) _ _ c.loop-low.steps _ c.loop-low.invariant.2 c.compare.ensures.step (omega arith) (omega arith),
  narrowed_above (λ entry. g.K.Ord.cmp entry.key c.args.key.now) c.args.entries.now c.loop-low.low c.loop-low.high _ (omega arith)
      (at_read c.args.entries.now (λ entry. g.K.Ord.cmp entry.key c.args.key.now ≡ Less) _ c.index-entries-middle.result (omega arith) c.index-entries-middle.is (sym c.in-Less.ensures.order))
      c.loop-low.invariant.3,
)

pub loop-low-preserved : goal.loop-low-preserved
loop-low-preserved g c = (
  omega arith,
  omega arith,
  halved (length c.args.entries.now) (c.loop-low.high - c.loop-low.low) _ _ c.loop-low.steps _ c.loop-low.invariant.2 c.compare.ensures.step (omega arith) (omega arith),
  narrowed_below (λ entry. g.K.Ord.cmp entry.key c.args.key.now) c.args.entries.now c.loop-low.low c.loop-low.high _ (omega arith)
      (at_read c.args.entries.now (λ entry. g.K.Ord.cmp entry.key c.args.key.now ≡ Greater) _ c.index-entries-middle.result (omega arith) c.index-entries-middle.is (sym c.in-Greater.ensures.order))
      c.loop-low.invariant.3,
)

pub returns-in-Equal-clause-steps : goal.returns-in-Equal-clause-steps
returns-in-Equal-clause-steps g c =
    halves (length c.args.entries.now) 0 _ _
    (halved (length c.args.entries.now) (c.loop-low.high - c.loop-low.low) 0 _ c.loop-low.steps _ c.loop-low.invariant.2 c.compare.ensures.step (omega arith) (omega arith))
