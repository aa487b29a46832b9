use Rattle.std.proofs.Common.{arith, sym}
use Rattle.cm_net.specs.FourReader.{start4, step4}
use Rattle.cm_net.proofs.Machines.{run_more, run_all}
use Rattle.cm_net.proofs.BitTexts.{bits_stuck, bits_lone, bits_none, bits_many}
use Rattle.cm_net.proofs.boundary_text.bits_of.Goals as goal

pub loop-byte-preserved : goal.loop-byte-preserved
loop-byte-preserved c = run_more step4 start4 c.args.text.now c.loop-byte.byte-index _ _ c.loop-byte-test.true c.loop-byte.invariant c.if-not-step.ensures

pub returns-then-bits-most : goal.returns-then-bits-most
returns-then-bits-most c = bits_lone c.args.most c.in-Some.bits c.args.text.now _ (run_all step4 start4 c.args.text.now c.loop-byte.byte-index _ c.loop-byte-test.false c.loop-byte.invariant) (sym c.in-Some.ensures) c.if-bits-most.true

pub returns-then-not-step : goal.returns-then-not-step
returns-then-not-step c = λ bits is. bits_stuck c.args.most bits c.loop-byte.byte-index c.args.text.now _ (omega arith) c.loop-byte-test.true c.loop-byte.invariant c.if-not-step.ensures is

pub returns-else-bits-most : goal.returns-else-bits-most
returns-else-bits-most c = λ bits is. bits_many c.args.most bits c.in-Some.bits c.args.text.now _ (omega arith) (run_all step4 start4 c.args.text.now c.loop-byte.byte-index _ c.loop-byte-test.false c.loop-byte.invariant) c.in-Some.ensures c.if-bits-most.false is

pub returns-in-None : goal.returns-in-None
returns-in-None c = λ bits is. bits_none c.args.most bits c.args.text.now _ (omega arith) (run_all step4 start4 c.args.text.now c.loop-byte.byte-index _ c.loop-byte-test.false c.loop-byte.invariant) c.in-None.ensures is
