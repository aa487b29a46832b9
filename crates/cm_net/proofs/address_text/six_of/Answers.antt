use Rattle.std.proofs.Common.{sym}
use Rattle.cm_net.specs.Addresses.{IsSix}
use Rattle.cm_net.specs.SixReader.{start6, step6, final6}
use Rattle.cm_net.proofs.Machines.{leaves_within, leaves_early, run_more, run_all}
use Rattle.cm_net.proofs.SixTexts.{reads6}
use Rattle.cm_net.proofs.address_text.six_of.Goals as goal

pub loop-at-preserved : goal.loop-at-preserved
loop-at-preserved c =
    run_more step6 start6 c.args.text.now c.loop-at.at _ _ c.loop-at-test.true c.loop-at.invariant c.if-not-step.ensures

pub returns-then-not-step : goal.returns-then-not-step
returns-then-not-step c =
    leaves_within step6 start6 final6 IsSix reads6 c.args.text.now c.loop-at.at _ c.loop-at-test.true c.loop-at.invariant c.if-not-step.ensures

pub returns-in-Some : goal.returns-in-Some
returns-in-Some c =
    reads6.sound c.args.text.now _ c.in-Some.number (run_all step6 start6 c.args.text.now c.loop-at.at _ c.loop-at-test.false c.loop-at.invariant) (sym c.in-Some.ensures)

pub returns-in-None : goal.returns-in-None
returns-in-None c =
    leaves_early step6 start6 final6 IsSix reads6 c.args.text.now _ (run_all step6 start6 c.args.text.now c.loop-at.at _ c.loop-at-test.false c.loop-at.invariant) (sym c.in-None.ensures)
