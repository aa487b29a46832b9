use Rattle.std.proofs.Common.{ℕ, List, ◌++◌, map, take, subst, arith}
use Rattle.std.proofs.lemmas.List.{take_all}
use Rattle.cm_net.specs.declared.boundary.Boundary.{Boundary}
use Rattle.cm_net.specs.Gathered.{IsGatheredOf}
use Rattle.cm_net.proofs.GatheredRows.{rows_more}
use Rattle.cm_net.proofs.gathered.Gathered.add_all.Goals as goal

pub loop-boundary-preserved : goal.loop-boundary-preserved
loop-boundary-preserved c = λ rows was.
    let place = c.loop-boundary.boundary-index in
    let all = c.args.boundaries.now in
    subst (λ (each : List (Boundary × ℕ)). IsGatheredOf each c.add.new.self)
    (rows_more rows all place c.boundary-item.result c.args.group c.loop-boundary-test.true c.boundary-item.is)
    (c.in_ok-add.ensures (rows ++ map (λ boundary. (boundary, c.args.group)) (take place all)) (c.loop-boundary.invariant rows was))

pub returns : goal.returns
returns c = λ rows was.
    let all = take_all c.loop-boundary.boundary-index c.args.boundaries.now (omega arith) in
    subst (λ (each : List Boundary). IsGatheredOf (rows ++ map (λ boundary. (boundary, c.args.group)) each) c.loop-boundary.self) all (c.loop-boundary.invariant rows was)
