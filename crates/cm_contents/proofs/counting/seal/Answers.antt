use Rattle.std.proofs.Common.{arith}
use Rattle.std.specs.Prelude.{true}
use Rattle.cm_contents.proofs.Counted.{times_of, sealed_counted}
use Rattle.cm_contents.proofs.counting.seal.Goals as goal

pub seal-requires : goal.seal-requires
seal-requires c =
    let many = times_of c.args.hash c.args.contents.now.state c.requires.needed in
    let counted = c.requires.counted.counted c.args.hash in
    omega (arith, many, counted)

pub returns-clause-counted : goal.returns-clause-counted
returns-clause-counted c = sealed_counted c.args.counts.now c.seal.new.self c.args.contents.now.state c.args.hash (record { size = c.args.size; since = true }) c.requires.counted c.requires.needed c.seal.ensures.counts c.seal.ensures.seals
