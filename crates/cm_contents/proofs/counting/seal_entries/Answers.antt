use Rattle.std.proofs.Common.{◌∙◌, ◌∷◌, [], ap}
use Rattle.cm_contents.specs.Seals.{found_seal}
use Rattle.cm_contents.proofs.Counted.{found_next}
use Rattle.cm_pkglib.specs.Counts.{sealed_of}
use Rattle.cm_contents.proofs.counting.seal_entries.Goals as goal

pub loop-entry-preserved : goal.loop-entry-preserved
loop-entry-preserved c =
    let e = c.entry-item.result in
    let i = c.loop-entry.entry-index in
    record {
      counts = λ hash. c.seal_entry.ensures.counts hash ∙ c.loop-entry.invariant.counts hash;
      seals = λ hash. c.seal_entry.ensures.seals hash ∙ ap (λ s. found_seal s hash (e ∷ [])) (c.loop-entry.invariant.seals hash)
          ∙ found_next (sealed_of c.args.counts.now hash) hash c.args.entries.now i e c.loop-entry-test.true c.entry-item.is;
    }
