use Rattle.std.proofs.Common.{◌∙◌, ◌∷◌, [], ap}
use Rattle.cm_contents.specs.Wants.{found_size}
use Rattle.cm_contents.proofs.Wanted.{wanted_next}
use Rattle.cm_contents.proofs.wants.Wants.of.Goals as goal

pub loop-entry-preserved : goal.loop-entry-preserved
loop-entry-preserved c hash =
    let e = c.entry-item.result in
    c.in_ok-add.ensures hash ∙ ap (λ s. found_size s hash (e ∷ [])) (c.loop-entry.invariant hash)
    ∙ wanted_next hash c.args.entries.now c.loop-entry.entry-index e c.loop-entry-test.true c.entry-item.is
