use Rattle.std.proofs.Common.{◌≡◌, sym, subst}
use Rattle.std.specs.Prelude.{[]}
use Rattle.cm_pkglib.specs.Counts.{sealed_of}
use Rattle.cm_state.specs.Needed.{is_needed}
use Rattle.cm_state.specs.State.{State}
use Rattle.cm_contents.specs.Contents.{change_in}
use Rattle.cm_contents.specs.Seals.{IsCounted, if_needed}
use Rattle.cm_contents.proofs.Counted.{there_of, away_counted, counted_then, then_seals}
use Rattle.cm_contents.proofs.counting.make.Goals as goal

pub uncount-requires : goal.uncount-requires
uncount-requires c =
    let m = c.args.contents.now in
    let change = c.args.change.now in
    away_counted c.args.counts.now m.state (change_in m.taken change) c.tells_valid.ensures (there_of m.state m.taken change c.requires.free) c.requires.counted

pub returns-clause-counted : goal.returns-clause-counted
returns-clause-counted c =
    let m = c.args.contents.now in
    let change = c.args.change.now in
    subst (λ (s : State). IsCounted c.uncount.new.counts s []) (sym c.apply.ensures)
    (counted_then c.args.counts.now c.uncount.new.counts m.state (change_in m.taken change) c.tells_valid.ensures (there_of m.state m.taken change c.requires.free) c.requires.counted c.requires.stored c.uncount.ensures.counts c.uncount.ensures.seals)

pub returns-clause-seals : goal.returns-clause-seals
returns-clause-seals c hash =
    let m = c.args.contents.now in
    let change = c.args.change.now in
    subst (λ (s : State). sealed_of c.uncount.new.counts hash ≡ if_needed (is_needed hash.0 s) (sealed_of c.args.counts.now hash)) (sym c.apply.ensures)
    (then_seals c.args.counts.now c.uncount.new.counts m.state (change_in m.taken change) c.tells_valid.ensures (there_of m.state m.taken change c.requires.free) c.requires.counted c.requires.stored c.uncount.ensures.counts c.uncount.ensures.seals hash)
