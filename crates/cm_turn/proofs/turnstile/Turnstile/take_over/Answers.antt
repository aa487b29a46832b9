use Rattle.std.proofs.Common.{arith, sym, ◌∙◌}
use Rattle.cm_turn.proofs.Merging.{ordered_merge, merge_interleaves}
use Rattle.cm_turn.proofs.Moves.{joins}
use Rattle.cm_turn.proofs.turnstile.Turnstile.take_over.Goals as goal

pub join_seat-requires : goal.join_seat-requires
join_seat-requires g c =
    let sized = c.self.invariant in
    let place = c.args.place.now in
    let other = c.args.other in
    let idle = c.requires.idle in
    let other_idle = c.requires.other_idle in (
      c.requires.here.0 ∙ sym c.self.view_is,
      c.requires.here.1 ∙ sym c.self.view_is,
      other_idle.0,
      omega (arith, sized.0),
      joins g.T.Told.start g.T.Told.told (g.T.Told.start c.self.inside.table.shared.key.value) place.id place.me.0 other.id other.me.0 idle.1 other_idle.2 idle.0 other_idle.1,
    )

pub returns-clause-own : goal.returns-clause-own
returns-clause-own g c =
    let mine = c.args.place.now.me.0.own in
    let other = c.args.other.me.0.own in
    let ordered = c.requires.ordered in
    rw c.join_seat.ensures.2 (ordered_merge 0 mine other ordered.0 ordered.1, merge_interleaves 0 mine other ordered.1)
