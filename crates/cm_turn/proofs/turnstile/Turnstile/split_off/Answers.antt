use Rattle.std.proofs.Common.{arith, sym, ◌∙◌}
use Rattle.cm_turn.proofs.Moves.{splits}
use Rattle.cm_turn.proofs.turnstile.Turnstile.split_off.Goals as goal

pub split_seat-requires : goal.split_seat-requires
split_seat-requires g c =
    let sized = c.self.invariant in
    let place = c.args.place.now in (
      c.requires.here ∙ sym c.self.view_is,
      omega (arith, sized.0),
      splits g.T.Told.start g.T.Told.told (g.T.Told.start c.self.inside.table.shared.key.value) place.id place.me.0 c.requires.parts,
    )
