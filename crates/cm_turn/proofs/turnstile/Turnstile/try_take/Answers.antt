use Rattle.std.proofs.Common.{arith, sym, ◌∙◌}
use Rattle.cm_turn.proofs.Moves.{takes_turn}
use Rattle.cm_turn.proofs.turnstile.Turnstile.try_take.Goals as goal

pub compare_exchange-found-requires : goal.compare_exchange-found-requires
compare_exchange-found-requires g c =
    let sized = c.self.invariant in
    let place = c.args.place.now in (
      c.requires.here ∙ sym c.self.view_is,
      omega (arith, sized.0),
      rw (sized.1, c.requires.idle.0) (takes_turn g.T.Told.start g.T.Told.told (g.T.Told.start c.self.inside.table.shared.key.value) place.id place.me.0 c.args.word c.requires.word.0 c.requires.idle.1),
    )
