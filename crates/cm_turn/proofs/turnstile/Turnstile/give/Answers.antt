use Rattle.std.proofs.Common.{arith, sym, ◌∙◌}
use Rattle.cm_turn.proofs.Moves.{gives_turn}
use Rattle.cm_turn.proofs.turnstile.Turnstile.give.Goals as goal

pub store-requires : goal.store-requires
store-requires g c =
    let sized = c.self.invariant in
    let e = c.exchange-hole.ensures in
    let turn = c.requires.turn in
    let more = c.requires.more in (
      e.0 ∙ c.requires.here ∙ sym c.self.view_is,
      omega (arith, sized.0),
      rw (sized.1, e.3, turn.0, c.bounded-count.ensures.count)
          (gives_turn g.T.Told.start g.T.Told.told (g.T.Told.start c.self.inside.table.shared.key.value) c.exchange-hole.new.seat.id c.args.place.now.me.0 more.0 more.1 c.args.value turn.1 more.2 turn.2 more.3),
    )
