use Rattle.cm_turn.proofs.Moves.{opens}
use Rattle.cm_turn.proofs.turnstile.Turnstile.new.Goals as goal

pub new-requires : goal.new-requires
new-requires g c =
    rw (c.in_default.ensures.items, c.new-slots.ensures.items, c.of-about.ensures) (opens g.T.Told.start g.T.Told.told c.args.value c.requires.empty)
