-- A current group that holds the peer and lets it serve.
use Rattle.std.specs.Option.{option_copied}
use Rattle.cm_locate.proofs.Allowed.{some_lets}
use Rattle.cm_locate.proofs.client.Client.is_let.Goals as goal

pub returns : goal.returns
returns c =
    some_lets c.args.self.now.groups.now c.args.self.now.ask.now c.args.peer.now (option_copied c.as_ref.result) c.is_near.result c.some_holds.result c.marks-marks.result.now
    c.is_near.ensures c.as_ref.ensures.value c.marks-marks.ensures c.some_holds.ensures
