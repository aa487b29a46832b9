use Rattle.std.proofs.Common.{◌≡◌, ◌++◌, drop}
use Rattle.cm_locate.specs.Answers.{peer_rows}
use Rattle.cm_locate.proofs.client.Client.add_peers.Given as goal

abbrev pub invariant-loop-number : goal.invariant-loop-number
invariant-loop-number l = l.initial.rows.items ++ peer_rows l.self.groups.now l.self.ask.now l.peers l.states
    ≡ l.rows.items ++ peer_rows l.self.groups.now l.self.ask.now (drop l.number l.peers) (drop l.number l.states)
