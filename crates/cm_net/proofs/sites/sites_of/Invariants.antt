use Rattle.std.proofs.Common.{◌≡◌, map}
use Rattle.cm_net.specs.Entries.{keys_in}
use Rattle.cm_net.specs.Sites.{numbers_for}
use Rattle.cm_net.proofs.Named.{AreSitesOfSome}
use Rattle.cm_net.proofs.sites.sites_of.Given as goal

abbrev pub invariant-loop-name : goal.invariant-loop-name
invariant-loop-name l = AreSitesOfSome (numbers_for l.entries) (map (λ entry. entry.0) l.yielded) l.sites.items × (keys_in l.sites.items ≡ map (λ entry. entry.0) l.yielded)
