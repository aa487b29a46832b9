use Rattle.std.proofs.Common.{◌∙◌}
use Rattle.cm_disk.proofs.Hashes.{hashed-fed}
use Rattle.cm_disk.proofs.hashing.hash_file.Goals as goal

pub returns-clause-exact : goal.returns-clause-exact
returns-clause-exact g c x told =
    hashed-fed (x c.args.place.now) c.in_ok-size.field-0 c.in-Some.size c.in_ok-hasher.hasher c.done-got.result c.in-Some.is
    (c.in_ok-size.ensures.value x told) (c.in_ok-hasher.ensures.fed x (c.size.ensures.same ∙ told)) c.done-got.ensures.hash
