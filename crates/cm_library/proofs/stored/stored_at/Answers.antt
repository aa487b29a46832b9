use Rattle.cm_library.proofs.Folders.{manifest_place_is, file_place_is}
use Rattle.cm_library.proofs.stored.stored_at.Goals as goal

pub returns-in-Some-clause-place : goal.returns-in-Some-clause-place
returns-in-Some-clause-place c = manifest_place_is c.args.place.now _ c.in-Some.ensures

pub returns-in-Some-hash_at-clause-place : goal.returns-in-Some-hash_at-clause-place
returns-in-Some-hash_at-clause-place c = file_place_is c.args.place.now c.in-Some-hash_at.hash c.in-Some-hash_at.ensures
