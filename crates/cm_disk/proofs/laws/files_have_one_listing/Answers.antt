use Rattle.cm_disk.proofs.Listings.{one_listing}
use Rattle.cm_disk.proofs.laws.files_have_one_listing.Goals as goal

pub returns : goal.returns
returns c = one_listing
