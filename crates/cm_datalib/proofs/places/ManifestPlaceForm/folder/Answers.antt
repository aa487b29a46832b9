use Rattle.std.proofs.Common.{◌≡◌, List, ℕ, true, sym, subst}
use Rattle.std.specs.Prelude.{Some}
use Rattle.cm_disk.specs.Disk.{is_above}
use Rattle.cm_datalib.proofs.Names.{is_within}
use Rattle.cm_datalib.proofs.places.ManifestPlaceForm.folder.Goals as goal

pub returns : goal.returns
returns c q form = subst (λ (folder : List ℕ). is_above (Some folder) q ≡ true) (sym c.folder_place.ensures) (is_within q form)
