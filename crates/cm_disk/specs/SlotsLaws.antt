-- What a ghost field of the disk in memory names: that slots agree with calls is a bare fact. A ghost field can name nothing
-- outside of specs/.
use Rattle.std.specs.Prelude.{◌≡◌, ℕ, List}
use Rattle.std.specs.BTreeMap.{BTreeMap}
use Rattle.std.proofs.Props.{props}
use Rattle.cm_disk.specs.declared.calls.Slot.{Slot}
use Rattle.cm_disk.specs.declared.calls.Call.{Call}
use Rattle.cm_disk.specs.Images.{Stand}
use Rattle.cm_disk.specs.Stands.{stand_after}
use Rattle.cm_disk.specs.Slots.{stand_in}

pub Stand-set : IsSet Stand
Stand-set = hlevel props

pub same_prop : (slots : BTreeMap (List ℕ) Slot) (calls : List Call) → IsProp ((place : List ℕ) → stand_in slots place ≡ stand_after calls place)
same_prop slots calls = hlevel (props, Stand-set)
