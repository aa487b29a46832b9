-- A record of a topology, and the records after it.
use Rattle.std.proofs.Common.{◌≡◌, ℕ, true, false, List, [], ◌∷◌, refl, ◌∙◌, ap}
use Rattle.std.specs.Prelude.{if◌then◌else◌, max, fold, Some}
use Rattle.cm_base.specs.declared.hash.Hash.{Hash}
use Rattle.cm_notes.specs.declared.note.Note.TheVariants as note
use Rattle.cm_topo.specs.declared.topology.Topology.{Topology}
use Rattle.cm_register.specs.AfterNote.{after_note, after_topology, joined, joins, made_due}
use Rattle.cm_register.specs.Records.{Records, SentRow, has_target}

-- a record of a topology is taken with the topology that its text says
pub noted_topology : (number size : ℕ) (hash : Hash) (minute : ℕ) (topology : Topology) (records : Records)
    → after_note (note.Topology number size hash minute) (Some topology) records ≡ after_topology number minute topology records
unfolding after_note
noted_topology number size hash minute topology records = refl

-- no target that is made changes the records' number
joined_number : (minute : ℕ) (records : Records) (join : List ℕ × SentRow) → (joined minute records join).number ≡ records.number
joined_number minute records join =
    elim (has_target join.0 join.1.id join.1.version records.targets) as (λ b. (if b then records else made_due join.0 join.1.id join.1.version minute records).number ≡ records.number) [
      | true ↦ refl
      | false ↦ refl
    ]

all_joined_number : (minute : ℕ) (records : Records) (these : List (List ℕ × SentRow)) → (fold (joined minute) records these).number ≡ records.number
all_joined_number minute records [] = refl
all_joined_number minute records (join ∷ these) = all_joined_number minute (joined minute records join) these ∙ joined_number minute records join

-- the number afterwards is the greater one
pub topology_number : (number minute : ℕ) (topology : Topology) (records : Records) → (after_topology number minute topology records).number ≡ max records.number number
unfolding after_topology
topology_number number minute topology records = ap (λ n. max n number) (all_joined_number minute records (joins records topology))
