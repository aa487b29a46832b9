-- The one spelling of each record of the site's log.
use Rattle.std.specs.Prelude.{◌≡◌, ℕ, ◌<◌, ◌≤◌, ◌^◌, Bool, true, if◌then◌else◌, List, ◌∷◌, ◌++◌, length}
use Rattle.std.specs.Int.{w16, w32, w64, to_le_bytes}
use Rattle.cm_base.specs.Names.{is_package_id, is_folded_name, is_label}
use Rattle.cm_pkglib.specs.Changes.{IsVersion}
use Rattle.cm_notes.specs.declared.note.Note.{Note}
use Rattle.cm_notes.specs.declared.note.Note.TheVariants.{Topology, Sent, Installed, Tried, Leaving, Gone, Deleted, PeerState, Cached}
use Rattle.cm_notes.specs.declared.to.To.{To}
use Rattle.cm_notes.specs.declared.to.To.TheVariants.{Point, Group}

-- a text: its length in a byte, and its bytes
abbrev pub text_field : List ℕ → List ℕ
text_field text = length text ∷ text

-- a package in eight bytes and a version in four
abbrev pub content_fields : List ℕ → ℕ → List ℕ
content_fields id version = id ++ to_le_bytes w32 version

-- a receiver: 0 for a point or 1 for a point group, and its name
abbrev pub to_fields : To → List ℕ
to_fields (Point name) = 0 ∷ text_field name
to_fields (Group name) = 1 ∷ text_field name

-- 1 for true
abbrev pub bit : Bool → ℕ
bit low = if low then 1 else 0

-- the kind, and the fields behind it, numbers little-endian
abbrev pub spelled : Note → List ℕ
spelled (Topology number size hash minute) = 1 ∷ to_le_bytes w32 number ++ to_le_bytes w32 size ++ hash.0 ++ to_le_bytes w64 minute
spelled (Sent id version to minute) = 2 ∷ content_fields id version ++ to_fields to ++ to_le_bytes w64 minute
spelled (Installed point id version) = 3 ∷ text_field point ++ content_fields id version
spelled (Tried point id version due) = 4 ∷ text_field point ++ content_fields id version ++ to_le_bytes w64 due
spelled (Leaving point id version) = 5 ∷ text_field point ++ content_fields id version
spelled (Gone point id version) = 6 ∷ text_field point ++ content_fields id version
spelled (Deleted id version) = 7 ∷ content_fields id version
spelled (PeerState name low load queue used) = 8 ∷ text_field name ++ bit low ∷ load ∷ to_le_bytes w16 queue ++ to_le_bytes w16 used
spelled (Cached name id version hash) = 9 ∷ text_field name ++ content_fields id version ++ hash.0

-- a package and a version of it
abbrev pub IsContent : List ℕ → ℕ → Type 0
IsContent id version = (is_package_id id ≡ true) × IsVersion version

abbrev pub IsTo : To → Type 0
IsTo (Point name) = is_folded_name name ≡ true
IsTo (Group name) = is_label name ≡ true

-- the fields are in their ranges: names folded, labels of their form, numbers of their widths
abbrev pub IsNote : Note → Type 0
IsNote (Topology number size hash minute) = (number < 2 ^ 32) × (size < 2 ^ 32) × (length hash.0 ≡ 32) × (minute < 2 ^ 64)
IsNote (Sent id version to minute) = IsContent id version × IsTo to × (minute < 2 ^ 64)
IsNote (Installed point id version) = (is_folded_name point ≡ true) × IsContent id version
IsNote (Tried point id version due) = (is_folded_name point ≡ true) × IsContent id version × (due < 2 ^ 64)
IsNote (Leaving point id version) = (is_folded_name point ≡ true) × IsContent id version
IsNote (Gone point id version) = (is_folded_name point ≡ true) × IsContent id version
IsNote (Deleted id version) = IsContent id version
IsNote (PeerState name low load queue used) = (is_folded_name name ≡ true) × (load < 2 ^ 8) × (queue < 2 ^ 16) × (used < 2 ^ 16)
IsNote (Cached name id version hash) = (is_folded_name name ≡ true) × IsContent id version × (length hash.0 ≡ 32)

-- these bytes are the record of that note
pub record IsRecord (note : Note) (bytes : List ℕ) : Type 0 where
  pub ranges : IsNote note
  pub spelling : bytes ≡ spelled note
