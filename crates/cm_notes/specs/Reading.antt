-- What the bytes of a record of the site's log say.
use Rattle.std.specs.Prelude.{ℕ, ◌==◌, ◌&&◌, nat_le, if◌then◌else◌, cond, Bool, List, [], ◌∷◌, length, take, drop, slice_index, Option, None, Some}
use Rattle.std.specs.Int.{w16, from_le_bytes}
use Rattle.cm_base.specs.Names.{is_folded_name, is_label}
use Rattle.cm_pkglib.specs.Changes.{number_4, number_8, version_at, package_at, hash_at}
use Rattle.cm_notes.specs.declared.note.Note.{Note}
use Rattle.cm_notes.specs.declared.note.Note.TheVariants.{Topology, Sent, Installed, Tried, Leaving, Gone, Deleted, PeerState, Cached}
use Rattle.cm_notes.specs.declared.to.To.{To}
use Rattle.cm_notes.specs.declared.to.To.TheVariants.{Point, Group}

-- the number in the two bytes from a place on
abbrev pub number_2 : ℕ → List ℕ → ℕ
number_2 at bytes = from_le_bytes w16 (take 2 (drop at bytes))

-- What a text of that form in front of the bytes, whose first byte is its length, and the bytes behind it say; none where there is no
-- such text.
abbrev pub behind_text : (List ℕ → Bool) → (List ℕ → List ℕ → Option Note) → List ℕ → Option Note
behind_text is_form says [] = None
behind_text is_form says (count ∷ bytes) =
    if nat_le count (length bytes) && is_form (take count bytes) then says (take count bytes) (drop count bytes) else None

-- what is said of a package and a version, none where one of them is off its form
abbrev pub of_content : (List ℕ → ℕ → Note) → Option (List ℕ) → Option ℕ → Option Note
of_content note (Some id) (Some version) = Some (note id version)
of_content note (Some id) None = None
of_content note None version = None

-- a package and a version in front of so many bytes
abbrev pub content_of : ℕ → (List ℕ → ℕ → Note) → List ℕ → Option Note
content_of count note bytes = if length bytes == count then of_content note (package_at 0 bytes) (version_at 8 bytes) else None

-- kinds 3 to 6 and 9: behind a name a package and a version, and what else makes so many bytes
abbrev pub of_point : ℕ → (List ℕ → List ℕ → List ℕ → ℕ → Note) → List ℕ → Option Note
of_point count note = behind_text is_folded_name (λ name bytes. content_of count (note name bytes) bytes)

-- kind 1
abbrev pub read_topology : List ℕ → Option Note
read_topology bytes = cond (length bytes == 48) (Some (Topology (number_4 0 bytes) (number_4 4 bytes) (hash_at 8 bytes) (number_8 40 bytes))) None

-- kind 2: its twelve bytes of a package and a version stand before the receiver
abbrev pub sent_to : List ℕ → To → List ℕ → Option Note
sent_to fields to bytes =
    if length bytes == 8 then of_content (λ id version. Sent id version to (number_8 0 bytes)) (package_at 0 fields) (version_at 8 fields) else None

abbrev pub receiver_of : List ℕ → List ℕ → Option Note
receiver_of fields [] = None
receiver_of fields (kind ∷ bytes) =
    if kind == 0 then behind_text is_folded_name (λ name. sent_to fields (Point name)) bytes
    else (if kind == 1 then behind_text is_label (λ name. sent_to fields (Group name)) bytes
    else None)

abbrev pub read_sent : List ℕ → Option Note
read_sent fields = receiver_of fields (drop 12 fields)

-- kind 8: behind a name six bytes
abbrev pub peer_state : List ℕ → List ℕ → Option Note
peer_state name bytes =
    if length bytes == 6 && nat_le (slice_index bytes 0) 1
    then Some (PeerState name (slice_index bytes 0 == 1) (slice_index bytes 1) (number_2 2 bytes) (number_2 4 bytes))
    else None

-- the note that a record's bytes say, none where they are off the grammar
abbrev pub read_note : List ℕ → Option Note
read_note [] = None
read_note (kind ∷ fields) =
    if kind == 1 then read_topology fields
    else (if kind == 2 then read_sent fields
    else (if kind == 3 then of_point 12 (λ point bytes. Installed point) fields
    else (if kind == 4 then of_point 20 (λ point bytes id version. Tried point id version (number_8 12 bytes)) fields
    else (if kind == 5 then of_point 12 (λ point bytes. Leaving point) fields
    else (if kind == 6 then of_point 12 (λ point bytes. Gone point) fields
    else (if kind == 7 then content_of 12 Deleted fields
    else (if kind == 8 then behind_text is_folded_name peer_state fields
    else (if kind == 9 then of_point 44 (λ name bytes id version. Cached name id version (hash_at 12 bytes)) fields
    else None))))))))
