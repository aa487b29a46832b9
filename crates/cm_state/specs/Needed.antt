-- Which files a state needs: those that a manifest of a version or of an unfinished job names, and these manifests.
use Rattle.std.specs.Prelude.{ℕ, ◌||◌, Bool, List, ◌++◌, map}
use Rattle.std.specs.List.{list_any, flat_map}
use Rattle.std.specs.Str.{bytes_eq}
use Rattle.cm_pkglib.specs.Rows.{is_of}
use Rattle.cm_tree.specs.declared.entry.Entry.{Entry}
use Rattle.cm_datalib.specs.Places.{manifest_place}
use Rattle.cm_filelib.specs.Places.{file_place}
use Rattle.cm_state.specs.State.{Held, State}

-- a manifest names a hash
abbrev pub has_hash : List ℕ → List Entry → Bool
has_hash hash manifest = list_any (λ (entry : Entry). bytes_eq entry.hash.0 hash) manifest

-- a version names a hash
abbrev pub is_named : List ℕ → State → Bool
is_named hash state = list_any (λ (held : Held). has_hash hash held.manifest) state.versions

-- a version or an unfinished job names a hash
abbrev pub is_needed : List ℕ → State → Bool
is_needed hash state = is_named hash state || list_any (λ (job : ℕ × Held). has_hash hash job.1.manifest) state.jobs

-- what the versions and the unfinished jobs hold
abbrev pub holdings : State → List Held
holdings state = state.versions ++ map (λ (job : ℕ × Held). job.1) state.jobs

-- a version is there, or an unfinished job is to make it
abbrev pub holds : List ℕ → ℕ → State → Bool
holds id version state = list_any (λ (held : Held). is_of id version held.row) (holdings state)

-- the places of the files that a manifest names
abbrev pub file_places : Held → List (List ℕ)
file_places held = map (λ (entry : Entry). file_place entry.hash.0) held.manifest

-- the place of a manifest
abbrev pub own_place : Held → List ℕ
own_place held = manifest_place held.row.package held.row.version

-- the places that a state needs
abbrev pub needed : State → List (List ℕ)
needed state = map own_place (holdings state) ++ flat_map file_places (holdings state)
