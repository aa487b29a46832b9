-- Whole trees, by sizes and hashes.
use Rattle.std.proofs.Common.{◌≡◌, ℕ, Bool, true, List, ◌++◌, length, refl, ◌∙◌, ap, subst, eq-eqb}
use Rattle.std.specs.Prelude.{None, Some, map, Contains, ◌==◌, ◌&&◌}
use Rattle.std.specs.List.{flat_map}
use Rattle.std.specs.Str.{bytes_eq}
use Rattle.std.proofs.lemmas.Slice.Eq.{bytes_eq-Decides}
use Rattle.std.proofs.lemmas.List.Elements.{Contains-append_left, Contains-append_right}
use Rattle.sha2.specs.Sha256.{sha256}
use Rattle.cm_disk.specs.Disk.{File as Stored, Files, bytes_of}
use Rattle.cm_pkglib.proofs.Among.{All-map}
use Rattle.cm_tree.specs.declared.entry.Entry.{Entry}
use Rattle.cm_tree.specs.Trees.{File, Apart, entry_of}
use Rattle.cm_filelib.specs.Places.{file_place}
use Rattle.cm_filelib.specs.Stored.{is_file_of}
use Rattle.cm_state.specs.Opens.{HasFile, HasFiles, Opens}
use Rattle.cm_state.specs.Whole.{Version, Trees, outline, HasTree, OpensTrees, held_version, bytes_of_tree, bytes_of_trees, bytes_there}
use Rattle.cm_state.proofs.Lists.{and_right, over_map}
use Rattle.cm_state.proofs.Members.{each_member, at_member, map_member, flat_member}

-- a file of a hash and a size has bytes of that hash
pub file_there : (hash : List ℕ) (size : ℕ) (file : Stored) → is_file_of hash size file ≡ true → (bytes : List ℕ) × (file ≡ Some bytes) × (sha256 bytes ≡ hash)
file_there hash size None is = absurd (cc)
file_there hash size (Some bytes) is = (bytes, refl, (bytes_eq-Decides (sha256 bytes) hash).0 (and_right (length bytes == size) (bytes_eq (sha256 bytes) hash) is))

-- bytes are a file of their own hash and size
own_file : (bytes : List ℕ) → is_file_of (sha256 bytes) (length bytes) (Some bytes) ≡ true
own_file bytes =
    ap (λ (b : Bool). b && bytes_eq (sha256 bytes) (sha256 bytes)) (eq-eqb (length bytes) (length bytes) refl) ∙ (bytes_eq-Decides (sha256 bytes) (sha256 bytes)).1 refl

pub trees_are_whole : (files : Files) (trees : Trees) → Opens files (outline trees) → Apart (bytes_of_trees trees ++ flat_map (bytes_there files) (outline trees).versions) → OpensTrees files trees
trees_are_whole files trees opens apart = record {
  stands = opens.stands;
  whole = each_member (λ (v : Version). HasTree files v.tree) trees.versions (λ v of_v.
      each_member (λ (file : File). files (file_place (sha256 file.bytes)) ≡ Some file.bytes) v.tree (λ file of_file. by v of_v file of_file));
}
  where
    by : (v : Version) → Contains trees.versions v → (file : File) → Contains v.tree file → files (file_place (sha256 file.bytes)) ≡ Some file.bytes
    by v of_v file of_file =
        let held = held_version v in
        let versions = map held_version trees.versions in
        let all_stored = flat_map (bytes_there files) versions in
        let of_held = map_member held_version trees.versions v of_v in
        let of_entry = map_member entry_of v.tree file of_file in
        let has = at_member (HasFile files) held.manifest (at_member (HasFiles files) versions opens.whole held of_held) (entry_of file) of_entry in
        let t = file_there (sha256 file.bytes) (length file.bytes) (files (file_place (sha256 file.bytes))) has in
        let here = Contains-append_left (bytes_of_trees trees) all_stored file.bytes
        (flat_member (λ (v : Version). bytes_of_tree v.tree) trees.versions v file.bytes of_v (map_member (λ (f : File). f.bytes) v.tree file of_file)) in
        let there = Contains-append_right (bytes_of_trees trees) all_stored t.0
        (subst (λ (f : Stored). Contains all_stored (bytes_of f)) t.1
        (flat_member (bytes_there files) versions held (bytes_of (files (file_place (sha256 file.bytes)))) of_held
        (map_member (λ (entry : Entry). bytes_of (files (file_place entry.hash.0))) held.manifest (entry_of file) of_entry))) in
        t.1 ∙ ap (λ (b : List ℕ). Some b) (apart t.0 file.bytes there here t.2)

pub trees_open : (files : Files) (trees : Trees) → OpensTrees files trees → Opens files (outline trees)
trees_open files trees opens = record {
  stands = opens.stands;
  whole = over_map held_version (HasFiles files) trees.versions
      (All-map (λ (v : Version). HasTree files v.tree) (λ (v : Version). HasFiles files (held_version v)) (λ v whole.
      over_map entry_of (HasFile files) v.tree
      (All-map (λ (file : File). files (file_place (sha256 file.bytes)) ≡ Some file.bytes) (λ (file : File). HasFile files (entry_of file)) (λ file is.
      ap (λ (f : Stored). is_file_of (sha256 file.bytes) (length file.bytes) f) is ∙ own_file file.bytes) v.tree whole)) trees.versions opens.whole);
}
