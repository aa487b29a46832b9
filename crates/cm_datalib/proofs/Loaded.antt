-- A file that is read whole, and one that is hashed and is not what was named.
use Rattle.std.proofs.Common.{◌≡◌, ℕ, ◌<◌, ◌≤◌, Bool, true, false, List, ◌++◌, length, take, drop, refl, sym, ◌∙◌, ap, subst, arith, length-drop}
use Rattle.std.specs.Prelude.{◌==◌, ◌&&◌, Option, None, Some, option_map, Result, Err, cond}
use Rattle.std.specs.Str.{bytes_eq}
use Rattle.std.proofs.lemmas.Bool.{eqb-true, eq-eqb}
use Rattle.std.proofs.lemmas.List.{take_all, drop_all, take-append-drop, append-nil}
use Rattle.std.proofs.lemmas.Option.{same_Some, none-some}
use Rattle.std.proofs.lemmas.Slice.Eq.{bytes_eq-Decides}
use Rattle.sha2.specs.Sha256.{sha256}
use Rattle.cm_base.specs.declared.hash.Hash.{Hash}
use Rattle.cm_disk.specs.Disk.{File, Reads}
use Rattle.cm_disk.specs.Hashed.{hashed}
use Rattle.cm_tree.specs.declared.entry.Entry.{Entry}
use Rattle.cm_tree.specs.Reading.{read_manifest}
use Rattle.cm_datalib.specs.declared.faults.DataFault.{DataFault}
use Rattle.cm_datalib.specs.declared.faults.DataFault.TheVariants.{NotHere, OtherBytes}
use Rattle.cm_datalib.specs.Loads.{is_named, as_data, loaded, Answers}
use Rattle.cm_datalib.proofs.Names.{both}

pub whole_read : (file : File) (buffer : List ℕ) (size count : ℕ) → option_map length file ≡ Some size → length buffer ≡ size → Reads file 0 buffer count → file ≡ Some (take count buffer)
whole_read None buffer size count long is r = absurd (none-some size long)
whole_read (Some bytes) buffer size count long is r =
    let l : length bytes ≡ size = same_Some (length bytes) size long in
    let n : count ≡ length buffer = omega (arith, r.number, l, is) in
    let there : take count bytes ≡ bytes = take_all count bytes (omega (arith, n, l, is)) in
    ap (λ (b : List ℕ). Some b) (sym there ∙ sym r.bytes)

-- a file that was hashed has its size
pub sized : (file : File) (found : ℕ × Hash) → Some found ≡ hashed file → option_map length file ≡ Some found.0
sized None found is = absurd (none-some found (sym is))
sized (Some bytes) found is = ap (λ (pair : ℕ × Hash). Some pair.0) (sym (same_Some found (length bytes, record { 0 = sha256 bytes }) is))

pub named_size : (found : ℕ × Hash) (size : ℕ) (hash : Hash) → ((found.0 == size) && bytes_eq found.1.0 hash.0) ≡ true → found.0 ≡ size
named_size found size hash is = eqb-true found.0 size (both (found.0 == size) (bytes_eq found.1.0 hash.0) is).0

-- there is no file
pub loaded-absent : (file : File) (hash : Hash) (size : ℕ) → None ≡ hashed file → loaded hash size file ≡ Err NotHere
loaded-absent None hash size is = refl
loaded-absent (Some bytes) hash size is = absurd (none-some (length bytes, record { 0 = sha256 bytes }) is)

-- a file of another size or of another hash
pub loaded-other : (file : File) (found : ℕ × Hash) (size : ℕ) (hash : Hash) → Some found ≡ hashed file → ((found.0 == size) && bytes_eq found.1.0 hash.0) ≡ false → loaded hash size file ≡ Err (OtherBytes hash found.1 size found.0)
loaded-other None found size hash is other = absurd (none-some found (sym is))
loaded-other (Some bytes) found size hash is other =
    let same : found ≡ (length bytes, record { 0 = sha256 bytes }) = same_Some found (length bytes, record { 0 = sha256 bytes }) is in
    let here : is_named hash.0 size bytes ≡ false = ap (λ (pair : ℕ × Hash). (pair.0 == size) && bytes_eq pair.1.0 hash.0) (sym same) ∙ other in
    let wrong : ℕ × Hash → Result (List Entry) DataFault = λ pair. Err (OtherBytes hash pair.1 size pair.0) in
    ap (λ (b : Bool). cond b (as_data (read_manifest bytes)) (wrong (length bytes, record { 0 = sha256 bytes }))) here
    ∙ ap wrong (sym same)

-- the items of a vector whose slice was written
pub written_back : (len : ℕ) (buffer items : List ℕ) → length buffer ≡ len → length items ≤ len → take len (buffer ++ drop (length buffer) items) ≡ buffer
written_back len buffer items long all =
    ap (λ (l : List ℕ). take len (buffer ++ l)) (drop_all (length buffer) items (omega (arith, long, all)))
    ∙ ap (take len) (append-nil buffer)
    ∙ take_all len buffer (omega (arith, long))

-- a file that was hashed and is what was named
pub hashed-named : (file : File) (found : ℕ × Hash) (size : ℕ) (hash : Hash) → Some found ≡ hashed file → ((found.0 == size) && bytes_eq found.1.0 hash.0) ≡ true → Some (size, hash) ≡ hashed file
hashed-named file found size hash is named =
    let each = both (found.0 == size) (bytes_eq found.1.0 hash.0) named in
    let sizes : found.0 ≡ size = eqb-true found.0 size each.0 in
    let hashes : found.1.0 ≡ hash.0 = (bytes_eq-Decides found.1.0 hash.0).0 each.1 in
    let pair : ℕ → List ℕ → Option (ℕ × Hash) = λ size hash. Some (size, record { 0 = hash }) in
    ap (λ (n : ℕ). pair n hash.0) (sym sizes) ∙ ap (pair found.0) (sym hashes) ∙ is

-- a file that is what was named, and longer than a buffer, fills it
module _ (size : ℕ) (hash : Hash) (buffer : List ℕ) (count : ℕ) (longer : length buffer < size) where
  pub longer-count : (file : File) → Some (size, hash) ≡ hashed file → Reads file 0 buffer count → count ≡ length buffer
  longer-count None is r = absurd (none-some (size, hash) (sym is))
  longer-count (Some bytes) is r =
      let long : size ≡ length bytes = ap (λ (pair : ℕ × Hash). pair.0) (same_Some (size, hash) (length bytes, record { 0 = sha256 bytes }) is) in
      omega (arith, r.number, long, longer)

  -- and is refused as what begins with it
  pub longer-refused : (file : File) → Some (size, hash) ≡ hashed file → Reads file 0 buffer count → (fault : DataFault)
      → ((tail : List ℕ) → 1 ≤ length tail → Answers (Err fault) (as_data (read_manifest (buffer ++ tail)))) → Answers (Err fault) (loaded hash size file)
  longer-refused None is r fault refused = absurd (none-some (size, hash) (sym is))
  longer-refused (Some bytes) is r fault refused =
      subst (λ (b : Bool). Answers (Err fault) (cond b (as_data (read_manifest bytes)) (Err (OtherBytes hash (record { 0 = sha256 bytes }) size (length bytes))))) (sym named)
      (subst (λ (l : List ℕ). Answers (Err fault) (as_data (read_manifest l))) whole (refused (drop count bytes) (omega (arith, longer, long, all, length-drop count bytes))))
    where
      same : ◌≡◌ {A = ℕ × Hash} (size, hash) (length bytes, record { 0 = sha256 bytes })
      same = same_Some (size, hash) (length bytes, record { 0 = sha256 bytes }) is

      long : size ≡ length bytes
      long = ap (λ (pair : ℕ × Hash). pair.0) same

      named : is_named hash.0 size bytes ≡ true
      named =
          let sizes : (length bytes == size) ≡ true = eq-eqb (length bytes) size (sym long) in
          let hashes : bytes_eq (sha256 bytes) hash.0 ≡ true = (bytes_eq-Decides (sha256 bytes) hash.0).1 (sym (ap (λ (pair : ℕ × Hash). pair.1.0) same)) in
          ap (λ (b : Bool). b && bytes_eq (sha256 bytes) hash.0) sizes ∙ hashes

      all : count ≡ length buffer
      all = omega (arith, r.number, long, longer)

      whole : buffer ++ drop count bytes ≡ bytes
      whole = ap (λ (l : List ℕ). l ++ drop count bytes) (sym (take_all count buffer (omega (arith, all))) ∙ r.bytes) ∙ take-append-drop count bytes
