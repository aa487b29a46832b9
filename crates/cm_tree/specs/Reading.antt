-- Reading a manifest from left to right, with the first fault that is met.
use Rattle.std.specs.Prelude.{◌≡◌, ℕ, zero, suc, ◌-◌, ◌||◌, ◌==◌, nat_lt, not, Bool, true, List, [], ◌∷◌, ◌++◌, length, take, drop, map, Result, Ok, Err, if◌then◌else◌}
use Rattle.std.specs.Str.{bytes_eq}
use Rattle.std.specs.Int.{Width, w8, w32, byte_len, from_le_bytes}
use Rattle.cm_tree.specs.declared.entry.Entry.{Entry}
use Rattle.cm_tree.specs.declared.tree_fault.TreeFault.{TreeFault}
use Rattle.cm_tree.specs.declared.tree_fault.TreeFault.TheVariants.{BadForm, BadPath, Unsorted, SamePath, TooManyFiles, Memory}
use Rattle.cm_tree.specs.Paths.{is_file_path, is_before, has_path, folded_path}
use Rattle.cm_tree.specs.Manifests.{magic, paths_of}

infixl 10 ◌>>=◌
abbrev pub ◌>>=◌ : {A B : Type 0} → Result A TreeFault → (A → Result B TreeFault) → Result B TreeFault
(Ok x) >>= f = f x
(Err e) >>= f = Err e

-- `total` is how many bytes there are, of which `bytes` are those not read yet: the next stands at `total - length bytes`.
-- A field that is missing or cut short is a fault at the end of the bytes.

-- a number, the least byte first, and the bytes after it
unfoldable pub number_at : Width → ℕ → List ℕ → Result (ℕ × List ℕ) TreeFault
number_at w total bytes = if nat_lt (length bytes) (byte_len w) then Err (BadForm total) else Ok (from_le_bytes w (take (byte_len w) bytes), drop (byte_len w) bytes)

-- so many bytes, and those after them
unfoldable pub bytes_at : ℕ → ℕ → List ℕ → Result (List ℕ × List ℕ) TreeFault
bytes_at count total bytes = if nat_lt (length bytes) count then Err (BadForm total) else Ok (take count bytes, drop count bytes)

-- a length from 1 to 240, and so many bytes
unfoldable pub text_at : ℕ → List ℕ → Result (List ℕ × List ℕ) TreeFault
text_at total bytes = do
  len ← number_at w8 total bytes
  if len.0 == 0 || nat_lt 240 len.0 then Err (BadForm (total - length bytes)) else bytes_at len.0 total len.1

-- the path, the size and the hash of an entry, and the bytes after it
unfoldable pub row_at : ℕ → List ℕ → Result (List ℕ × ℕ × List ℕ × List ℕ) TreeFault
row_at total bytes = do
  path ← text_at total bytes
  size ← number_at w32 total path.1
  hash ← bytes_at 32 total size.1
  Ok (path.0, size.0, hash.0, hash.1)

-- a path stands behind the last of those before it
abbrev pub is_behind : List (List ℕ) → List ℕ → Bool
is_behind [] path = true
is_behind (a ∷ []) path = is_before a path
is_behind (a ∷ b ∷ rest) path = is_behind (b ∷ rest) path

-- an entry behind those before it: first its path's form, then the order, then its path after folding
unfoldable pub joined : List Entry → List ℕ → ℕ → List ℕ → Result Entry TreeFault
joined before path size hash =
    if not (is_file_path path) then Err (BadPath (length before))
    else if not (is_behind (paths_of before) path) then Err (Unsorted (length before))
    else if has_path (map folded_path (paths_of before)) (folded_path path) then Err (SamePath (length before))
    else Ok (record { path = path; size = size; hash = record { 0 = hash } })

unfoldable pub entry_at : List Entry → ℕ → List ℕ → Result (Entry × List ℕ) TreeFault
entry_at before total bytes = do
  row ← row_at total bytes
  entry ← joined before row.0 row.1 row.2
  Ok (entry, row.3)

-- so many entries behind those before them, all of them, and the bytes after them
unfoldable pub entries_at : ℕ → ℕ → List Entry → List ℕ → Result (List Entry × List ℕ) TreeFault
entries_at zero total before bytes = Ok (before, bytes)
entries_at (suc count) total before bytes = do
  entry ← entry_at before total bytes
  entries_at count total (before ++ entry.0 ∷ []) entry.1

-- the bytes after `CMDL` and the form 1
unfoldable pub magic_at : ℕ → List ℕ → Result (List ℕ) TreeFault
magic_at total bytes = do
  found ← bytes_at 4 total bytes
  if bytes_eq found.0 magic then Ok found.1 else Err (BadForm (total - length bytes))

unfoldable pub form_at : ℕ → List ℕ → Result (List ℕ) TreeFault
form_at total bytes = do
  form ← number_at w8 total bytes
  if form.0 == 1 then Ok form.1 else Err (BadForm (total - length bytes))

-- the number of entries, at most 20,000
unfoldable pub count_at : ℕ → List ℕ → Result (ℕ × List ℕ) TreeFault
count_at total bytes = do
  count ← number_at w32 total bytes
  if nat_lt 20000 count.0 then Err TooManyFiles else Ok count

unfoldable pub header_at : ℕ → List ℕ → Result (ℕ × List ℕ) TreeFault
header_at total bytes = do
  rest ← magic_at total bytes
  rest ← form_at total rest
  count_at total rest

-- a byte after the last entry is a fault at its place
unfoldable pub end_at : ℕ → List Entry → List ℕ → Result (List Entry) TreeFault
end_at total entries bytes = if length bytes == 0 then Ok entries else Err (BadForm (total - length bytes))

-- the manifest that all of the bytes spell, or the first fault
unfoldable pub read_manifest : List ℕ → Result (List Entry) TreeFault
read_manifest bytes = do
  count ← header_at (length bytes) bytes
  all ← entries_at count.0 (length bytes) [] count.1
  end_at (length bytes) all.0 all.1

-- what a call answers, seen by `view`, is what reading gives, unless memory ran out
abbrev pub Fails : {Y : Type 0} → TreeFault → Result Y TreeFault → Type 0
Fails Memory read = Unit {0}
Fails (BadForm at) read = read ≡ Err (BadForm at)
Fails (BadPath entry) read = read ≡ Err (BadPath entry)
Fails (Unsorted entry) read = read ≡ Err (Unsorted entry)
Fails (SamePath entry) read = read ≡ Err (SamePath entry)
Fails TooManyFiles read = read ≡ Err TooManyFiles

abbrev pub Gives : {X Y : Type 0} → (X → Y) → Result X TreeFault → Result Y TreeFault → Type 0
Gives view (Ok x) read = read ≡ Ok (view x)
Gives view (Err e) read = Fails e read

-- the same of a call that takes no memory
abbrev pub Reads : {X Y : Type 0} → (X → Y) → Result X TreeFault → Result Y TreeFault → Type 0
Reads view (Ok x) read = read ≡ Ok (view x)
Reads view (Err e) read = read ≡ Err e
