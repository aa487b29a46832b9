-- A file that is read whole into memory.
use Rattle.std.proofs.Common.{◌≡◌, ℕ, ◌≤◌, List, ◌++◌, length, take, drop, sym, ◌∙◌, ap, arith}
use Rattle.std.specs.Prelude.{None, Some, option_map, Result, Ok, Err, OnOk}
use Rattle.std.proofs.lemmas.List.{take_all, drop_all, append-nil}
use Rattle.std.proofs.lemmas.Option.{same_Some, none-some}
use Rattle.cm_disk.specs.Disk.{File, Reads}

-- a buffer of the file's size is the file, as far as it was filled
pub whole_read : (file : File) (buffer : List ℕ) (size count : ℕ) → option_map length file ≡ Some size → length buffer ≡ size → Reads file 0 buffer count → file ≡ Some (take count buffer)
whole_read None buffer size count long is r = absurd (none-some size long)
whole_read (Some bytes) buffer size count long is r =
    let l : length bytes ≡ size = same_Some (length bytes) size long in
    let n : count ≡ length buffer = omega (arith, r.number, l, is) in
    let there : take count bytes ≡ bytes = take_all count bytes (omega (arith, n, l, is)) in
    ap (λ (b : List ℕ). Some b) (sym there ∙ sym r.bytes)

-- the items of a vector whose slice was written
pub written_back : (len : ℕ) (buffer items : List ℕ) → length buffer ≡ len → length items ≤ len → take len (buffer ++ drop (length buffer) items) ≡ buffer
written_back len buffer items long all =
    ap (λ (l : List ℕ). take len (buffer ++ l)) (drop_all (length buffer) items (omega (arith, long, all)))
    ∙ ap (take len) (append-nil buffer)
    ∙ take_all len buffer (omega (arith, long))

-- what holds holds after Ok
pub on_any : {T E : Type 0} (r : Result T E) (P : Type 0) → P → OnOk r P
on_any (Ok value) P holds = holds
on_any (Err fault) P holds = tt
