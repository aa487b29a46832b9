-- Bytes that were read ahead serve a later read.
use Rattle.std.proofs.Common.{◌≡◌, ℕ, ◌+◌, ◌-◌, ◌≤◌, min, List, length, take, drop, ◌∙◌, ap, arith}
use Rattle.std.proofs.lemmas.List.{drop-drop}
use Rattle.cm_disk.specs.Disk.{File, bytes_of, Reads}
use Rattle.cm_log.specs.declared.position.Block.{Block}
use Rattle.cm_log.specs.Settled.{IsAhead}
use Rattle.cm_log.proofs.Pieces.{piece_same}

-- what a copy out of a block gives, by how many bytes the file has from there on
copied : (file : File) (block : Block) (offset : ℕ) (buf : List ℕ) (count : ℕ) → IsAhead file block → block.start ≤ offset → offset ≤ block.start + block.count
    → count ≤ block.start + block.count - offset → take count buf ≡ take count (drop (offset - block.start) block.bytes)
    → take count buf ≡ take count (drop offset (bytes_of file))
copied file block offset buf count ahead from to few bytes =
    bytes
    ∙ piece_same block.count block.bytes (drop block.start (bytes_of file)) ahead.bytes (offset - block.start) count (omega arith)
    ∙ ap (λ (l : List ℕ). take count l) (drop-drop (offset - block.start) block.start (bytes_of file) ∙ ap (λ (n : ℕ). drop n (bytes_of file)) (omega arith))

-- all bytes that are asked for are there
pub served : (file : File) (block : Block) (offset : ℕ) (buf : List ℕ) (count : ℕ) → IsAhead file block → block.start ≤ offset → offset + length buf ≤ block.start + block.count
    → count ≡ min (length buf) (block.start + block.count - offset) → take count buf ≡ take count (drop (offset - block.start) block.bytes) → Reads file offset buf count
served file block offset buf count ahead from to number bytes = record {
  number = omega (arith, number, ahead.within);
  bytes = copied file block offset buf count ahead from (omega arith) (omega (arith, number)) bytes;
}

-- or the block was read from there on
pub served_anew : (file : File) (block : Block) (offset : ℕ) (buf : List ℕ) (count : ℕ) → IsAhead file block → block.start ≡ offset → block.count ≡ min 65536 (length (bytes_of file) - offset) → length buf ≤ 65536
    → count ≡ min (length buf) (block.start + block.count - offset) → take count buf ≡ take count (drop (offset - block.start) block.bytes) → Reads file offset buf count
served_anew file block offset buf count ahead start all short number bytes = record {
  number = omega (arith, number, start, all);
  bytes = copied file block offset buf count ahead (omega (arith, start)) (omega (arith, start)) (omega (arith, number)) bytes;
}
