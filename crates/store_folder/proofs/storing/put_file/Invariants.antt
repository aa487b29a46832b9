use Rattle.std.proofs.Common.{◌≡◌, ◌≤◌, ◌-◌, length, false}
use Rattle.std.specs.Option.{ForSome}
use Rattle.cm_filelib.specs.Writings.{hash_of, size_of, next_of, is_spent, IsWriting}
use Rattle.store_folder.proofs.storing.put_file.Given as goal

abbrev pub invariant-loop-offset : goal.invariant-loop-offset
invariant-loop-offset g l = record {
  small : length l.piece ≤ 65536;
  idle : is_spent l.writing ≡ false;
  front : next_of l.writing ≡ l.offset;
  hash : hash_of l.writing ≡ hash_of l.fn.writing;
  size : size_of l.writing ≡ size_of l.fn.writing;
  stands : ForSome (g.D.Disk.reads l.disk) (λ files. IsWriting files l.writing);
}

abbrev pub decreases-loop-offset : goal.decreases-loop-offset
decreases-loop-offset g l = l.size - l.offset
