use Rattle.std.proofs.Common.{◌≤◌, length, take}
use Rattle.cm_base.specs.Fed.{WasFed}
use Rattle.cm_disk.proofs.Hashes.{hashed-fed}
use Rattle.cm_disk.specs.Disk.{bytes_of}
use Rattle.cm_filelib.specs.Places.{file_place}
use Rattle.cm_check.proofs.Pieces.{of_then}
use Rattle.cm_check.proofs.hashing.hash_file.Goals as goal

pub returns-clause-exact : goal.returns-clause-exact
returns-clause-exact g c e at files told =
    let d = g.D.Disk in
    let entry = c.args.at.now in
    let size = c.in-Ok-Some.size in
    let fed = of_then d.reads entry.package entry.version entry.entry c.args.library.now c.size.new.library (λ file. size ≤ length (bytes_of file) → WasFed c.in-Ok.hasher (take size (bytes_of file))) c.size.ensures.looks c.in-Ok.ensures.fed in
    hashed-fed (files (file_place e.hash.0)) c.in-Ok-Some.field-0 size c.in-Ok.hasher c.done-got.result c.in-Ok-Some.field-0-is (c.in-Ok-Some.ensures.value e at files told) (fed e at files told) c.done-got.ensures.hash
