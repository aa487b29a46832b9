use Rattle.std.proofs.Common.{◌≡◌, ℕ, ap}
use Rattle.std.specs.Prelude.{length, option_map, Some, None, Ok, Err, Result}
use Rattle.cm_base.specs.declared.hash.Hash.{Hash}
use Rattle.cm_disk.specs.Disk.{File}
use Rattle.cm_state.specs.declared.fault.LibFault.{LibFault}
use Rattle.cm_library.specs.Reading.{SizeOf}
use Rattle.cm_check.proofs.Told.{tells_of, looks_at, of_file, only_failed, size_told, size_gone}
use Rattle.cm_check.proofs.calls.size.Goals as goal

pub returns-in-Ok-clause-value : goal.returns-in-Ok-clause-value
returns-in-Ok-clause-value g c =
    let d = g.D.Disk in
    let at = c.args.at.now in
    let old = c.args.library.now in
    let new = c.file_size.new.self in
    let size = c.in-Ok.size in
    let Tells : File → Hash → Type 0 = λ file hash. SizeOf file hash (Ok size) in
    of_file d.reads at.package at.version at.entry old new c.requires.there Tells (Ok size) (tells_of d.reads at.package at.version at.entry old new c.requires.there Tells (Ok size) c.requires.settled c.in-Ok.ensures.call)
    (λ file. Some size ≡ option_map length file) (λ file hash. size_told file hash size)

pub returns-in-Ok-clause-looks : goal.returns-in-Ok-clause-looks
returns-in-Ok-clause-looks g c =
    let d = g.D.Disk in
    let at = c.args.at.now in
    let old = c.args.library.now in
    let new = c.file_size.new.self in
    let Tells : File → Hash → Type 0 = λ file hash. SizeOf file hash c.file_size.result in
    looks_at d.reads at.package at.version at.entry old new c.requires.there Tells c.file_size.result (tells_of d.reads at.package at.version at.entry old new c.requires.there Tells c.file_size.result c.requires.settled c.file_size.ensures.call)

pub returns-in-Gone-clause-value : goal.returns-in-Gone-clause-value
returns-in-Gone-clause-value g c =
    let d = g.D.Disk in
    let at = c.args.at.now in
    let old = c.args.library.now in
    let new = c.file_size.new.self in
    let fault = c.in-Err.fault in
    let Tells : File → Hash → Type 0 = λ file hash. SizeOf file hash (Err fault) in
    of_file d.reads at.package at.version at.entry old new c.requires.there Tells (Err fault) (tells_of d.reads at.package at.version at.entry old new c.requires.there Tells (Err fault) c.requires.settled c.in-Err.ensures.call)
    (λ file. None ≡ option_map length file) (λ file hash tells. size_gone file hash fault _ c.in-Gone.is tells)

pub returns-in-Gone-clause-looks : goal.returns-in-Gone-clause-looks
returns-in-Gone-clause-looks g c =
    let d = g.D.Disk in
    let at = c.args.at.now in
    let old = c.args.library.now in
    let new = c.file_size.new.self in
    let Tells : File → Hash → Type 0 = λ file hash. SizeOf file hash c.file_size.result in
    looks_at d.reads at.package at.version at.entry old new c.requires.there Tells c.file_size.result (tells_of d.reads at.package at.version at.entry old new c.requires.there Tells c.file_size.result c.requires.settled c.file_size.ensures.call)

pub returns-in_default-clause-looks : goal.returns-in_default-clause-looks
returns-in_default-clause-looks g c =
    let d = g.D.Disk in
    let at = c.args.at.now in
    let old = c.args.library.now in
    let new = c.file_size.new.self in
    let Tells : File → Hash → Type 0 = λ file hash. SizeOf file hash c.file_size.result in
    looks_at d.reads at.package at.version at.entry old new c.requires.there Tells c.file_size.result (tells_of d.reads at.package at.version at.entry old new c.requires.there Tells c.file_size.result c.requires.settled c.file_size.ensures.call)

pub returns-in_default-clause-cause : goal.returns-in_default-clause-cause
returns-in_default-clause-cause g c =
    let d = g.D.Disk in
    let at = c.args.at.now in
    let old = c.args.library.now in
    let new = c.file_size.new.self in
    let fault = c.in-Err.fault in
    let Tells : File → Hash → Type 0 = λ file hash. SizeOf file hash (Err fault) in
    let disk = only_failed d.reads at.package at.version at.entry old new c.requires.there Tells fault (tells_of d.reads at.package at.version at.entry old new c.requires.there Tells (Err fault) c.requires.settled c.in-Err.ensures.call) c.in_default.not-Gone in
    record { later = c.file_size.ensures.later; failed = c.in-Err.ensures.cause (ap (λ (f : LibFault). let r : Result ℕ LibFault = Err f in r) disk) }
