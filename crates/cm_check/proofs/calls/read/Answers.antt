use Rattle.std.proofs.Common.{◌≡◌, ℕ, true, false, ap}
use Rattle.std.specs.Prelude.{is_some, Ok, Err, Result}
use Rattle.cm_base.specs.declared.hash.Hash.{Hash}
use Rattle.cm_disk.specs.Disk.{File, Reads}
use Rattle.cm_state.specs.declared.fault.LibFault.{LibFault}
use Rattle.cm_library.specs.Reading.{ReadOf}
use Rattle.cm_check.proofs.Told.{tells_of, looks_at, of_file, only_failed, read_told, read_gone}
use Rattle.cm_check.proofs.calls.read.Goals as goal

pub returns-in-Ok-clause-present : goal.returns-in-Ok-clause-present
returns-in-Ok-clause-present g c =
    let d = g.D.Disk in
    let at = c.args.at.now in
    let old = c.args.library.now in
    let new = c.read.new.self in
    let count = c.in-Ok.count in
    let Tells : File → Hash → Type 0 = λ file hash. ReadOf file hash c.args.offset c.read.new.buf (Ok count) in
    of_file d.reads at.package at.version at.entry old new c.requires.there Tells (Ok count) (tells_of d.reads at.package at.version at.entry old new c.requires.there Tells (Ok count) c.requires.settled c.in-Ok.ensures.call)
    (λ file. true ≡ is_some file) (λ file hash tells. (read_told file hash c.args.offset c.read.new.buf count tells).0)

pub returns-in-Ok-clause-bytes : goal.returns-in-Ok-clause-bytes
returns-in-Ok-clause-bytes g c =
    let d = g.D.Disk in
    let at = c.args.at.now in
    let old = c.args.library.now in
    let new = c.read.new.self in
    let count = c.in-Ok.count in
    let Tells : File → Hash → Type 0 = λ file hash. ReadOf file hash c.args.offset c.read.new.buf (Ok count) in
    of_file d.reads at.package at.version at.entry old new c.requires.there Tells (Ok count) (tells_of d.reads at.package at.version at.entry old new c.requires.there Tells (Ok count) c.requires.settled c.in-Ok.ensures.call)
    (λ file. Reads file c.args.offset c.read.new.buf count) (λ file hash tells. (read_told file hash c.args.offset c.read.new.buf count tells).1)

pub returns-in-Ok-clause-looks : goal.returns-in-Ok-clause-looks
returns-in-Ok-clause-looks g c =
    let d = g.D.Disk in
    let at = c.args.at.now in
    let old = c.args.library.now in
    let new = c.read.new.self in
    let Tells : File → Hash → Type 0 = λ file hash. ReadOf file hash c.args.offset c.read.new.buf c.read.result in
    looks_at d.reads at.package at.version at.entry old new c.requires.there Tells c.read.result (tells_of d.reads at.package at.version at.entry old new c.requires.there Tells c.read.result c.requires.settled c.read.ensures.call)

pub returns-in-Gone-clause-present : goal.returns-in-Gone-clause-present
returns-in-Gone-clause-present g c =
    let d = g.D.Disk in
    let at = c.args.at.now in
    let old = c.args.library.now in
    let new = c.read.new.self in
    let fault = c.in-Err.fault in
    let Tells : File → Hash → Type 0 = λ file hash. ReadOf file hash c.args.offset c.read.new.buf (Err fault) in
    of_file d.reads at.package at.version at.entry old new c.requires.there Tells (Err fault) (tells_of d.reads at.package at.version at.entry old new c.requires.there Tells (Err fault) c.requires.settled c.in-Err.ensures.call)
    (λ file. false ≡ is_some file) (λ file hash tells. read_gone file hash c.args.offset c.read.new.buf fault _ c.in-Gone.is tells)

pub returns-in-Gone-clause-looks : goal.returns-in-Gone-clause-looks
returns-in-Gone-clause-looks g c =
    let d = g.D.Disk in
    let at = c.args.at.now in
    let old = c.args.library.now in
    let new = c.read.new.self in
    let Tells : File → Hash → Type 0 = λ file hash. ReadOf file hash c.args.offset c.read.new.buf c.read.result in
    looks_at d.reads at.package at.version at.entry old new c.requires.there Tells c.read.result (tells_of d.reads at.package at.version at.entry old new c.requires.there Tells c.read.result c.requires.settled c.read.ensures.call)

pub returns-in_default-clause-looks : goal.returns-in_default-clause-looks
returns-in_default-clause-looks g c =
    let d = g.D.Disk in
    let at = c.args.at.now in
    let old = c.args.library.now in
    let new = c.read.new.self in
    let Tells : File → Hash → Type 0 = λ file hash. ReadOf file hash c.args.offset c.read.new.buf c.read.result in
    looks_at d.reads at.package at.version at.entry old new c.requires.there Tells c.read.result (tells_of d.reads at.package at.version at.entry old new c.requires.there Tells c.read.result c.requires.settled c.read.ensures.call)

pub returns-in_default-clause-cause : goal.returns-in_default-clause-cause
returns-in_default-clause-cause g c =
    let d = g.D.Disk in
    let at = c.args.at.now in
    let old = c.args.library.now in
    let new = c.read.new.self in
    let fault = c.in-Err.fault in
    let Tells : File → Hash → Type 0 = λ file hash. ReadOf file hash c.args.offset c.read.new.buf (Err fault) in
    let disk = only_failed d.reads at.package at.version at.entry old new c.requires.there Tells fault (tells_of d.reads at.package at.version at.entry old new c.requires.there Tells (Err fault) c.requires.settled c.in-Err.ensures.call) c.in_default.not-Gone in
    record { later = c.read.ensures.later; failed = c.in-Err.ensures.cause (ap (λ (f : LibFault). let r : Result ℕ LibFault = Err f in r) disk) }
