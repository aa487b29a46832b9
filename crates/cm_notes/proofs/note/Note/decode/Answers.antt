use Rattle.std.proofs.Common.{◌∙◌, rules}
use Rattle.cm_pkglib.specs.Changes.{AreBytes}
use Rattle.cm_notes.proofs.Records.{found_record, record_read}
use Rattle.cm_notes.proofs.note.Note.decode.Goals as goal

pub returns-clause-found : goal.returns-clause-found
returns-clause-found c = let h : AreBytes c.args.bytes.now = λ i. search (rules, c.type_inv.bytes i) in found_record c.args.bytes.now h c.note_of.result c.note_of.ensures

pub returns-clause-only : goal.returns-clause-only
returns-clause-only c = λ note r. c.note_of.ensures ∙ record_read c.args.bytes.now note r
