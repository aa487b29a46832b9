use Rattle.std.proofs.Common.{subst}
use Rattle.cm_notes.specs.Notes.{IsNote}
use Rattle.cm_records.proofs.replacing.add_record.Goals as goal

pub returns-in-Ok-clause-settled : goal.returns-in-Ok-clause-settled
returns-in-Ok-clause-settled g c x told = (c.in-Ok.ensures.stands x told).settled

pub returns-in-Ok-clause-form : goal.returns-in-Ok-clause-form
returns-in-Ok-clause-form g c = subst IsNote c.note-note.ensures c.encode-count.ensures.«record».ranges

pub returns-in-Err-Disk-clause-form : goal.returns-in-Err-Disk-clause-form
returns-in-Err-Disk-clause-form g c = subst IsNote c.note-note.ensures c.encode-count.ensures.«record».ranges
