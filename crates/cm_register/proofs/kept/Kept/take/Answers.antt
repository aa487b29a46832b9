use Rattle.std.proofs.Common.{ℕ, Some, ◌∙◌, ap}
use Rattle.cm_notes.specs.declared.note.Note.TheVariants as note
use Rattle.cm_register.specs.AfterNote.{after_note}
use Rattle.cm_register.specs.Kept.{under_alone}
use Rattle.cm_register.specs.Records.{Records}
use Rattle.cm_register.proofs.Taken.{topology_taken}
use Rattle.cm_register.proofs.kept.Kept.take.Goals as goal

pub returns : goal.returns
returns c = λ size hash minute.
    ap (λ (number : ℕ). under_alone (Some c.args.topology) number) c.max-self-inside.ensures
    ∙ topology_taken c.args.number size hash minute c.args.topology c.self.inside.topology c.self.inside.number
    ∙ ap (λ (records : Records). after_note (note.Topology c.args.number size hash minute) (Some c.args.topology) records) c.self.view_is
