use Rattle.std.proofs.Common.{List, ℕ, sym, ap, subst}
use Rattle.std.specs.Prelude.{Option, Some, Vec}
use Rattle.std.specs.declared.alloc.Global.{Global}
use Rattle.std.specs.Option.{option_copied}
use Rattle.cm_disk.specs.Disk.{IsNext}
use Rattle.cm_disk.specs.Rows.{InRow}
use Rattle.cm_disk.specs.Stands.{files_after}
use Rattle.cm_disk.proofs.Above.{next-step}
use Rattle.cm_disk.proofs.memory.MemDisk.next_there.Goals as goal

pub invariant_of-self-clause-row : goal.invariant_of-self-clause-row
invariant_of-self-clause-row c =
    subst (λ (places : Vec (List ℕ) Global). InRow (files_after c.args.self.now.calls.items) places.items) (sym c.step.ensures.places) c.args.self.now.row

pub returns-in-Some-step-clause-least : goal.returns-in-Some-step-clause-least
returns-in-Some-step-clause-least c =
    let files = files_after c.args.self.now.calls.items in
    let step = c.in-Some-step.ensures.next in
    subst (λ (after : Option (List ℕ)). IsNext files after (Some c.in-Some-step.next)) (sym (ap option_copied c.in-Some.is))
    (next-step files (Some c.in-Some.after.now) c.in-Some-step.next (c.args.self.now.row step.i c.in-Some.after.now c.in-Some-step.next step.here step.behind))
