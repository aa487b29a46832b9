use Rattle.std.proofs.Common.{◌≡◌, ℕ, List, Err, sym, subst}
use Rattle.cm_check.specs.declared.fault.CheckFault.{CheckFault}
use Rattle.cm_site.specs.OneEnds.{OneEndsOn}
use Rattle.cm_site.specs.OneLibrary.{what_if}
use Rattle.cm_site.specs.declared.reply.Reply.TheVariants.{Loose}
use Rattle.cm_site.proofs.CheckEnds.{ends_loose, what_if_memory, what_if_unread}
use Rattle.cm_site.proofs.purging.what_if_opened.Goals as goal

pub returns-in-Ok : goal.returns-in-Ok
returns-in-Ok g c = λ from to.
    let d = g.D.Disk in
    let library = c.args.library.now in
    let now = c.what_if-listed.new.library in
    let done = c.what_if-listed.ensures in
    let later = c.tells-2.ensures in
    subst (λ (l : List (List ℕ)). OneEndsOn d.reads d.may_leave d.moment d.left_since d.faults c.args.bay library.state library.end (λ given state. what_if given) from to (Loose l) library.start now.disk) (sym c.of.ensures)
    (ends_loose d.reads d.may_leave d.moment d.left_since d.faults library now c.requires.opened done.same done.opens (record { files = later.files; stands = later.stands; opens = later.opens }) c.args.bay from to c.in-Ok.places.items c.in-Ok.ensures.found)

pub returns-in-Disk : goal.returns-in-Disk
returns-in-Disk g c = λ from to.
    let d = g.D.Disk in
    let library = c.args.library.now in
    let now = c.what_if-listed.new.library in
    let done = c.what_if-listed.ensures in
    let later = c.tells-2.ensures in
    let failed = subst (λ (f : CheckFault). c.what_if-listed.result ≡ Err f) c.in-Disk.is c.in-Err.is in
    what_if_unread d.reads d.may_leave d.moment d.left_since d.faults library now c.requires.opened done.same done.opens (record { files = later.files; stands = later.stands; opens = later.opens }) c.args.bay from to (λ files is. g.met.D.Disk.as_it_reads now.disk files is) (done.cause failed)

pub returns-in-Memory : goal.returns-in-Memory
returns-in-Memory g c = λ from to.
    let d = g.D.Disk in
    let library = c.args.library.now in
    let now = c.what_if-listed.new.library in
    let done = c.what_if-listed.ensures in
    let later = c.tells-2.ensures in
    what_if_memory d.reads d.may_leave d.moment d.left_since d.faults library now c.requires.opened done.same done.opens (record { files = later.files; stands = later.stands; opens = later.opens }) c.args.bay from to
