use Rattle.cm_site.specs.Runs.{sourced}
use Rattle.cm_site.proofs.TakeEnds.{ends_taken}
use Rattle.cm_site.proofs.adding.take.Goals as goal

pub returns : goal.returns
returns g c = λ step gives.
    let d = g.D.Disk in
    let f = g.F.Folder in
    let was = c.args.library.now in
    let now = c.take_in-taken.new.library in
    let from = sourced f.shows f.faults c.args.folder.now in
    let to = sourced f.shows f.faults c.take_in-taken.new.folder in
    let done = c.take_in-taken.ensures in
    let told = c.tells.ensures in
    ends_taken d.reads d.may_leave d.moment d.left_since d.faults was now c.requires.opened c.args.«package» c.args.version from to c.take_in-taken.result done.takes done.places
    (record { files = told.files; stands = told.stands; opens = told.opens }) (λ files is. g.met.D.Disk.as_it_reads now.disk files is) step gives c.reply_of.result c.reply_of.ensures done.cause
