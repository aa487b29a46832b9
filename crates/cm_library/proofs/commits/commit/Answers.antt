use Rattle.std.proofs.Common.{◌≡◌, ◌⊎◌, inr, ℕ, ◌+◌, ◌≤◌, ◌^◌, List, length, sym, ◌∙◌, ap, subst}
use Rattle.std.specs.Prelude.{◌≢◌, Option, None, Some}
use Rattle.std.proofs.lemmas.Option.{same_Some}
use Rattle.cm_disk.specs.Disk.{Files, LeavesOnly}
use Rattle.cm_disk.proofs.Moments.{weaker}
use Rattle.cm_log.specs.declared.shelf.Shelf.{Shelf}
use Rattle.cm_log.specs.Logs.{closed, shelved, added}
use Rattle.cm_log.specs.Settled.{shelf_of, place_of, end_of, IsBeforeOrAfter, Adds}
use Rattle.cm_pkglib.specs.declared.change.Change.{Change}
use Rattle.cm_pkglib.specs.Changes.{spelled}
use Rattle.cm_pkglib.specs.Rows.{fault_of}
use Rattle.cm_filelib.specs.Places.{file_place}
use Rattle.cm_state.specs.State.{rows_of}
use Rattle.cm_state.specs.Changes.{record_of}
use Rattle.cm_state.specs.Opens.{OpensOr, StandsOr}
use Rattle.cm_state.proofs.Elsewhere.{file_no_log}
use Rattle.cm_state.proofs.ImagesOpen.{commit_stands, commit_opens}
use Rattle.cm_state.proofs.Ready.{record_fits}
use Rattle.cm_state.proofs.Standing.{log_side, live_at}
use Rattle.cm_contents.specs.Contents.{change_in}
use Rattle.cm_library.specs.Kept.{IsStanding, IsKept}
use Rattle.cm_library.proofs.Keeps.{file_apart, kept_done, kept_failed}
use Rattle.cm_library.proofs.KeptPlaces.{logged_places}
use Rattle.cm_library.proofs.Sure.{brings_of, sure_apart, sure_then}
use Rattle.cm_library.proofs.commits.commit.Goals as goal

pub add_record-requires-clause-idle : goal.add_record-requires-clause-idle
add_record-requires-clause-idle g c =
    (subst (λ (p : Option Change). IsStanding g.D.Disk.reads g.D.Disk.may_leave c.args.disk.now c.args.log.now c.args.contents.now p) c.requires.idle c.requires.standing).idle_or

pub add_record-requires-clause-settled : goal.add_record-requires-clause-settled
add_record-requires-clause-settled g c x told =
    ((subst (λ (p : Option Change). IsStanding g.D.Disk.reads g.D.Disk.may_leave c.args.disk.now c.args.log.now c.args.contents.now p) c.requires.idle c.requires.standing).stands x told).settled

pub add_record-requires-clause-room : goal.add_record-requires-clause-room
add_record-requires-clause-room g c =
    let m = c.args.contents.now in
    let change = c.args.change.now in
    subst (λ (r : Change). end_of c.args.log.now + length (spelled r) + 6 ≤ 2 ^ 40) c.requires.taken.says (record_fits (end_of c.args.log.now) m.state (change_in m.taken change) c.requires.may)

pub make-requires-clause-free : goal.make-requires-clause-free
make-requires-clause-free g c =
    let m = c.args.contents.now in
    subst (λ (r : Change). fault_of (rows_of m.state) r ≡ None) c.requires.taken.says c.requires.may.allowed

pub returns-in-Ok-clause-kept : goal.returns-in-Ok-clause-kept
returns-in-Ok-clause-kept g c =
    let d = g.D.Disk in
    let start = c.args.start.now.value in
    let disk = c.args.disk.now in
    let log = c.args.log.now in
    let m = c.args.contents.now in
    let counts = c.args.counts.now in
    let change = change_in m.taken c.args.change.now in
    let new = c.add_record.new.disk in
    let standing = subst (λ (p : Option Change). IsStanding d.reads d.may_leave disk log m p) c.requires.idle c.requires.standing in
    let still = λ (x : Files) (told : d.reads disk ≡ Some x). file_apart x (d.may_leave disk) (d.may_leave new) log m.state standing.shelf (standing.stands x told) c.add_record.ensures.alone.others in
    let sure = sure_apart d.reads d.may_leave start disk new m.state counts c.add_record.ensures.alone.silent still c.requires.sure in
    let said = sym c.requires.taken.says in
    let now = c.make.new.contents in
    subst (λ (p : Option Change). IsKept d.reads d.may_leave start new c.add_record.new.log now c.make.new.counts p) (sym c.requires.idle)
    (record {
      standing = kept_done d.reads d.may_leave disk new log c.add_record.new.log m now change standing c.tells_valid.ensures c.requires.may c.requires.brings c.make.ensures.state
          c.in-Ok.ensures.idle c.add_record.ensures.shelf (c.in-Ok.ensures.end ∙ ap (λ (r : Change). end_of log + 5 + length (spelled r)) said) c.add_record.ensures.alone.silent c.add_record.ensures.alone.others
          (λ files told. let a = c.in-Ok.ensures.adds files told in (a.0, a.1, subst (λ (r : Change). Adds (shelf_of log) (place_of log) files a.0 (spelled r)) said a.2))
          c.in-Ok.ensures.settled (λ files told. g.met.D.Disk.as_it_reads new files told);
      counted = c.make.ensures.counted;
      stored = tt;
      sure = sure_then d.reads d.may_leave start new m.state now.state counts c.make.new.counts change c.requires.stored c.make.ensures.state c.make.ensures.seals sure;
    })

pub returns-in-Err-clause-kept : goal.returns-in-Err-clause-kept
returns-in-Err-clause-kept g c =
    let d = g.D.Disk in
    let start = c.args.start.now.value in
    let disk = c.args.disk.now in
    let log = c.args.log.now in
    let m = c.args.contents.now in
    let counts = c.args.counts.now in
    let change = change_in m.taken c.args.change.now in
    let new = c.add_record.new.disk in
    let standing = subst (λ (p : Option Change). IsStanding d.reads d.may_leave disk log m p) c.requires.idle c.requires.standing in
    let still = λ (x : Files) (told : d.reads disk ≡ Some x). file_apart x (d.may_leave disk) (d.may_leave new) log m.state standing.shelf (standing.stands x told) c.add_record.ensures.alone.others in
    let sure = sure_apart d.reads d.may_leave start disk new m.state counts c.add_record.ensures.alone.silent still c.requires.sure in
    record {
      standing = kept_failed d.reads d.may_leave disk new log c.add_record.new.log m c.args.change.now standing c.requires.may c.requires.taken c.requires.brings c.in-Err.ensures.failed c.add_record.ensures.shelf
          c.add_record.ensures.alone.silent c.add_record.ensures.alone.others c.in-Err.ensures.unsettled;
      counted = c.requires.counted;
      stored = c.requires.stored;
      sure = sure;
    }

pub returns-in-Ok-clause-stands : goal.returns-in-Ok-clause-stands
returns-in-Ok-clause-stands g c x told =
    let d = g.D.Disk in
    let start = c.args.start.now.value in
    let disk = c.args.disk.now in
    let log = c.args.log.now in
    let m = c.args.contents.now in
    let counts = c.args.counts.now in
    let change = change_in m.taken c.args.change.now in
    let new = c.add_record.new.disk in
    let standing = subst (λ (p : Option Change). IsStanding d.reads d.may_leave disk log m p) c.requires.idle c.requires.standing in
    let run = subst (λ (r : Change). LeavesOnly d.moment d.left_since disk new (IsBeforeOrAfter (shelf_of log) (place_of log) (d.may_leave disk) (shelved (shelf_of log) x) (spelled r))) (sym c.requires.taken.says) (c.add_record.ensures.any_moment x told) in
    weaker d.moment d.left_since disk new (IsBeforeOrAfter (shelf_of log) (place_of log) (d.may_leave disk) (shelved (shelf_of log) x) (spelled (record_of change))) (StandsOr m.state (Some change)) run
    (commit_stands x (d.may_leave disk) log m.state change standing.shelf (standing.stands x told) c.requires.may (standing.manifests x told) (c.requires.brings x told))

pub returns-in-Ok-clause-opens : goal.returns-in-Ok-clause-opens
returns-in-Ok-clause-opens g c whole x told =
    let d = g.D.Disk in
    let start = c.args.start.now.value in
    let disk = c.args.disk.now in
    let log = c.args.log.now in
    let m = c.args.contents.now in
    let counts = c.args.counts.now in
    let change = change_in m.taken c.args.change.now in
    let new = c.add_record.new.disk in
    let standing = subst (λ (p : Option Change). IsStanding d.reads d.may_leave disk log m p) c.requires.idle c.requires.standing in
    let run = subst (λ (r : Change). LeavesOnly d.moment d.left_since disk new (IsBeforeOrAfter (shelf_of log) (place_of log) (d.may_leave disk) (shelved (shelf_of log) x) (spelled r))) (sym c.requires.taken.says) (c.add_record.ensures.any_moment x told) in
    weaker d.moment d.left_since disk new (IsBeforeOrAfter (shelf_of log) (place_of log) (d.may_leave disk) (shelved (shelf_of log) x) (spelled (record_of change))) (OpensOr m.state (Some change)) run
    (commit_opens x (d.may_leave disk) log m.state change standing.shelf (standing.stands x told) c.requires.may (standing.manifests x told) (c.requires.sure.versions whole x told) (c.requires.brings x told)
    (brings_of (d.may_leave disk) counts m.state change c.requires.stored (c.requires.sure.seals whole x told)))

pub returns-in-Ok-clause-store : goal.returns-in-Ok-clause-store
returns-in-Ok-clause-store g c x told =
    let d = g.D.Disk in
    let start = c.args.start.now.value in
    let disk = c.args.disk.now in
    let log = c.args.log.now in
    let m = c.args.contents.now in
    let counts = c.args.counts.now in
    let change = change_in m.taken c.args.change.now in
    let new = c.add_record.new.disk in
    let standing = subst (λ (p : Option Change). IsStanding d.reads d.may_leave disk log m p) c.requires.idle c.requires.standing in
    let side = log_side x (place_of log) (closed (standing.stands x told).settled.ends.entries (end_of log)) (live_at x log standing.shelf (standing.stands x told).settled.ends) in
    let k = c.add_record.ensures.alone.kept x told in
    (k.0, k.1, λ hash. k.2 (file_place hash) (λ e. file_no_log hash side.0 (e ∙ side.1)))

pub returns-in-Err-clause-stands : goal.returns-in-Err-clause-stands
returns-in-Err-clause-stands g c x told =
    let d = g.D.Disk in
    let start = c.args.start.now.value in
    let disk = c.args.disk.now in
    let log = c.args.log.now in
    let m = c.args.contents.now in
    let counts = c.args.counts.now in
    let change = change_in m.taken c.args.change.now in
    let new = c.add_record.new.disk in
    let standing = subst (λ (p : Option Change). IsStanding d.reads d.may_leave disk log m p) c.requires.idle c.requires.standing in
    let run = subst (λ (r : Change). LeavesOnly d.moment d.left_since disk new (IsBeforeOrAfter (shelf_of log) (place_of log) (d.may_leave disk) (shelved (shelf_of log) x) (spelled r))) (sym c.requires.taken.says) (c.add_record.ensures.any_moment x told) in
    weaker d.moment d.left_since disk new (IsBeforeOrAfter (shelf_of log) (place_of log) (d.may_leave disk) (shelved (shelf_of log) x) (spelled (record_of change))) (StandsOr m.state (Some change)) run
    (commit_stands x (d.may_leave disk) log m.state change standing.shelf (standing.stands x told) c.requires.may (standing.manifests x told) (c.requires.brings x told))

pub returns-in-Err-clause-opens : goal.returns-in-Err-clause-opens
returns-in-Err-clause-opens g c whole x told =
    let d = g.D.Disk in
    let start = c.args.start.now.value in
    let disk = c.args.disk.now in
    let log = c.args.log.now in
    let m = c.args.contents.now in
    let counts = c.args.counts.now in
    let change = change_in m.taken c.args.change.now in
    let new = c.add_record.new.disk in
    let standing = subst (λ (p : Option Change). IsStanding d.reads d.may_leave disk log m p) c.requires.idle c.requires.standing in
    let run = subst (λ (r : Change). LeavesOnly d.moment d.left_since disk new (IsBeforeOrAfter (shelf_of log) (place_of log) (d.may_leave disk) (shelved (shelf_of log) x) (spelled r))) (sym c.requires.taken.says) (c.add_record.ensures.any_moment x told) in
    weaker d.moment d.left_since disk new (IsBeforeOrAfter (shelf_of log) (place_of log) (d.may_leave disk) (shelved (shelf_of log) x) (spelled (record_of change))) (OpensOr m.state (Some change)) run
    (commit_opens x (d.may_leave disk) log m.state change standing.shelf (standing.stands x told) c.requires.may (standing.manifests x told) (c.requires.sure.versions whole x told) (c.requires.brings x told)
    (brings_of (d.may_leave disk) counts m.state change c.requires.stored (c.requires.sure.seals whole x told)))

pub returns-in-Err-clause-store : goal.returns-in-Err-clause-store
returns-in-Err-clause-store g c x told =
    let d = g.D.Disk in
    let start = c.args.start.now.value in
    let disk = c.args.disk.now in
    let log = c.args.log.now in
    let m = c.args.contents.now in
    let counts = c.args.counts.now in
    let change = change_in m.taken c.args.change.now in
    let new = c.add_record.new.disk in
    let standing = subst (λ (p : Option Change). IsStanding d.reads d.may_leave disk log m p) c.requires.idle c.requires.standing in
    let side = log_side x (place_of log) (closed (standing.stands x told).settled.ends.entries (end_of log)) (live_at x log standing.shelf (standing.stands x told).settled.ends) in
    let k = c.add_record.ensures.alone.kept x told in
    (k.0, k.1, λ hash. k.2 (file_place hash) (λ e. file_no_log hash side.0 (e ∙ side.1)))

pub returns-in-Ok-clause-places : goal.returns-in-Ok-clause-places
returns-in-Ok-clause-places g c x told =
    let d = g.D.Disk in
    let disk = c.args.disk.now in
    let log = c.args.log.now in
    let standing = subst (λ (p : Option Change). IsStanding d.reads d.may_leave disk log c.args.contents.now p) c.requires.idle c.requires.standing in
    let ends = (standing.stands x told).settled.ends in
    let a = c.in-Ok.ensures.adds x told in
    (a.0, a.1, logged_places x a.0 log (spelled c.args.change.now) standing.shelf ends a.2.others (inr a.2.log))

pub returns-in-Err-clause-places : goal.returns-in-Err-clause-places
returns-in-Err-clause-places g c x told =
    let d = g.D.Disk in
    let disk = c.args.disk.now in
    let log = c.args.log.now in
    let standing = subst (λ (p : Option Change). IsStanding d.reads d.may_leave disk log c.args.contents.now p) c.requires.idle c.requires.standing in
    let ends = (standing.stands x told).settled.ends in
    let u = c.in-Err.ensures.unsettled x told in
    let k = c.add_record.ensures.alone.kept x told in
    let others = subst (λ (now : Files). (q : List ℕ) → q ≢ place_of log → now q ≡ x q) (same_Some k.0 u.0 (sym k.1 ∙ u.1)) k.2 in
    let body = spelled c.args.change.now in
    let was = shelved (shelf_of log) x in
    let either = subst (λ (s : Shelf). (shelved s u.0 ≡ was) ⊎ (shelved s u.0 ≡ added body was)) c.add_record.ensures.shelf u.2.reads in
    (u.0, u.1, logged_places x u.0 log body standing.shelf ends others either)
