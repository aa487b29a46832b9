use Rattle.std.proofs.Common.{◌≡◌, List, sym, ◌∙◌, ap, subst, refl}
use Rattle.std.specs.Prelude.{Option, Some, option_map}
use Rattle.std.proofs.lemmas.Option.{same_Some}
use Rattle.cm_disk.proofs.Moments.{joins}
use Rattle.cm_disk.proofs.Puts.{told_before}
use Rattle.cm_pkglib.specs.declared.change.Change.{Change}
use Rattle.cm_tree.specs.declared.entry.Entry.{Entry}
use Rattle.cm_tree.specs.Manifests.{IsManifest}
use Rattle.cm_state.specs.Changes.{Begun}
use Rattle.cm_state.specs.Commits.{BringsManifest}
use Rattle.cm_state.specs.Opens.{OpensOr, StandsOr}
use Rattle.cm_state.specs.State.{Held}
use Rattle.cm_contents.specs.Contents.{taken_manifest}
use Rattle.cm_library.specs.Kept.{IsStanding, IsKept}
use Rattle.cm_library.proofs.ManifestStored.{still_standing, still_sure, storing_leaves_standing, storing_leaves_open}
use Rattle.cm_library.proofs.Sure.{sure_same}
use Rattle.cm_library.proofs.KeptPlaces.{joined_places, does_places, manifest_own}
use Rattle.cm_datalib.specs.Places.{manifest_place}
use Rattle.cm_datalib.specs.Spellings.{spelled_file}
use Rattle.cm_library.proofs.beginning.store_and_commit.Goals as goal

pub returns-in-Err-clause-kept : goal.returns-in-Err-clause-kept
returns-in-Err-clause-kept g c =
    let d = g.D.Disk in
    let m = c.args.contents.now in
    let mid = c.store.new.disk in
    subst (λ (p : Option Change). IsKept d.reads d.may_leave c.args.start.now.value mid c.args.log.now m c.uncount_taken.new.counts p) (sym c.requires.idle)
    (record {
      standing = still_standing d.reads d.may_leave c.args.start.now.value c.args.disk.now mid c.args.log.now m c.args.counts.now c.args.pending.now c.args.job c.args.«package» c.args.version (taken_manifest m.taken) c.requires.idle c.requires.standing c.requires.sure c.requires.may c.store.ensures.work.silent c.store.ensures.others (g.met.D.Disk.as_it_reads mid);
      counted = c.uncount_taken.ensures.counted;
      stored = tt;
      sure = sure_same d.reads d.may_leave c.args.start.now.value mid m.state c.args.counts.now c.uncount_taken.new.counts c.uncount_taken.ensures.seals
          (still_sure d.reads d.may_leave c.args.start.now.value c.args.disk.now mid c.args.log.now m c.args.counts.now c.args.pending.now c.args.job c.args.«package» c.args.version (taken_manifest m.taken) c.requires.idle c.requires.standing c.requires.sure c.requires.may c.store.ensures.work.silent c.store.ensures.others);
    })

pub returns-in-Err-clause-stands : goal.returns-in-Err-clause-stands
returns-in-Err-clause-stands g c =
    let d = g.D.Disk in
    let m = c.args.contents.now in
    let mid = c.store.new.disk in
    storing_leaves_standing d.reads d.may_leave c.args.start.now.value c.args.disk.now mid c.args.log.now m c.args.counts.now c.args.pending.now c.args.job c.args.«package» c.args.version (taken_manifest m.taken) c.requires.idle c.requires.standing c.requires.sure c.requires.may d.moment d.left_since c.store.ensures.run

pub returns-in-Err-clause-opens : goal.returns-in-Err-clause-opens
returns-in-Err-clause-opens g c =
    let d = g.D.Disk in
    let m = c.args.contents.now in
    let mid = c.store.new.disk in
    storing_leaves_open d.reads d.may_leave c.args.start.now.value c.args.disk.now mid c.args.log.now m c.args.counts.now c.args.pending.now c.args.job c.args.«package» c.args.version (taken_manifest m.taken) c.requires.idle c.requires.standing c.requires.sure c.requires.may d.moment d.left_since c.store.ensures.run

pub commit-requires-clause-standing : goal.commit-requires-clause-standing
commit-requires-clause-standing g c =
    let d = g.D.Disk in
    let m = c.args.contents.now in
    let mid = c.store.new.disk in
    subst (λ (p : Option Change). IsStanding d.reads d.may_leave mid c.args.log.now m p) (sym c.requires.idle)
    (still_standing d.reads d.may_leave c.args.start.now.value c.args.disk.now mid c.args.log.now m c.args.counts.now c.args.pending.now c.args.job c.args.«package» c.args.version (taken_manifest m.taken) c.requires.idle c.requires.standing c.requires.sure c.requires.may c.store.ensures.work.silent c.store.ensures.others (g.met.D.Disk.as_it_reads mid))

pub commit-requires-clause-sure : goal.commit-requires-clause-sure
commit-requires-clause-sure g c =
    let d = g.D.Disk in
    let m = c.args.contents.now in
    let mid = c.store.new.disk in
    still_sure d.reads d.may_leave c.args.start.now.value c.args.disk.now mid c.args.log.now m c.args.counts.now c.args.pending.now c.args.job c.args.«package» c.args.version (taken_manifest m.taken) c.requires.idle c.requires.standing c.requires.sure c.requires.may c.store.ensures.work.silent c.store.ensures.others

pub commit-requires-clause-brings : goal.commit-requires-clause-brings
commit-requires-clause-brings g c x told =
    let d = g.D.Disk in
    let m = c.args.contents.now in
    let stored = c.in-Some.manifest.now in
    let same : stored ≡ taken_manifest m.taken = same_Some stored (taken_manifest m.taken) (c.in-Some.ensures ∙ ap (λ (o : Option Held). option_map (λ (held : Held). held.manifest) o) c.requires.taken) in
    let before = told_before (d.reads c.args.disk.now) (d.reads c.store.new.disk) c.store.ensures.work.silent x told in
    subst (λ (es : List Entry). BringsManifest (d.may_leave c.store.new.disk) (Begun c.args.job c.args.«package» c.args.version es)) same
    (subst IsManifest c.entries.ensures.value c.entries.ensures.form, c.in-Ok.ensures.durable before.0 before.1)

pub returns-clause-stands : goal.returns-clause-stands
returns-clause-stands g c x told =
    let d = g.D.Disk in
    let m = c.args.contents.now in
    let mid = c.store.new.disk in
    let Or = StandsOr m.state (Some (Begun c.args.job c.args.«package» c.args.version (taken_manifest m.taken))) in
    joins d.moment d.left_since c.args.disk.now mid c.commit.new.disk Or Or (storing_leaves_standing d.reads d.may_leave c.args.start.now.value c.args.disk.now mid c.args.log.now m c.args.counts.now c.args.pending.now c.args.job c.args.«package» c.args.version (taken_manifest m.taken) c.requires.idle c.requires.standing c.requires.sure c.requires.may d.moment d.left_since c.store.ensures.run x told)
    (c.commit.ensures.stands _ (c.in-Ok.ensures.work.ok x told)) (λ left or. or)

pub returns-clause-opens : goal.returns-clause-opens
returns-clause-opens g c whole x told =
    let d = g.D.Disk in
    let m = c.args.contents.now in
    let mid = c.store.new.disk in
    let Or = OpensOr m.state (Some (Begun c.args.job c.args.«package» c.args.version (taken_manifest m.taken))) in
    joins d.moment d.left_since c.args.disk.now mid c.commit.new.disk Or Or (storing_leaves_open d.reads d.may_leave c.args.start.now.value c.args.disk.now mid c.args.log.now m c.args.counts.now c.args.pending.now c.args.job c.args.«package» c.args.version (taken_manifest m.taken) c.requires.idle c.requires.standing c.requires.sure c.requires.may d.moment d.left_since c.store.ensures.run whole x told)
    (c.commit.ensures.opens whole _ (c.in-Ok.ensures.work.ok x told)) (λ left or. or)

pub returns-in-Err-clause-places : goal.returns-in-Err-clause-places
returns-in-Err-clause-places g c =
    let d = g.D.Disk in
    let id = c.args.«package» in
    let own = manifest_own id c.args.version c.requires.may.form c.requires.may.version_range.0 c.requires.may.version_range.1 in
    does_places (d.reads c.args.disk.now) (d.reads c.store.new.disk) (manifest_place id c.args.version) (spelled_file c.in-Some.manifest.now) c.store.result own (λ file. refl) c.store.ensures.work

pub returns-clause-places : goal.returns-clause-places
returns-clause-places g c =
    let d = g.D.Disk in
    let id = c.args.«package» in
    let own = manifest_own id c.args.version c.requires.may.form c.requires.may.version_range.0 c.requires.may.version_range.1 in
    joined_places (d.reads c.args.disk.now) (d.reads c.store.new.disk) (d.reads c.commit.new.disk)
    (does_places (d.reads c.args.disk.now) (d.reads c.store.new.disk) (manifest_place id c.args.version) (spelled_file c.in-Some.manifest.now) c.store.result own (λ file. refl) c.store.ensures.work)
    c.commit.ensures.places
