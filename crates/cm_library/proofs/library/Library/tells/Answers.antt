use Rattle.std.proofs.Common.{◌≡◌, subst, None}
use Rattle.std.specs.Prelude.{Option}
use Rattle.std.specs.Option.{ForSome}
use Rattle.cm_base.specs.declared.hash.Hash.{Hash}
use Rattle.cm_disk.specs.Disk.{Files, IsImage}
use Rattle.cm_pkglib.specs.declared.counts.Seal.{Seal}
use Rattle.cm_pkglib.specs.Counts.{seal_at}
use Rattle.cm_pkglib.proofs.Times.{seals_are}
use Rattle.cm_state.specs.Look.{Opened, look}
use Rattle.cm_state.specs.Opens.{OpensOr, StandsOr, EachOpensSome}
use Rattle.cm_contents.specs.Seals.{SealsNeeded, AreVersionsSealed}
use Rattle.cm_library.specs.Kept.{Seen, pending_in, AreSealsSure, AreSealsSureSince}
use Rattle.cm_library.specs.Started.{AreStarted}
use Rattle.cm_library.proofs.NamedSealed.{named_sealed}
use Rattle.cm_library.proofs.Keeps.{kept_files, kept_stands}
use Rattle.cm_library.proofs.Sure.{kept_opens}
use Rattle.cm_library.proofs.library.Library.tells.Goals as goal

pub returns-clause-files : goal.returns-clause-files
returns-clause-files g c =
    let d = g.D.Disk in
    let s = c.self.inside in
    subst (λ (v : Seen g.row.D.Denot). ForSome (d.reads v.disk) (λ files. v.pending ≡ None → look files ≡ Opened v.state)) c.self.view_is
    (kept_files d.reads d.may_leave s.disk s.log s.contents s.pending c.self.invariant.kept.standing)

pub returns-clause-stands : goal.returns-clause-stands
returns-clause-stands g c =
    let d = g.D.Disk in
    let s = c.self.inside in
    subst (λ (v : Seen g.row.D.Denot). ForSome (d.reads v.disk) (λ files. (image : Files) → IsImage (d.may_leave v.disk) image → StandsOr v.state v.pending image)) c.self.view_is
    (kept_stands d.reads d.may_leave s.disk s.log s.contents s.pending c.self.invariant.kept.standing)

pub returns-clause-opens : goal.returns-clause-opens
returns-clause-opens g c =
    let d = g.D.Disk in
    let s = c.self.inside in
    subst (λ (v : Seen g.row.D.Denot). EachOpensSome (d.may_leave v.start) → ForSome (d.reads v.disk) (λ files. (image : Files) → IsImage (d.may_leave v.disk) image → OpensOr v.state v.pending image)) c.self.view_is
    (kept_opens d.reads d.may_leave s.start.value s.disk s.log s.contents s.counts s.pending c.self.invariant.kept)

pub returns-clause-needed : goal.returns-clause-needed
returns-clause-needed g c =
    let s = c.self.inside in
    subst (λ (v : Seen g.row.D.Denot). SealsNeeded (seal_at v.seals) v.state) c.self.view_is
    (subst (λ (f : Hash → Option Seal). SealsNeeded f s.contents.state) (seals_are s.counts) c.self.invariant.kept.counted.sealed_needed)

pub returns-clause-versions : goal.returns-clause-versions
returns-clause-versions g c =
    let s = c.self.inside in
    subst (λ (v : Seen g.row.D.Denot). AreVersionsSealed (seal_at v.seals) v.state) c.self.view_is
    (subst (λ (f : Hash → Option Seal). AreVersionsSealed f s.contents.state) (seals_are s.counts)
    (named_sealed s.counts s.contents.state c.self.invariant.kept.counted.versions_sealed))

pub returns-clause-since : goal.returns-clause-since
returns-clause-since g c =
    let d = g.D.Disk in
    let s = c.self.inside in
    subst (λ (v : Seen g.row.D.Denot). ForSome (d.reads v.disk) (λ _. AreSealsSureSince (d.may_leave v.disk) (seal_at v.seals))) c.self.view_is
    (subst (λ (f : Hash → Option Seal). ForSome (d.reads s.disk) (λ _. AreSealsSureSince (d.may_leave s.disk) f)) (seals_are s.counts) c.self.invariant.kept.sure.since)

pub returns-clause-started : goal.returns-clause-started
returns-clause-started g c =
    let d = g.D.Disk in
    let s = c.self.inside in
    subst (λ (v : Seen g.row.D.Denot). AreStarted (d.reads v.disk) v.state (seal_at v.seals) v.pending v.started) c.self.view_is
    (subst (λ (f : Hash → Option Seal). AreStarted (d.reads s.disk) s.contents.state f (pending_in s.contents.taken s.pending) s.started.items) (seals_are s.counts) c.self.invariant.files)

pub returns-clause-sealed : goal.returns-clause-sealed
returns-clause-sealed g c =
    let d = g.D.Disk in
    let s = c.self.inside in
    subst (λ (v : Seen g.row.D.Denot). EachOpensSome (d.may_leave v.start) → ForSome (d.reads v.disk) (λ _. AreSealsSure (d.may_leave v.disk) (seal_at v.seals))) c.self.view_is
    (subst (λ (f : Hash → Option Seal). EachOpensSome (d.may_leave s.start.value) → ForSome (d.reads s.disk) (λ _. AreSealsSure (d.may_leave s.disk) f)) (seals_are s.counts) c.self.invariant.kept.sure.seals)
