use Rattle.std.proofs.Common.{◌≡◌, ℕ, List, refl, sym, ◌∙◌, ap, subst}
use Rattle.std.specs.Prelude.{Option, None}
use Rattle.cm_base.specs.declared.hash.Hash.{Hash}
use Rattle.cm_pkglib.specs.declared.counts.Seal.{Seal}
use Rattle.cm_pkglib.proofs.Times.{seals_are}
use Rattle.cm_state.specs.Look.{gate_at}
use Rattle.cm_state.specs.Opens.{EachOpensSome}
use Rattle.cm_state.proofs.Standing.{live_at}
use Rattle.cm_contents.specs.Seals.{found_seal, version_entries, SealsVersions}
use Rattle.cm_contents.proofs.Counted.{found_named}
use Rattle.cm_filelib.specs.declared.writing.Writing.{Writing}
use Rattle.cm_pkglib.specs.Counts.{sealed_of}
use Rattle.cm_library.specs.Started.{AreStarted}
use Rattle.cm_library.proofs.Sure.{sure_opened}
use Rattle.cm_state.proofs.ImagesOpen.{each_opens}
use Rattle.cm_state.proofs.WholeAtOpening.{versions_sure}
use Rattle.cm_library.proofs.library.Library.open.Goals as goal

pub returns-in-Ok-read_library-clause-whole : goal.returns-in-Ok-read_library-clause-whole
returns-in-Ok-read_library-clause-whole g c whole x told =
    let d = g.D.Disk in
    let was = d.may_leave c.args.disk in
    let now = d.may_leave c.read_library.new.disk in
    let t = c.read_library.ensures.only.same ∙ told in
    let st = c.in-Ok-read_library.ensures.stands x t in
    let versions = versions_sure x was now c.in-Ok-read_library.contents.state whole c.read_library.ensures.only.stop (g.met.D.Disk.as_it_reads c.read_library.new.disk x t) st.stands in
    each_opens x now c.in-Ok-read_library.log c.in-Ok-read_library.contents.state c.in-Ok-read_library.ensures.ready.shelf st (c.in-Ok-read_library.ensures.manifests x t) versions

pub invariant_of-result : goal.invariant_of-result
invariant_of-result g c =
    let d = g.D.Disk in
    let was = d.may_leave c.args.disk in
    let disk = c.read_library.new.disk in
    let start = c.of-start.result.value in
    let state = c.in-Ok-read_library.contents.state in
    let found = c.in-Ok-read_library.ensures in
    record {
      kept = record {
        standing = record { shelf = found.ready.shelf; idle_or = found.ready.idle; fit = found.ready.fit; stands = found.stands; manifests = found.manifests };
        counted = found.counted;
        stored = tt;
        sure = sure_opened d.reads d.may_leave start disk state c.in-Ok-read_library.counts found.seals
            (λ whole x told. versions_sure x was (d.may_leave disk) state (subst (λ (v : g.row.D.Denot). EachOpensSome (d.may_leave v)) c.of-start.ensures whole) c.read_library.ensures.only.stop (g.met.D.Disk.as_it_reads disk x told) (found.stands x told).stands);
      };
      files = subst (λ (xs : List (ℕ × Writing)). AreStarted (d.reads disk) state (λ hash. sealed_of c.in-Ok-read_library.counts hash) None xs) (sym c.in-Ok.ensures.none)
          (record { each = tt; apart = tt; written = λ x told. tt; ending = tt });
      enough = c.in-Ok.ensures.room;
    }

pub returns-in-Ok-read_library-clause-found : goal.returns-in-Ok-read_library-clause-found
returns-in-Ok-read_library-clause-found g c =
    let found = c.in-Ok-read_library.ensures in
    let counts = c.in-Ok-read_library.counts in
    let state = c.in-Ok-read_library.contents.state in
    record {
      start_is = c.of-start.ensures;
      settled = refl;
      stands = λ x told. (found.stands x (c.read_library.ensures.only.same ∙ told)).stands;
      gate = λ x told. ap gate_at (live_at x c.in-Ok-read_library.log found.ready.shelf (found.stands x (c.read_library.ensures.only.same ∙ told)).settled.ends);
      same = c.read_library.ensures.only.same;
      manifests = λ x told. found.manifests x (c.read_library.ensures.only.same ∙ told);
      started = c.in-Ok.ensures.none;
      seals = subst (λ (f : Hash → Option Seal). (hash : Hash) → f hash ≡ found_seal None hash (version_entries state)) (seals_are counts) found.seals;
      of_versions = subst (λ (f : Hash → Option Seal). SealsVersions f state) (seals_are counts) (found_named counts state found.seals found.counted);
    }
