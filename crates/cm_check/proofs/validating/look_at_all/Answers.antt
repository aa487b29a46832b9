use Rattle.std.proofs.Common.{◌≡◌, ◌<◌, List, [], ◌++◌, sym, ◌∙◌, ap, subst, arith}
use Rattle.std.specs.List.{cons_option}
use Rattle.std.specs.Prelude.{find, slice_get, None}
use Rattle.std.proofs.lemmas.List.{take_all}
use Rattle.cm_contents.specs.Seals.{version_manifest}
use Rattle.cm_log.proofs.Frames.{only_start, only_then}
use Rattle.cm_pkglib.specs.Rows.{is_of}
use Rattle.cm_state.specs.State.{Held, State}
use Rattle.cm_library.specs.Reading.{entry_fault}
use Rattle.cm_check.specs.Findings.{findings}
use Rattle.cm_check.specs.declared.finding.Finding.{Finding}
use Rattle.cm_check.proofs.Found.{found_next}
use Rattle.cm_check.proofs.Told.{entry_there, looks_itself, looks_then}
use Rattle.cm_check.proofs.validating.look_at_all.Goals as goal

pub loop-entry-init : goal.loop-entry-init
loop-entry-init g c =
    let d = g.D.Disk in
    let disk = c.args.library.now.disk in
    record {
      looks = looks_itself d.reads c.args.library.now;
      only = only_start d.reads d.may_leave d.moment d.left_since d.faults disk (g.met.D.Disk.only_now disk);
      found = λ files told. c.new-list.ensures.items;
    }

pub look_at-requires-clause-there : goal.look_at-requires-clause-there
look_at-requires-clause-there g c =
    let first = c.args.library.now in
    let within : c.loop-entry.entry < c.args.entries = omega (arith, c.loop-entry-test.true) in
    subst (λ (s : State). entry_fault s c.args.«package» c.args.version c.loop-entry.entry ≡ None) (sym c.loop-entry.invariant.looks.rows.state)
    (entry_there (find (λ (held : Held). is_of c.args.«package» c.args.version held.row) first.state.versions) c.loop-entry.entry c.requires.version (omega (arith, within, c.requires.entries)))

pub loop-entry-preserved : goal.loop-entry-preserved
loop-entry-preserved g c =
    let d = g.D.Disk in
    let i = c.loop-entry.invariant in
    let first = c.args.library.now in
    let n = c.loop-entry.entry in
    let manifest = version_manifest c.args.«package» c.args.version first.state in
    let finding = c.in-Ok.finding in
    record {
      looks = looks_then d.reads first c.loop-entry.library c.look_at.new.library i.looks c.look_at.ensures.looks;
      only = only_then i.only c.look_at.ensures.only;
      found = λ files told.
          c.in-Ok-keep.ensures
          ∙ ap (λ (l : List Finding). l ++ cons_option finding []) (i.found files told)
          ∙ found_next files manifest n finding (omega (arith, c.loop-entry-test.true, c.requires.entries))
          (λ e at. c.in-Ok.ensures.found e (ap (λ (s : State). slice_get (version_manifest c.args.«package» c.args.version s) n) i.looks.rows.state ∙ at) files (i.looks.same ∙ told));
    }

pub returns-in-Err-keep-clause-only : goal.returns-in-Err-keep-clause-only
returns-in-Err-keep-clause-only g c = only_then c.loop-entry.invariant.only c.look_at.ensures.only

pub returns-in-Err-clause-only : goal.returns-in-Err-clause-only
returns-in-Err-clause-only g c = only_then c.loop-entry.invariant.only c.look_at.ensures.only

pub returns-clause-found : goal.returns-clause-found
returns-clause-found g c files told =
    let manifest = version_manifest c.args.«package» c.args.version c.args.library.now.state in
    c.loop-entry.invariant.found files told
    ∙ ap (findings files) (take_all c.loop-entry.entry manifest (omega (arith, c.requires.entries, c.loop-entry-test.false)))
