-- The ends of `what-if` and `validate` on an opened library.
use Rattle.std.proofs.Common.{◌≡◌, ℕ, Bool, true, false, if◌then◌else◌, List, [], length, Option, None, Some, refl, sym, ◌∙◌, ap, subst}
use Rattle.std.specs.Prelude.{find, option_map}
use Rattle.std.specs.Option.{ForSome}
use Rattle.std.proofs.lemmas.Bool.{false≢true}
use Rattle.std.proofs.lemmas.Option.{none-some, same_Some}
use Rattle.cm_base.specs.Causes.{Rose}
use Rattle.cm_check.specs.Findings.{findings}
use Rattle.cm_check.specs.Looks.{Looks}
use Rattle.cm_check.specs.declared.finding.Finding.{Finding}
use Rattle.cm_contents.specs.Seals.{version_manifest, manifest_or_none}
use Rattle.cm_disk.specs.Disk.{File, Files, IsImage, LeavesOnly}
use Rattle.cm_disk.specs.Walks.{AreListed}
use Rattle.cm_disk.proofs.Moments.{weaker}
use Rattle.cm_library.specs.Kept.{Seen}
use Rattle.cm_pkglib.specs.Rows.{is_of}
use Rattle.cm_state.specs.Changes.{StateChange}
use Rattle.cm_state.specs.Opens.{Opens, OpensOr, EachOpensSome}
use Rattle.cm_state.specs.Purged.{loose}
use Rattle.cm_state.specs.State.{Held, State}
use Rattle.cm_tree.specs.declared.entry.Entry.{Entry}
use Rattle.cm_site.specs.OneEnds.{OneEndsOn}
use Rattle.cm_site.specs.OneLibrary.{Given, Step, told, validated, validate, what_if}
use Rattle.cm_site.specs.Opened.{IsOpened}
use Rattle.cm_site.specs.Runs.{Sourced}
use Rattle.cm_site.specs.declared.reply.Reply.TheVariants.{Findings, Loose, Disk, Memory}
use Rattle.cm_site.proofs.Closing.{Leaves, one_state}
use Rattle.cm_site.proofs.ReadEnds.{OnlyRead, ends_read, ends_memory, ends_unread}
use Rattle.cm_site.proofs.SomeFiles.{amiss_or, amiss_told, given_at, starts_at}

-- what is amiss by what a disk reads as, or this where it doesn't tell
amiss_with : Option Files → List Finding → List Entry → List Finding
amiss_with None list manifest = list
amiss_with (Some files) list manifest = findings files manifest

amiss_told_with : (reads : Option Files) (list : List Finding) → ForSome reads (λ files. (manifest : List Entry) → amiss_with reads list manifest ≡ findings files manifest)
unfolding amiss_with
amiss_told_with None list files told = absurd (none-some files told)
amiss_told_with (Some was) list files told = λ manifest. ap (λ (f : Files). findings f manifest) (same_Some was files told)

-- it is what was found
amiss_is : (reads : Option Files) (list : List Finding) (manifest : List Entry) → ForSome reads (λ files. list ≡ findings files manifest) → amiss_with reads list manifest ≡ list
unfolding amiss_with
amiss_is None list manifest found = refl
amiss_is (Some files) list manifest found = sym (found files refl)

-- the version whose files were counted
pub its_version : (id : List ℕ) (version : ℕ) (state : State) (files : ℕ) → option_map (λ (held : Held). length held.manifest) (find (λ (held : Held). is_of id version held.row) state.versions) ≡ Some files
    → (held : Held) × (find (λ (held : Held). is_of id version held.row) state.versions ≡ Some held) × (length held.manifest ≡ files)
its_version id version state files is = by (find (λ (held : Held). is_of id version held.row) state.versions) refl is
  where
    by : (o : Option Held) → find (λ (held : Held). is_of id version held.row) state.versions ≡ o → option_map (λ (held : Held). length held.manifest) o ≡ Some files
        → (held : Held) × (find (λ (held : Held). is_of id version held.row) state.versions ≡ Some held) × (length held.manifest ≡ files)
    by None found none = absurd (cc)
    by (Some held) found some = (held, found, cc)

-- there is none
pub no_version : (id : List ℕ) (version : ℕ) (state : State) → option_map (λ (held : Held). length held.manifest) (find (λ (held : Held). is_of id version held.row) state.versions) ≡ None
    → find (λ (held : Held). is_of id version held.row) state.versions ≡ None
no_version id version state is = by (find (λ (held : Held). is_of id version held.row) state.versions) is
  where
    by : (o : Option Held) → option_map (λ (held : Held). length held.manifest) o ≡ None → o ≡ None
    by None none = refl
    by (Some held) some = absurd (cc)

-- a crash leaves what one before might have left, which opens to the library
pub moments_read : {D : Type 0} (reads : D → Option Files) (may_leave : D → List ℕ → File → Type 0) (moment : D → ℕ) (left_since : D → ℕ → Files → Type 0) (faults : D → ℕ) (was now : Seen D)
    → IsOpened reads may_leave moment left_since faults was → Leaves reads may_leave was → LeavesOnly moment left_since was.disk now.disk (IsImage (may_leave was.disk))
    → EachOpensSome (may_leave was.start) → ForSome (reads was.disk) (λ _. LeavesOnly moment left_since was.disk now.disk (λ image. Opens image was.state))
moments_read reads may_leave moment left_since faults was now open_is before run whole files told =
    weaker moment left_since was.disk now.disk (IsImage (may_leave was.disk)) (λ image. Opens image was.state) run
    (λ image left. one_state image was.state (subst (λ (o : Option StateChange). OpensOr was.state o image) open_is.settled (before.opens whole files told image left)))

module _ {D : Type 0} (reads : D → Option Files) (may_leave : D → List ℕ → File → Type 0) (moment : D → ℕ) (left_since : D → ℕ → Files → Type 0) (faults : D → ℕ) (was now : Seen D)
    (open_is : IsOpened reads may_leave moment left_since faults was) (looks : Looks reads was now)
    (moments : EachOpensSome (may_leave was.start) → ForSome (reads was.disk) (λ _. LeavesOnly moment left_since was.disk now.disk (λ image. Opens image was.state)))
    (leaves : Leaves reads may_leave now) (bay : List ℕ) (from to : Sourced) where
  read : OnlyRead reads may_leave moment left_since was now
  read = record {
    same = looks.same;
    state = looks.rows.state;
    start = looks.rows.start;
    pending = looks.rows.pending;
    moments = moments;
  }

  -- what-if

  abbrev loose_given : List (List ℕ) → Given
  loose_given places = given_at from.shown was.end (amiss_or (reads was.start)) places

  abbrev what_if_step : Given → State → Step
  what_if_step given state = what_if given

  pub ends_loose : (places : List (List ℕ)) → ForSome (reads was.disk) (λ files. AreListed (loose was.state files) places)
      → OneEndsOn reads may_leave moment left_since faults bay was.state was.end what_if_step from to (Loose places) was.start now.disk
  ends_loose places listed =
      ends_read reads may_leave moment left_since faults bay was now open_is read leaves what_if_step from to (loose_given places)
      (starts_at from to (reads was.start) was.end (amiss_or (reads was.start)) places (amiss_told (reads was.start))) refl (Loose places) true tt
      (λ asks files told. listed files (open_is.same ∙ told)) refl

  pub what_if_memory : OneEndsOn reads may_leave moment left_since faults bay was.state was.end what_if_step from to Memory was.start now.disk
  what_if_memory =
      ends_memory reads may_leave moment left_since faults bay was now open_is read leaves what_if_step from to (loose_given [])
      (starts_at from to (reads was.start) was.end (amiss_or (reads was.start)) [] (amiss_told (reads was.start))) refl (Loose []) true refl

  pub what_if_unread : ((files : Files) → reads now.disk ≡ Some files → IsImage (may_leave now.disk) files) → Rose (faults was.disk) (faults now.disk)
      → OneEndsOn reads may_leave moment left_since faults bay was.state was.end what_if_step from to (Disk bay) was.start now.disk
  what_if_unread =
      ends_unread reads may_leave moment left_since faults bay was now open_is read leaves what_if_step from to (loose_given [])
      (starts_at from to (reads was.start) was.end (amiss_or (reads was.start)) [] (amiss_told (reads was.start))) refl (Loose []) true refl

  -- validate

  module _ (id : List ℕ) (version : ℕ) where
    abbrev found : Option Held
    found = find (λ (held : Held). is_of id version held.row) was.state.versions

    abbrev findings_given : List Finding → Given
    findings_given list = given_at from.shown was.end (amiss_with (reads was.start) list) []

    validate_is : (given : Given) (held : Held) → found ≡ Some held → validate id version given was.state ≡ validated given (Some held)
    validate_is given held is = ap (λ (o : Option Held). validated given o) is

    -- the files are compared with the manifest
    pub ends_findings : (held : Held) → found ≡ Some held → (list : List Finding) → ForSome (reads was.disk) (λ files. list ≡ findings files (version_manifest id version was.state))
        → OneEndsOn reads may_leave moment left_since faults bay was.state was.end (validate id version) from to (Findings (length held.manifest) list) was.start now.disk
    ends_findings held is list agrees =
        let given = findings_given list in
        let of_held : version_manifest id version was.state ≡ held.manifest = ap (λ (o : Option Held). manifest_or_none o) is in
        let so : ForSome (reads was.start) (λ files. list ≡ findings files held.manifest) = λ files start. agrees files (open_is.same ∙ start) ∙ ap (λ (m : List Entry). findings files m) of_held in
        ends_read reads may_leave moment left_since faults bay was now open_is read leaves (validate id version) from to given
        (starts_at from to (reads was.start) was.end (amiss_with (reads was.start) list) [] (amiss_told_with (reads was.start) list)) refl (Findings (length held.manifest) list) false tt
        (λ asks. absurd (false≢true asks)) (validate_is given held is ∙ ap (λ (l : List Finding). told (Findings (length held.manifest) l)) (amiss_is (reads was.start) list held.manifest so))

    pub validate_memory : (held : Held) → found ≡ Some held → OneEndsOn reads may_leave moment left_since faults bay was.state was.end (validate id version) from to Memory was.start now.disk
    validate_memory held is =
        ends_memory reads may_leave moment left_since faults bay was now open_is read leaves (validate id version) from to (findings_given [])
        (starts_at from to (reads was.start) was.end (amiss_with (reads was.start) []) [] (amiss_told_with (reads was.start) [])) refl
        (Findings (length held.manifest) (amiss_with (reads was.start) [] held.manifest)) false (validate_is (findings_given []) held is)

    pub validate_unread : (held : Held) → found ≡ Some held → ((files : Files) → reads now.disk ≡ Some files → IsImage (may_leave now.disk) files) → Rose (faults was.disk) (faults now.disk)
        → OneEndsOn reads may_leave moment left_since faults bay was.state was.end (validate id version) from to (Disk bay) was.start now.disk
    validate_unread held is =
        ends_unread reads may_leave moment left_since faults bay was now open_is read leaves (validate id version) from to (findings_given [])
        (starts_at from to (reads was.start) was.end (amiss_with (reads was.start) []) [] (amiss_told_with (reads was.start) [])) refl
        (Findings (length held.manifest) (amiss_with (reads was.start) [] held.manifest)) false (validate_is (findings_given []) held is)
