-- The records stay on their disk.
use Rattle.std.proofs.Common.{◌≡◌, inl, ℕ, ◌+◌, ◌<◌, ◌^◌, true, false, List, length, sym, ◌∙◌, ap, subst}
use Rattle.std.specs.Prelude.{◌≢◌, Option, None, Some}
use Rattle.std.specs.Option.{ForSome}
use Rattle.std.proofs.lemmas.Option.{same_Some, none-some}
use Rattle.cm_disk.specs.Disk.{File, Files, IsImage, LeavesNoMore, Only}
use Rattle.cm_disk.proofs.Puts.{told_before}
use Rattle.cm_log.specs.declared.shelf.Shelf.{Shelf}
use Rattle.cm_log.specs.declared.shelf.Shelf.TheVariants.{Site}
use Rattle.cm_log.specs.declared.state.Log.{Log}
use Rattle.cm_log.specs.Logs.{Shelved, shelved, added}
use Rattle.cm_log.specs.Outcomes.{IsPending, IsFound}
use Rattle.cm_log.specs.Settled.{shelf_of, place_of, end_of, is_settled, IsSettled, IsUnsettled, Adds}
use Rattle.cm_notes.specs.Notes.{IsNote, spelled}
use Rattle.cm_register.specs.Opens.{OpensOr, noted}
use Rattle.cm_register.specs.Records.{Records}
use Rattle.cm_register.specs.Texts.{names_text}
use Rattle.cm_state.specs.Look.{gate_at}
use Rattle.cm_state.proofs.Standing.{settled_apart}
use Rattle.cm_textlib.specs.Places.{topology_place}
use Rattle.cm_records.specs.declared.pending.Pending.{Pending}
use Rattle.cm_records.specs.Kept.{note_in, noted_in, pending_in, BringsText, IsPendingAt, IsRecords, StandsIn}
use Rattle.cm_records.specs.Laws.{LawsBelow}
use Rattle.cm_records.specs.Seen.{Reads}
use Rattle.cm_records.proofs.Standing.{live_at, text_apart, text_elsewhere, texts_kept, brings_kept, image_opens, own_place, beside_log, beside_opens, unsettled_opens, stands_with, stands_without}

-- what was added, where the files have names of their own
adds_told : (old new : Option Files) (log : Log) (files x : Files) (body : List ℕ) → shelf_of log ≡ Site → (now : Files) × (new ≡ Some now) × Adds (shelf_of log) (place_of log) files now body → new ≡ Some x
    → shelved Site x ≡ added body (shelved Site files)
adds_told old new log files x body shelf adds told =
    subst (λ (h : Shelf). shelved h x ≡ added body (shelved h files)) shelf
    (subst (λ (f : Files). shelved (shelf_of log) f ≡ added body (shelved (shelf_of log) files)) (same_Some adds.0 x (sym adds.1 ∙ told)) adds.2.log)

module _ (laws : LawsBelow) {D : Type 0} (reads : D → Option Files) (may_leave : D → List ℕ → File → Type 0) where
  -- a record was committed
  pub kept_done : (old new : D) (log log' : Log) (kept kept' : Records) (one : Pending) → IsRecords reads may_leave old log kept None → IsNote (note_in one)
      → ForSome (reads old) (λ files. BringsText (may_leave old) one)
      → kept' ≡ noted (noted_in one) kept → is_settled log' ≡ true → shelf_of log' ≡ shelf_of log
      → (reads old ≡ None → reads new ≡ None) → ((q : List ℕ) (left : File) → q ≢ place_of log → may_leave new q left → may_leave old q left)
      → ForSome (reads old) (λ files. (now : Files) × (reads new ≡ Some now) × Adds (shelf_of log) (place_of log) files now (spelled (note_in one)))
      → ForSome (reads new) (λ files. IsSettled files (may_leave new) log') → ((files : Files) → reads new ≡ Some files → IsImage (may_leave new) files)
      → IsRecords reads may_leave new log' kept' None
  kept_done old new log log' kept kept' one records form brings is idle shelf silent others adds settled image = record {
    shelf = shelf ∙ records.shelf;
    idle_or = idle;
    stands = λ x told.
        let before = told_before (reads old) (reads new) silent x told in
        let st = records.stands before.0 before.1 in
        let still = λ (number : ℕ) (left : File) (l : may_leave new (topology_place number) left). others (topology_place number) left (text_apart laws before.0 log records.shelf st.settled.ends number) l in
        subst (λ (r : Records). StandsIn x (may_leave new) log' r) (sym is)
        (stands_with laws before.0 x (may_leave new) log' kept one (place_of log) st.settled.ends.entries (end_of log) (live_at before.0 log records.shelf st.settled.ends) st.stands form
        (texts_kept before.0 (may_leave old) (may_leave new) still st.texts) (brings_kept (may_leave old) (may_leave new) one still (brings before.0 before.1)) (image x told) (settled x told)
        (adds_told (reads old) (reads new) log before.0 x (spelled (note_in one)) records.shelf (adds before.0 before.1) told));
  }

  -- it failed, and is pending
  pub kept_failed : (old new : D) (log log' : Log) (kept : Records) (one : Pending) → IsRecords reads may_leave old log kept None → IsNote (note_in one)
      → ForSome (reads old) (λ files. BringsText (may_leave old) one)
      → IsPending log log' (spelled (note_in one)) → shelf_of log' ≡ shelf_of log
      → (reads old ≡ None → reads new ≡ None) → ((q : List ℕ) (left : File) → q ≢ place_of log → may_leave new q left → may_leave old q left)
      → ForSome (reads old) (λ files. (now : Files) × (reads new ≡ Some now) × IsUnsettled now (may_leave new) log' (shelved (shelf_of log) files) (spelled (note_in one)))
      → IsRecords reads may_leave new log' kept (Some one)
  kept_failed old new log log' kept one records form brings pending shelf silent others unsettled = record {
    shelf = shelf ∙ records.shelf;
    idle_or = record {
      unsettled = pending.idle;
      end_with = pending.end_with ∙ ap (λ (n : ℕ). n + 5 + length (spelled (note_in one))) (sym pending.end);
      form = form;
    };
    stands = λ x told.
        let before = told_before (reads old) (reads new) silent x told in
        let st = records.stands before.0 before.1 in
        let still = λ (number : ℕ) (left : File) (l : may_leave new (topology_place number) left). others (topology_place number) left (text_apart laws before.0 log records.shelf st.settled.ends number) l in
        let u = unsettled before.0 before.1 in
        record {
          before = before.0;
          was = st.stands;
          either = subst (λ (h : Shelf). IsUnsettled x (may_leave new) log' (shelved h before.0) (spelled (note_in one))) records.shelf
              (subst (λ (f : Files). IsUnsettled f (may_leave new) log' (shelved (shelf_of log) before.0) (spelled (note_in one))) (same_Some u.0 x (sym u.1 ∙ told)) u.2);
          texts = texts_kept before.0 (may_leave old) (may_leave new) still st.texts;
          brings = brings_kept (may_leave old) (may_leave new) one still (brings before.0 before.1);
        };
  }

  -- it was found committed
  pub kept_there : (old new : D) (log log' : Log) (kept kept' : Records) (one : Pending) → IsRecords reads may_leave old log kept (Some one)
      → kept' ≡ noted (noted_in one) kept → IsFound log log' true → shelf_of log' ≡ shelf_of log
      → reads new ≡ reads old → LeavesNoMore (may_leave old) (may_leave new)
      → ForSome (reads old) (λ files. (before : Shelved) (body : List ℕ) → IsUnsettled files (may_leave old) log before body → shelved (shelf_of log) files ≡ added body before)
      → ForSome (reads new) (λ files. IsSettled files (may_leave new) log') → ((files : Files) → reads new ≡ Some files → IsImage (may_leave new) files)
      → IsRecords reads may_leave new log' kept' None
  kept_there old new log log' kept kept' one records is found shelf same stop there settled image = record {
    shelf = shelf ∙ records.shelf;
    idle_or = found.idle;
    stands = λ x told.
        let t = sym same ∙ told in
        let st = records.stands x t in
        let still = λ (number : ℕ) (left : File). stop (topology_place number) left in
        subst (λ (r : Records). StandsIn x (may_leave new) log' r) (sym is)
        (stands_with laws st.before x (may_leave new) log' kept one (place_of log) st.either.entries (end_of log) st.either.live st.was records.idle_or.form
        (texts_kept st.before (may_leave old) (may_leave new) still st.texts) (brings_kept (may_leave old) (may_leave new) one still st.brings) (image x told) (settled x told)
        (subst (λ (h : Shelf). shelved h x ≡ added (spelled (note_in one)) (shelved Site st.before)) records.shelf (there x t (shelved Site st.before) (spelled (note_in one)) st.either)));
  }

  -- it was not
  pub kept_not_there : (old new : D) (log log' : Log) (kept : Records) (one : Pending) → IsRecords reads may_leave old log kept (Some one) → IsFound log log' false → shelf_of log' ≡ shelf_of log
      → reads new ≡ reads old → LeavesNoMore (may_leave old) (may_leave new)
      → ForSome (reads old) (λ files. (before : Shelved) (body : List ℕ) → IsUnsettled files (may_leave old) log before body → shelved (shelf_of log) files ≡ before)
      → ForSome (reads new) (λ files. IsSettled files (may_leave new) log') → ((files : Files) → reads new ≡ Some files → IsImage (may_leave new) files)
      → IsRecords reads may_leave new log' kept None
  kept_not_there old new log log' kept one records found shelf same stop there settled image = record {
    shelf = shelf ∙ records.shelf;
    idle_or = found.idle;
    stands = λ x told.
        let t = sym same ∙ told in
        let st = records.stands x t in
        let still = λ (number : ℕ) (left : File). stop (topology_place number) left in
        stands_without laws st.before x (may_leave new) log' kept st.was (texts_kept st.before (may_leave old) (may_leave new) still st.texts) (image x told) (settled x told)
        (subst (λ (h : Shelf). shelved h x ≡ shelved Site st.before) records.shelf (there x t (shelved Site st.before) (spelled (note_in one)) st.either));
  }

  -- settling failed
  pub kept_unsettled : (old new : D) (log log' : Log) (kept : Records) (one : Pending) → IsRecords reads may_leave old log kept (Some one) → log' ≡ log
      → reads new ≡ reads old → LeavesNoMore (may_leave old) (may_leave new)
      → ForSome (reads old) (λ files. (before : Shelved) (body : List ℕ) → IsUnsettled files (may_leave old) log before body → IsUnsettled files (may_leave new) log' before body)
      → IsRecords reads may_leave new log' kept (Some one)
  kept_unsettled old new log log' kept one records log_is same stop unsettled = record {
    shelf = ap (λ (l : Log). shelf_of l) log_is ∙ records.shelf;
    idle_or = subst (λ (l : Log). IsPendingAt l one) (sym log_is) records.idle_or;
    stands = λ x told.
        let t = sym same ∙ told in
        let st = records.stands x t in
        let still = λ (number : ℕ) (left : File). stop (topology_place number) left in
        record {
          before = st.before;
          was = st.was;
          either = unsettled x t (shelved Site st.before) (spelled (note_in one)) st.either;
          texts = texts_kept st.before (may_leave old) (may_leave new) still st.texts;
          brings = brings_kept (may_leave old) (may_leave new) one still st.brings;
        };
  }

  -- the place of a text to come was written
  pub kept_stored : (old new : D) (log : Log) (kept : Records) (n : ℕ) → IsRecords reads may_leave old log kept None → n < 2 ^ 32 → kept.number < n
      → (reads old ≡ None → reads new ≡ None) → ((q : List ℕ) (left : File) → q ≢ topology_place n → may_leave new q left → may_leave old q left)
      → ((files : Files) → reads new ≡ Some files → IsImage (may_leave new) files) → IsRecords reads may_leave new log kept None
  kept_stored old new log kept n records small next silent others image = record {
    shelf = records.shelf;
    idle_or = records.idle_or;
    stands = λ x told.
        let before = told_before (reads old) (reads new) silent x told in
        let st = records.stands before.0 before.1 in
        let beside = λ (q : List ℕ) (ne : q ≢ topology_place n). others q (x q) ne (image x told q) in
        record {
          stands = beside_opens laws before.0 (may_leave old) log kept records.shelf st n small next x beside;
          settled = settled_apart before.0 x (may_leave old) (may_leave new) log (topology_place n) (text_elsewhere laws n log records.shelf) others (image x told) st.settled;
          texts = λ number named left l.
              let then : names_text number (shelved Site before.0) ≡ true = subst (λ (s : Shelved). names_text number s ≡ true) (beside_log laws before.0 (may_leave old) log kept records.shelf st n x beside) named in
              let own = own_place laws before.0 (may_leave old) log kept records.shelf st n small next number then in
              st.texts number then left (others (topology_place number) left own l) ∙ sym (st.texts number then (x (topology_place number)) (beside (topology_place number) own));
        };
  }

  -- what a crash leaves of them
  pub kept_opens : (disk : D) (log : Log) (kept : Records) (pending : Option Pending) → IsRecords reads may_leave disk log kept pending
      → ForSome (reads disk) (λ files. (image : Files) → IsImage (may_leave disk) image → OpensOr kept (pending_in pending) image)
  kept_opens disk log kept None records x told image left = inl (image_opens laws x (may_leave disk) log kept records.shelf (records.stands x told) image left)
  kept_opens disk log kept (Some one) records x told image left = unsettled_opens laws x (may_leave disk) log kept one records.shelf (records.stands x told) records.idle_or.form image left

-- what reads give of records that stand
pub stands_reads : (files : Files) (may_leave : List ℕ → File → Type 0) (log : Log) (kept : Records) → shelf_of log ≡ Site → StandsIn files may_leave log kept → Reads files kept (end_of log)
stands_reads files may_leave log kept shelf st = record {
  look = st.stands;
  gate = ap gate_at (live_at files log shelf st.settled.ends);
}

-- of settled ones
pub kept_files : {D : Type 0} (reads : D → Option Files) (may_leave : D → List ℕ → File → Type 0) (disk : D) (log : Log) (kept : Records) (pending : Option Pending) → IsRecords reads may_leave disk log kept pending
    → ForSome (reads disk) (λ files. pending_in pending ≡ None → Reads files kept (end_of log))
kept_files reads may_leave disk log kept None records x told none = stands_reads x (may_leave disk) log kept records.shelf (records.stands x told)
kept_files reads may_leave disk log kept (Some one) records x told none = absurd (none-some (noted_in one) (sym none))
