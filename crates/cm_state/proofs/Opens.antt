-- A library is opened.
use Rattle.std.proofs.Common.{◌≡◌, ℕ, Bool, true, false, List, sym, ◌∙◌, ap}
use Rattle.std.specs.Prelude.{Ok, Err}
use Rattle.cm_disk.specs.Disk.{File, Files}
use Rattle.cm_log.specs.declared.shelf.Shelf.TheVariants.{PkgLib}
use Rattle.cm_log.specs.declared.position.LogReader.{LogReader}
use Rattle.cm_log.specs.Logs.{Reading, Shelved, Unread, Live, shelved}
use Rattle.cm_log.specs.Settled.{reader_place, reader_at, has_ended, rest_of, IsReading}
use Rattle.cm_pkglib.specs.Rows.{Rows, no_rows}
use Rattle.cm_state.specs.State.{State}
use Rattle.cm_state.specs.Look.{Library, Opened, Unreadable, look, look_at, opened_or, closed_with, library_from, has_room, loaded}

-- the records were read up to the closed gate
pub look_closed : (files : Files) (may_leave : List ℕ → File → Type 0) (first last : LogReader) (rows : Rows) (end : ℕ)
    → shelved PkgLib files ≡ Live (reader_place first) (rest_of files first)
    → library_from files (reader_place first) (Ok no_rows) (rest_of files first) ≡ library_from files (reader_place first) (Ok rows) (rest_of files last)
    → IsReading files may_leave last → has_ended last ≡ true → end ≡ reader_at last
    → look files ≡ closed_with (has_room end rows) (reader_place first) end (loaded files rows)
look_closed files may_leave first last rows end live makes reading done is =
    ap (λ (x : Shelved). look_at files x) live
    ∙ makes
    ∙ ap (λ (r : Reading). library_from files (reader_place first) (Ok rows) r) (reading.at.ended done)
    ∙ ap (λ (n : ℕ). closed_with (has_room n rows) (reader_place first) n (loaded files rows)) (sym is)

-- they could not be
pub look_broken : (files : Files) (first : LogReader) (library : Library) → shelved PkgLib files ≡ Live (reader_place first) (rest_of files first) → library_from files (reader_place first) (Ok no_rows) (rest_of files first) ≡ library → look files ≡ library
look_broken files first library live is = ap (λ (x : Shelved). look_at files x) live ∙ is

pub look_unread : (files : Files) (place : List ℕ) (at : ℕ) → shelved PkgLib files ≡ Unread place at → look files ≡ Unreadable place at
look_unread files place at is = ap (λ (x : Shelved). look_at files x) is

-- the closed gate leaves no room
pub no_room : (files : Files) (place : List ℕ) (end : ℕ) (rows : Rows) → has_room end rows ≡ false → look files ≡ closed_with (has_room end rows) place end (loaded files rows) → look files ≡ Unreadable place end
no_room files place end rows none is = is ∙ ap (λ (b : Bool). closed_with b place end (loaded files rows)) none

-- it does, and a stored manifest is wrong
pub wrong_manifest : (files : Files) (place wrong : List ℕ) (end : ℕ) (rows : Rows) → has_room end rows ≡ true → loaded files rows ≡ Err wrong → look files ≡ closed_with (has_room end rows) place end (loaded files rows) → look files ≡ Unreadable wrong 0
wrong_manifest files place wrong end rows room none is =
    is ∙ ap (λ (b : Bool). closed_with b place end (loaded files rows)) room ∙ ap opened_or none

-- all manifests are there
pub all_loaded : (files : Files) (place : List ℕ) (end : ℕ) (rows : Rows) (s t : State) → has_room end rows ≡ true → loaded files rows ≡ Ok s → t ≡ s → look files ≡ closed_with (has_room end rows) place end (loaded files rows) → look files ≡ Opened t
all_loaded files place end rows s t room some same is =
    is ∙ ap (λ (b : Bool). closed_with b place end (loaded files rows)) room ∙ ap opened_or some ∙ ap Opened (sym same)
