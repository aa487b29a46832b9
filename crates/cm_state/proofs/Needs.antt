-- What a state needs is enough.
use Rattle.std.proofs.Common.{◌≡◌, ℕ, List, [], ◌∷◌, ◌++◌, refl, ◌∙◌, ap}
use Rattle.std.specs.Prelude.{map, Ok}
use Rattle.std.specs.List.{AllByRecursion, flat_map}
use Rattle.cm_disk.specs.Disk.{File as Stored, Files}
use Rattle.cm_log.specs.declared.shelf.Shelf.TheVariants.{PkgLib}
use Rattle.cm_log.specs.Logs.{Entry as Record, Ending, Closed, Broken, Shelved, NoLog, Unread, Live, closed, shelved}
use Rattle.cm_log.proofs.Shelveds.{alike}
use Rattle.cm_pkglib.specs.Rows.{no_rows}
use Rattle.cm_tree.specs.declared.entry.Entry.{Entry}
use Rattle.cm_filelib.specs.Places.{file_place}
use Rattle.cm_filelib.specs.Stored.{is_file_of}
use Rattle.cm_state.specs.State.{Held, State}
use Rattle.cm_state.specs.Look.{Opened, rows_from, library_from, look_at}
use Rattle.cm_state.specs.Needed.{holdings, file_places, own_place}
use Rattle.cm_state.specs.Needs.{AgreeOn}
use Rattle.cm_state.specs.Opens.{HasFile, HasFiles, Stands, Opens}
use Rattle.cm_state.proofs.Loaded.{HasHeld, HasJob, same_manifest}
use Rattle.cm_state.proofs.Replaying.{not_broken, grounds_of, opened_by}

-- what holds of a list holds of its two parts, and of what it is made of
all_front : {A : Type 0} (P : A → Type 0) (xs ys : List A) → AllByRecursion P (xs ++ ys) → AllByRecursion P xs
all_front P [] ys all = tt
all_front P (x ∷ xs) ys all = (all.0, all_front P xs ys all.1)

all_back : {A : Type 0} (P : A → Type 0) (xs ys : List A) → AllByRecursion P (xs ++ ys) → AllByRecursion P ys
all_back P [] ys all = all
all_back P (x ∷ xs) ys all = all_back P xs ys all.1

pub un_map : {A B : Type 0} (f : A → B) (P : B → Type 0) (xs : List A) → AllByRecursion P (map f xs) → AllByRecursion (λ x. P (f x)) xs
un_map f P [] all = tt
un_map f P (x ∷ xs) all = (all.0, un_map f P xs all.1)

un_flat : {A B : Type 0} (f : A → List B) (P : B → Type 0) (xs : List A) → AllByRecursion P (flat_map f xs) → AllByRecursion (λ x. AllByRecursion P (f x)) xs
un_flat f P [] all = tt
un_flat f P (x ∷ xs) all = (all_front P (f x) (flat_map f xs) all, un_flat f P xs (all_back P (f x) (flat_map f xs) all))

-- an opened library has a live log with a closed gate
pub record IsLive (x : Shelved) : Type 0 where
  pub place : List ℕ
  pub entries : List Record
  pub end : ℕ
  pub is : x ≡ Live place (closed entries end)

live_of : (files : Files) (x : Shelved) (s : State) → look_at files x ≡ Opened s → IsLive x
live_of files NoLog s opened = absurd (cc)
live_of files (Unread place at) s opened = absurd (cc)
live_of files (Live place reading) s opened =
    let e = by reading.ending opened in
    record { place = place; entries = reading.entries; end = e.0; is = ap (λ (ending : Ending). Live place (record { entries = reading.entries; ending = ending })) e.1 }
  where
    by : (ending : Ending) → library_from files place (Ok no_rows) (record { entries = reading.entries; ending = ending }) ≡ Opened s → (end : ℕ) × (ending ≡ Closed end)
    by (Closed end) is = (end, refl)
    by (Broken at) is = absurd (not_broken files place at (rows_from (Ok no_rows) reading.entries) s is)

module _ (files now : Files) where
  abbrev Same : List ℕ → Type 0
  Same place = now place ≡ files place

  helds_now : (hs : List Held) → AllByRecursion (λ (h : Held). Same (own_place h)) hs → AllByRecursion (HasHeld files) hs → AllByRecursion (HasHeld now) hs
  helds_now [] same all = tt
  helds_now (h ∷ hs) same all = (same_manifest files now h.row same.0 ∙ all.0, helds_now hs same.1 all.1)

  jobs_now : (js : List (ℕ × Held)) → AllByRecursion (λ (j : ℕ × Held). Same (own_place j.1)) js → AllByRecursion (HasJob files) js → AllByRecursion (HasJob now) js
  jobs_now [] same all = tt
  jobs_now (j ∷ js) same all = (same_manifest files now j.1.row same.0 ∙ all.0, jobs_now js same.1 all.1)

  entries_now : (es : List Entry) → AllByRecursion (λ (e : Entry). Same (file_place e.hash.0)) es → AllByRecursion (HasFile files) es → AllByRecursion (HasFile now) es
  entries_now [] same all = tt
  entries_now (e ∷ es) same all = (ap (λ (f : Stored). is_file_of e.hash.0 e.size f) same.0 ∙ all.0, entries_now es same.1 all.1)

  files_now : (hs : List Held) → AllByRecursion (λ (h : Held). AllByRecursion Same (file_places h)) hs → AllByRecursion (HasFiles files) hs → AllByRecursion (HasFiles now) hs
  files_now [] same all = tt
  files_now (h ∷ hs) same all = (entries_now h.manifest (un_map (λ (e : Entry). file_place e.hash.0) Same h.manifest same.0) all.0, files_now hs same.1 all.1)

  pub stands_enough : (s : State) → Stands files s → AgreeOn s files now → Stands now s
  stands_enough s stands agree =
      let l = live_of files (shelved PkgLib files) s stands in
      let g = grounds_of files l.place l.entries l.end s l.is stands in
      let jobs = map (λ (job : ℕ × Held). job.1) s.jobs in
      let manifests = un_map own_place Same (holdings s) (all_front Same (map own_place (holdings s)) (flat_map file_places (holdings s)) agree.needed_places) in
      opened_by now l.place l.entries l.end s (alike PkgLib files now agree.ready agree.logs ∙ l.is) (record {
        rows = g.rows;
        room = g.room;
        versions = helds_now s.versions (all_front (λ (h : Held). Same (own_place h)) s.versions jobs manifests) g.versions;
        jobs = jobs_now s.jobs (un_map (λ (job : ℕ × Held). job.1) (λ (h : Held). Same (own_place h)) s.jobs (all_back (λ (h : Held). Same (own_place h)) s.versions jobs manifests)) g.jobs;
      })

  pub needs_are_enough : (s : State) → Opens files s → AgreeOn s files now → Opens now s
  needs_are_enough s opens agree =
      let jobs = map (λ (job : ℕ × Held). job.1) s.jobs in
      let stored = un_flat file_places Same (holdings s) (all_back Same (map own_place (holdings s)) (flat_map file_places (holdings s)) agree.needed_places) in
      record {
        stands = stands_enough s opens.stands agree;
        whole = files_now s.versions (all_front (λ (h : Held). AllByRecursion Same (file_places h)) s.versions jobs stored) opens.whole;
      }
