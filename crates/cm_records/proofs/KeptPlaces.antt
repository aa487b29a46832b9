-- The places that a call leaves alone, and those that are there.
use Rattle.std.proofs.Common.{◌≡◌, ◌⊎◌, inl, inr, ℕ, ◌+◌, Bool, true, false, List, ◌∷◌, [], ◌++◌, length, refl, sym, ◌∙◌, ap, subst}
use Rattle.std.specs.Prelude.{◌≢◌, Option, Some, is_some, Result, Ok, Err}
use Rattle.std.specs.Str.{bytes_eq}
use Rattle.std.proofs.lemmas.Bool.{false≢true}
use Rattle.std.proofs.lemmas.Option.{same_Some}
use Rattle.std.proofs.lemmas.Slice.Eq.{bytes_eq-Decides}
use Rattle.cm_disk.specs.Disk.{File, Files, Does, put}
use Rattle.cm_disk.proofs.Puts.{put_there}
use Rattle.cm_log.specs.declared.shelf.Shelf.{Shelf}
use Rattle.cm_log.specs.declared.shelf.Shelf.TheVariants.{Site}
use Rattle.cm_log.specs.declared.state.Log.{Log}
use Rattle.cm_log.specs.Frames.{KeepsReads, NoneGone}
use Rattle.cm_log.specs.Logs.{Entry, Shelved, Live, closed, shelved, added}
use Rattle.cm_log.specs.Settled.{shelf_of, place_of, end_of, EndsIn}
use Rattle.cm_log.specs.Shelves.{IsElsewhere}
use Rattle.cm_log.proofs.Present.{put_present, partly_present}
use Rattle.cm_log.proofs.Shelveds.{ended_by}
use Rattle.cm_state.specs.Adding.{Told}
use Rattle.cm_records.specs.Placing.{IsRecordsPlace, KeepsPlaces}
use Rattle.cm_records.proofs.Standing.{live_at, log_side}

-- one call after another
pub joined_places : (old mid new : Option Files) → Told KeepsPlaces old mid → Told KeepsPlaces mid new → Told KeepsPlaces old new
joined_places old mid new first second = λ files told.
    let a = first files told in
    let b = second a.0 a.1 in (
      b.0,
      b.1,
      record {
        others = λ q other. b.2.others q other ∙ a.2.others q other;
        there = λ q there. b.2.there q (a.2.there q there);
      },
    )

-- a file at a place of the records, which is there if it was
put_places : (files : Files) (place : List ℕ) (file : File) → IsRecordsPlace place → (is_some (files place) ≡ true → is_some file ≡ true) → KeepsPlaces files (put files place file)
put_places files place file own there = record {
  others = λ q other. put_there files place file q (λ same. other (subst IsRecordsPlace (sym same) own));
  there = put_present files place file there;
}

-- work that makes the file, done or failed
pub does_places : {T E : Type 0} (old new : Option Files) (place : List ℕ) (work : File → File) (result : Result T E) → IsRecordsPlace place → ((file : File) → is_some (work file) ≡ true) → Does old new place work result → Told KeepsPlaces old new
does_places old new place work (Ok x) own makes does = λ files told.
    (put files place (work (files place)), does.ok files told, put_places files place (work (files place)) own (λ was. makes (files place)))
does_places old new place work (Err e) own makes does = λ files told.
    let partly = does.err files told in
    (put files place partly.0, partly.1, put_places files place partly.0 own (partly_present (files place) (work (files place)) partly.0 partly.2 (makes (files place))))

-- a log is made
pub made_places : (old new : Option Files) → KeepsReads (IsElsewhere Site) old new → NoneGone old new → Told KeepsPlaces old new
made_places old new elsewhere gone = λ files told.
    let a = elsewhere files told in
    let b = gone files told in (
      a.0,
      a.1,
      record {
        others = λ q other. a.2 q (record { ready = λ same. other (inl same); logs = λ side same. other (inr (inl (side, same))) });
        there = subst (λ (now : Files). (q : List ℕ) → is_some (files q) ≡ true → is_some (now q) ≡ true) (same_Some b.0 a.0 (sym b.1 ∙ a.1)) b.2;
      },
    )

-- the file of a live log is there
live_there : (files : Files) (place : List ℕ) (entries : List Entry) (end : ℕ) → shelved Site files ≡ Live place (closed entries end) → is_some (files place) ≡ true
live_there files place entries end live = ap (λ (file : File). is_some file) (ended_by Site files place entries end live).shut.spells

-- with a record more too
added_there : (files now : Files) (place : List ℕ) (entries : List Entry) (end : ℕ) (body : List ℕ) → shelved Site files ≡ Live place (closed entries end)
    → (shelved Site now ≡ shelved Site files) ⊎ (shelved Site now ≡ added body (shelved Site files)) → is_some (now place) ≡ true
added_there files now place entries end body live (inl same) = live_there now place entries end (same ∙ live)
added_there files now place entries end body live (inr more) =
    live_there now place (entries ++ record { gate = end; body = body } ∷ []) (end + 5 + length body) (more ∙ ap (λ (s : Shelved). added body s) live)

-- a log was written, and has the record more or not
pub logged_places : (files now : Files) (log : Log) (body : List ℕ) → shelf_of log ≡ Site → EndsIn files log → ((q : List ℕ) → q ≢ place_of log → now q ≡ files q)
    → (shelved (shelf_of log) now ≡ shelved (shelf_of log) files) ⊎ (shelved (shelf_of log) now ≡ added body (shelved (shelf_of log) files)) → KeepsPlaces files now
logged_places files now log body shelf ends others either = record {
  others = λ q other. others q (λ same. let side = log_side files log shelf ends in other (inr (inl (side.0, same ∙ side.1))));
  there = λ q was. at q was (bytes_eq q (place_of log)) refl;
}
  where
    there : is_some (now (place_of log)) ≡ true
    there = added_there files now (place_of log) ends.entries (end_of log) body (live_at files log shelf ends) (subst (λ (s : Shelf). (shelved s now ≡ shelved s files) ⊎ (shelved s now ≡ added body (shelved s files))) shelf either)

    at : (q : List ℕ) → is_some (files q) ≡ true → (b : Bool) → bytes_eq q (place_of log) ≡ b → is_some (now q) ≡ true
    at q was true same = ap (λ (p : List ℕ). is_some (now p)) ((bytes_eq-Decides q (place_of log)).0 same) ∙ there
    at q was false other = ap (λ (file : File). is_some file) (others q (λ same. false≢true (sym other ∙ (bytes_eq-Decides q (place_of log)).1 same))) ∙ was
