-- The records of a site in its files: their log, and the texts that it names.
use Rattle.std.proofs.Common.{◌≡◌, ◌⊎◌, inl, inr, ℕ, ◌+◌, ◌<◌, ◌≤◌, ◌^◌, Bool, true, false, List, [], ◌∷◌, ◌++◌, refl, sym, ◌∙◌, ap, subst, arith}
use Rattle.std.specs.Prelude.{◌≢◌, ◌||◌, Option, None, Some}
use Rattle.std.proofs.lemmas.Bool.{eqb-true}
use Rattle.cm_disk.specs.Disk.{File, Files, IsImage, Only}
use Rattle.cm_log.specs.declared.shelf.Shelf.{Shelf}
use Rattle.cm_log.specs.declared.shelf.Shelf.TheVariants.{Site}
use Rattle.cm_log.specs.declared.shelf.Side.{Side}
use Rattle.cm_log.specs.declared.state.Log.{Log}
use Rattle.cm_log.specs.Logs.{Entry, Reading, Shelved, Live, closed, shelved, added}
use Rattle.cm_log.specs.Settled.{shelf_of, place_of, end_of, EndsIn, Rests, IsSettled, IsBeforeOrAfter}
use Rattle.cm_log.specs.Shelves.{ready_place, log_place, IsElsewhere}
use Rattle.cm_log.proofs.Shelveds.{alike, lives}
use Rattle.cm_notes.specs.declared.note.Note.{Note}
use Rattle.cm_notes.specs.Notes.{IsNote, spelled}
use Rattle.cm_notes.specs.Reading.{read_note}
use Rattle.cm_register.specs.Look.{Opened, look, topology_named}
use Rattle.cm_register.specs.Opens.{OpensOr, noted}
use Rattle.cm_register.specs.Records.{Records}
use Rattle.cm_register.specs.Texts.{AreSameTexts, AreTextsSure, is_of, names_among, names_text}
use Rattle.cm_register.proofs.TopologyRead.{topology_read}
use Rattle.cm_textlib.specs.Places.{topology_place}
use Rattle.cm_records.specs.declared.pending.Pending.{Pending}
use Rattle.cm_records.specs.Kept.{note_in, noted_in, BringsText, StandsIn, StandsUnsettled}
use Rattle.cm_records.specs.Laws.{LawsBelow}

-- the live log by the shelf's name, and its place
pub live_at : (files : Files) (log : Log) → shelf_of log ≡ Site → (e : EndsIn files log) → shelved Site files ≡ Live (place_of log) (closed e.entries (end_of log))
live_at files log shelf e = ap (λ (s : Shelf). shelved s files) (sym shelf) ∙ e.live

pub log_side : (files : Files) (log : Log) → shelf_of log ≡ Site → EndsIn files log → (side : Side) × (place_of log ≡ log_place Site side)
log_side files log shelf e = let l = lives Site files (place_of log) (closed e.entries (end_of log)) (live_at files log shelf e) in (l.side, l.at)

-- no text stands there
pub text_apart : LawsBelow → (files : Files) (log : Log) → shelf_of log ≡ Site → EndsIn files log → (number : ℕ) → topology_place number ≢ place_of log
text_apart laws files log shelf ends number e =
    let side = log_side files log shelf ends in
    laws.no_log number Site side.0 (e ∙ side.1)

pub text_elsewhere : LawsBelow → (number : ℕ) (log : Log) → shelf_of log ≡ Site → IsElsewhere (shelf_of log) (topology_place number)
text_elsewhere laws number log shelf =
    subst (λ (s : Shelf). IsElsewhere s (topology_place number)) (sym shelf) (record { ready = laws.no_ready number Site; logs = laws.no_log number Site })

-- texts on a disk that leaves no more at their places
pub texts_kept : (files : Files) (old new : List ℕ → File → Type 0) → ((number : ℕ) (left : File) → new (topology_place number) left → old (topology_place number) left) → AreTextsSure files old → AreTextsSure files new
texts_kept files old new still sure = λ number named left l. sure number named left (still number left l)

pub brings_kept : (old new : List ℕ → File → Type 0) (one : Pending) → ((number : ℕ) (left : File) → new (topology_place number) left → old (topology_place number) left) → BringsText old one → BringsText new one
brings_kept old new one still brings = record { text = brings.text; sure = λ left l. brings.sure left (still one.number left l); named = brings.named }

-- whatever is left there says the topology
pub left_names : (may_leave : List ℕ → File → Type 0) (one : Pending) → BringsText may_leave one → (file : File) → may_leave (topology_place one.number) file → topology_named one.size one.hash file ≡ Some one.topology
left_names may_leave one brings file left = ap (λ (f : File). topology_named one.size one.hash f) (brings.sure file left) ∙ brings.named

module _ (laws : LawsBelow) (files : Files) (may_leave : List ℕ → File → Type 0) (log : Log) (kept : Records) (shelf : shelf_of log ≡ Site) (st : StandsIn files may_leave log kept) where
  rests : Rests Site files may_leave
  rests = subst (λ (s : Shelf). Rests s files may_leave) shelf st.settled.rests

  -- whatever a crash leaves are these records
  pub image_opens : (image : Files) → IsImage may_leave image → look image ≡ Opened kept
  image_opens image left =
      laws.looks_same files image
      (alike Site files image (rests.ready (image (ready_place Site)) (left (ready_place Site))) (λ (side : Side). rests.logs side (image (log_place Site side)) (left (log_place Site side))))
      (λ number named. st.texts number named (image (topology_place number)) (left (topology_place number)))
      ∙ st.stands

  -- a text that is named stands apart from one of a greater number
  pub own_place : (n : ℕ) → n < 2 ^ 32 → kept.number < n → (number : ℕ) → names_text number (shelved Site files) ≡ true → topology_place number ≢ topology_place n
  own_place n small next number named e =
      let same : number ≡ n = laws.own number n small e in
      let few : number ≤ kept.number = laws.numbered files kept number st.stands named in
      omega arith

  -- so are files that differ from them at the place of such a text alone
  pub beside_log : (n : ℕ) (left : Files) → ((q : List ℕ) → q ≢ topology_place n → may_leave q (left q)) → shelved Site left ≡ shelved Site files
  beside_log n left others =
      alike Site files left (rests.ready (left (ready_place Site)) (others (ready_place Site) (λ e. laws.no_ready n Site (sym e))))
      (λ (side : Side). rests.logs side (left (log_place Site side)) (others (log_place Site side) (λ e. laws.no_log n Site side (sym e))))

  pub beside_opens : (n : ℕ) → n < 2 ^ 32 → kept.number < n → (left : Files) → ((q : List ℕ) → q ≢ topology_place n → may_leave q (left q)) → look left ≡ Opened kept
  beside_opens n small next left others =
      laws.looks_same files left (beside_log n left others)
      (λ number named. st.texts number named (left (topology_place number)) (others (topology_place number) (own_place n small next number named)))
      ∙ st.stands

  -- the log with a record more, or without
  pub logged_opens : (one : Pending) → IsNote (note_in one) → BringsText may_leave one → (left : Files)
      → IsBeforeOrAfter (shelf_of log) (place_of log) may_leave (shelved (shelf_of log) files) (spelled (note_in one)) left → OpensOr kept (Some (noted_in one)) left
  logged_opens one form brings left after =
      let apart = text_apart laws files log shelf st.settled.ends in
      let texts : AreSameTexts files left = λ number named. st.texts number named (left (topology_place number)) (after.others (topology_place number) (apart number)) in
      let names = left_names may_leave one brings (left (topology_place one.number)) (after.others (topology_place one.number) (apart one.number)) in
      let either = subst (λ (s : Shelf). (shelved s left ≡ shelved s files) ⊎ (shelved s left ≡ added (spelled (note_in one)) (shelved s files))) shelf after.log in
      elim either [
        | inl same ↦ inl (laws.looks_same files left same texts ∙ st.stands)
        | inr more ↦ inr (laws.goes_on files left kept one.number one.size one.hash one.minute one.topology st.stands form more texts names)
      ]

-- the append has failed: whatever a crash leaves are the records before the pending one, or with it
pub unsettled_opens : LawsBelow → (files : Files) (may_leave : List ℕ → File → Type 0) (log : Log) (kept : Records) (one : Pending) → shelf_of log ≡ Site → StandsUnsettled files may_leave log kept one → IsNote (note_in one)
    → (image : Files) → IsImage may_leave image → OpensOr kept (Some (noted_in one)) image
unsettled_opens laws files may_leave log kept one shelf st form image left =
    let texts : AreSameTexts st.before image = λ number named. st.texts number named (image (topology_place number)) (left (topology_place number)) in
    let names = left_names may_leave one st.brings (image (topology_place one.number)) (left (topology_place one.number)) in
    let either = subst (λ (s : Shelf). (shelved s image ≡ shelved Site st.before) ⊎ (shelved s image ≡ added (spelled (note_in one)) (shelved Site st.before))) shelf (st.either.leaves image left) in
    elim either [
      | inl same ↦ inl (laws.looks_same st.before image same texts ∙ st.was)
      | inr more ↦ inr (laws.goes_on st.before image kept one.number one.size one.hash one.minute one.topology st.was form more texts names)
    ]

-- of entries with one more, one of them or that one names a text
or_left : (a b : Bool) → a ≡ true → (a || b) ≡ true
or_left true b is = refl
or_left false b is = absurd (cc)

or_right : (a b : Bool) → b ≡ true → (a || b) ≡ true
or_right true b is = refl
or_right false b is = is

pub or_parts : (a b : Bool) → (a || b) ≡ true → (a ≡ true) ⊎ (b ≡ true)
or_parts true b is = inl refl
or_parts false b is = inr is

or_false : (a : Bool) → (a || false) ≡ true → a ≡ true
or_false true is = refl
or_false false is = is

names_more : (number : ℕ) (entry : Entry) (entries : List Entry) → names_among number (entries ++ entry ∷ []) ≡ true → (names_among number entries ≡ true) ⊎ (is_of number (read_note entry.body) ≡ true)
names_more number entry [] is = inr (or_false (is_of number (read_note entry.body)) is)
names_more number entry (x ∷ entries) is = elim (or_parts (is_of number (read_note x.body)) (names_among number (entries ++ entry ∷ [])) is) [
  | inl here ↦ inl (or_left (is_of number (read_note x.body)) (names_among number entries) here)
  | inr further ↦ elim (names_more number entry entries further) [
    | inl there ↦ inl (or_right (is_of number (read_note x.body)) (names_among number entries) there)
    | inr last ↦ inr last
  ]
]

-- the files are the records with a record more
pub stands_with : LawsBelow → (before x : Files) (may_leave : List ℕ → File → Type 0) (log : Log) (kept : Records) (one : Pending) (place : List ℕ) (entries : List Entry) (end : ℕ)
    → shelved Site before ≡ Live place (closed entries end) → look before ≡ Opened kept → IsNote (note_in one) → AreTextsSure before may_leave → BringsText may_leave one → IsImage may_leave x → IsSettled x may_leave log
    → shelved Site x ≡ added (spelled (note_in one)) (shelved Site before) → StandsIn x may_leave log (noted (noted_in one) kept)
stands_with laws before x may_leave log kept one place entries end live was form sure brings image settled more = record {
  stands = laws.goes_on before x kept one.number one.size one.hash one.minute one.topology was form more (λ number named. sure number named (x (topology_place number)) (image (topology_place number)))
      (left_names may_leave one brings (x (topology_place one.number)) (image (topology_place one.number)));
  settled = settled;
  texts = λ number named. texts number (names_more number (record { gate = end; body = spelled (note_in one) }) entries (subst (λ (s : Shelved). names_text number s ≡ true) (more ∙ ap (λ (s : Shelved). added (spelled (note_in one)) s) live) named));
}
  where
    read : read_note (spelled (note_in one)) ≡ Some (note_in one)
    read = topology_read one.number one.size one.hash one.minute form

    texts : (number : ℕ) → (names_among number entries ≡ true) ⊎ (is_of number (read_note (spelled (note_in one))) ≡ true) → Only (x (topology_place number)) (may_leave (topology_place number))
    texts number (inl among) = λ left l.
        let named : names_text number (shelved Site before) ≡ true = subst (λ (s : Shelved). names_text number s ≡ true) (sym live) among in
        sure number named left l ∙ sym (sure number named (x (topology_place number)) (image (topology_place number)))
    texts number (inr last) =
        let same : one.number ≡ number = eqb-true one.number number (ap (λ (o : Option Note). is_of number o) (sym read) ∙ last) in
        subst (λ (n : ℕ). Only (x (topology_place n)) (may_leave (topology_place n))) same
        (λ left l. brings.sure left l ∙ sym (brings.sure (x (topology_place one.number)) (image (topology_place one.number))))

-- they are the same records
pub stands_without : LawsBelow → (before x : Files) (may_leave : List ℕ → File → Type 0) (log : Log) (kept : Records) → look before ≡ Opened kept → AreTextsSure before may_leave → IsImage may_leave x → IsSettled x may_leave log
    → shelved Site x ≡ shelved Site before → StandsIn x may_leave log kept
stands_without laws before x may_leave log kept was sure image settled same = record {
  stands = laws.looks_same before x same (λ number named. sure number named (x (topology_place number)) (image (topology_place number))) ∙ was;
  settled = settled;
  texts = λ number named left l.
      let then : names_text number (shelved Site before) ≡ true = subst (λ (s : Shelved). names_text number s ≡ true) same named in
      sure number then left l ∙ sym (sure number then (x (topology_place number)) (image (topology_place number)));
}
