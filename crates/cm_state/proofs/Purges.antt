-- What a state needs, place by place, and what it is where no other place has changed.
use Rattle.std.proofs.Common.{◌≡◌, inl, inr, ℕ, suc, zero, ◌/◌, ◌<◌, ◌^◌, Bool, true, false, List, [], ◌∷◌, length, get_or, refl, sym, ◌∙◌, ap, subst, arith, eq-eqb}
use Rattle.std.specs.Prelude.{◌≢◌, ◌==◌, ◌&&◌, ◌||◌, not, cond, map, codes, Contains, Option, None, Result, Ok, Err}
use Rattle.std.specs.List.{AllByRecursion, flat_map, list_any, list_all}
use Rattle.std.specs.Result.{result_ok}
use Rattle.std.specs.Str.{bytes_eq}
use Rattle.std.proofs.lemmas.Bool.{false≢true, eqb-true}
use Rattle.std.proofs.lemmas.List.{append_cancel_left}
use Rattle.std.proofs.lemmas.List.Elements.{Contains-append_left, Contains-append_right}
use Rattle.std.proofs.lemmas.List.Folds.{list_any-append}
use Rattle.std.proofs.lemmas.Option.{none-some}
use Rattle.std.proofs.lemmas.Slice.Eq.{bytes_eq-Decides}
use Rattle.hex.specs.Hex.{IsBytes, lower_digits, encode_with, encode_lower, decode_of}
use Rattle.cm_base.specs.Names.{is_lower_hex, is_hash_text}
use Rattle.cm_disk.specs.Disk.{File, Files, Does, IsPartly, put, removed}
use Rattle.cm_disk.proofs.Puts.{put_here, put_there}
use Rattle.cm_log.specs.declared.shelf.Shelf.TheVariants.{PkgLib}
use Rattle.cm_log.specs.declared.shelf.Side.{Side}
use Rattle.cm_log.specs.declared.shelf.Side.TheVariants.{First, Second}
use Rattle.cm_log.specs.Shelves.{ready_place, log_place}
use Rattle.cm_pkglib.specs.declared.row.PkgRow.{PkgRow}
use Rattle.cm_pkglib.specs.Rows.{is_of}
use Rattle.cm_pkglib.proofs.Among.{All-append}
use Rattle.cm_tree.specs.declared.entry.Entry.{Entry}
use Rattle.cm_datalib.specs.Places.{manifest_place}
use Rattle.cm_filelib.specs.Places.{file_place}
use Rattle.cm_filelib.proofs.Digits.{hash_again}
use Rattle.cm_state.specs.State.{Held, State, rows_of}
use Rattle.cm_state.specs.Adding.{Told}
use Rattle.cm_state.specs.Needed.{has_hash, is_named, is_needed, holdings, holds, file_places, own_place, needed}
use Rattle.cm_state.specs.Needs.{AgreeOn}
use Rattle.cm_state.specs.Opens.{Stands, Opens}
use Rattle.cm_state.specs.Purged.{is_stored_place, is_loose, Clears}
use Rattle.cm_state.specs.Sound.{IsNamed, AreNamed}
use Rattle.cm_state.proofs.Elsewhere.{manifest_no_file, manifest_names, file_names}
use Rattle.cm_state.proofs.Lists.{and_left, and_right, over_map}
use Rattle.cm_state.proofs.Members.{each_member, any_member, map_member, flat_member}
use Rattle.cm_state.proofs.Needs.{un_map, stands_enough, needs_are_enough}

-- tests
pub same_test : (a b : Bool) → (a ≡ true → b ≡ true) → (b ≡ true → a ≡ true) → a ≡ b
same_test true b f g = sym (f refl)
same_test false true f g = absurd (false≢true (g refl))
same_test false false f g = refl

pub or_false : (b : Bool) → (b || false) ≡ b
or_false true = refl
or_false false = refl

pub or_true : (b : Bool) → (b || true) ≡ true
or_true true = refl
or_true false = refl

pub and_false : (b : Bool) → (b && false) ≡ false
and_false true = refl
and_false false = refl

pub not_true : (b : Bool) → not b ≡ true → b ≡ false
not_true true is = absurd (false≢true is)
not_true false is = refl

pub other_bytes : (a b : List ℕ) → a ≢ b → bytes_eq a b ≡ false
other_bytes a b ne = by (bytes_eq a b) refl
  where
    by : (c : Bool) → bytes_eq a b ≡ c → c ≡ false
    by true is = absurd (ne ((bytes_eq-Decides a b).0 is))
    by false is = refl

-- a test of some element
any_same : {A : Type 0} (p q : A → Bool) (xs : List A) → AllByRecursion (λ x. p x ≡ q x) xs → list_any p xs ≡ list_any q xs
any_same p q [] all = refl
any_same p q (x ∷ xs) all = ap (λ b. b || list_any p xs) all.0 ∙ ap (λ b. q x || b) (any_same p q xs all.1)

each_of : {A : Type 0} (P : A → Type 0) → ((x : A) → P x) → (xs : List A) → AllByRecursion P xs
each_of P f [] = tt
each_of P f (x ∷ xs) = (f x, each_of P f xs)

any_map : {A B : Type 0} (p : B → Bool) (f : A → B) (xs : List A) → list_any p (map f xs) ≡ list_any (λ x. p (f x)) xs
any_map p f [] = refl
any_map p f (x ∷ xs) = ap (λ b. p (f x) || b) (any_map p f xs)

any_flat : {A B : Type 0} (p : B → Bool) (f : A → List B) (xs : List A) → list_any p (flat_map f xs) ≡ list_any (λ x. list_any p (f x)) xs
any_flat p f [] = refl
any_flat p f (x ∷ xs) = list_any-append p (f x) (flat_map f xs) ∙ ap (λ b. list_any p (f x) || b) (any_flat p f xs)

any_never : {A : Type 0} (p : A → Bool) → ((x : A) → p x ≡ false) → (xs : List A) → list_any p xs ≡ false
any_never p never [] = refl
any_never p never (x ∷ xs) = ap (λ b. b || list_any p xs) (never x) ∙ any_never p never xs

any_more : {A : Type 0} (p q : A → Bool) → ((x : A) → p x ≡ true → q x ≡ true) → (xs : List A) → list_any p xs ≡ true → list_any q xs ≡ true
any_more p q more [] is = absurd (false≢true is)
any_more p q more (x ∷ xs) is = by (p x) refl is (any_more p q more xs)
  where
    by : (b : Bool) → p x ≡ b → (b || list_any p xs) ≡ true → (list_any p xs ≡ true → list_any q xs ≡ true) → (q x || list_any q xs) ≡ true
    by true here any rest = ap (λ b. b || list_any q xs) (more x here)
    by false other any rest = ap (λ b. q x || b) (rest any) ∙ or_true (q x)

-- the text of a hash of bytes names no other hash, of bytes or not
text_good : (hash : List ℕ) → IsBytes hash → length hash ≡ 32 → list_all is_lower_hex (encode_lower hash) ≡ true
text_good hash bytes long = by (is_hash_text (encode_lower hash)) refl
  where
    by : (b : Bool) → is_hash_text (encode_lower hash) ≡ b → list_all is_lower_hex (encode_lower hash) ≡ true
    by true good = and_right (length (encode_lower hash) == 64) (list_all is_lower_hex (encode_lower hash)) good
    by false bad = absurd (none-some hash (sym (ap (λ (b : Bool). cond b (result_ok (decode_of (encode_lower hash))) None) bad) ∙ hash_again hash bytes long))

digit_below : (k : ℕ) → is_lower_hex (get_or lower_digits k 0) ≡ true → k < 16
digit_below zero is = omega arith
digit_below (suc zero) is = omega arith
digit_below (suc (suc zero)) is = omega arith
digit_below (suc (suc (suc zero))) is = omega arith
digit_below (suc (suc (suc (suc zero)))) is = omega arith
digit_below (suc (suc (suc (suc (suc zero))))) is = omega arith
digit_below (suc (suc (suc (suc (suc (suc zero)))))) is = omega arith
digit_below (suc (suc (suc (suc (suc (suc (suc zero))))))) is = omega arith
digit_below (suc (suc (suc (suc (suc (suc (suc (suc zero)))))))) is = omega arith
digit_below (suc (suc (suc (suc (suc (suc (suc (suc (suc zero))))))))) is = omega arith
digit_below (suc (suc (suc (suc (suc (suc (suc (suc (suc (suc zero)))))))))) is = omega arith
digit_below (suc (suc (suc (suc (suc (suc (suc (suc (suc (suc (suc zero))))))))))) is = omega arith
digit_below (suc (suc (suc (suc (suc (suc (suc (suc (suc (suc (suc (suc zero)))))))))))) is = omega arith
digit_below (suc (suc (suc (suc (suc (suc (suc (suc (suc (suc (suc (suc (suc zero))))))))))))) is = omega arith
digit_below (suc (suc (suc (suc (suc (suc (suc (suc (suc (suc (suc (suc (suc (suc zero)))))))))))))) is = omega arith
digit_below (suc (suc (suc (suc (suc (suc (suc (suc (suc (suc (suc (suc (suc (suc (suc zero))))))))))))))) is = omega arith
digit_below (suc (suc (suc (suc (suc (suc (suc (suc (suc (suc (suc (suc (suc (suc (suc (suc k)))))))))))))))) is = absurd (false≢true is)

bytes_of_text : (xs : List ℕ) → list_all is_lower_hex (encode_lower xs) ≡ true → IsBytes xs
unfolding encode_with
bytes_of_text [] all i = omega arith
bytes_of_text (b ∷ xs) all zero =
    let high : b / 16 < 16 = digit_below (b / 16) (and_left (is_lower_hex (get_or lower_digits (b / 16) 0)) _ all) in
    omega arith
bytes_of_text (b ∷ xs) all (suc i) = bytes_of_text xs (and_right _ (list_all is_lower_hex (encode_lower xs)) (and_right (is_lower_hex (get_or lower_digits (b / 16) 0)) _ all)) i

text_named : (hash other : List ℕ) → IsBytes hash → length hash ≡ 32 → file_place hash ≡ file_place other → hash ≡ other
text_named hash other bytes long same =
    let text = append_cancel_left (codes "FileLib/") (encode_lower hash) (encode_lower other) same in
    file_names hash other bytes (bytes_of_text other (ap (λ (l : List ℕ). list_all is_lower_hex l) (sym text) ∙ text_good hash bytes long)) same

-- the place of a manifest is needed if the version is there, or an unfinished job is to make it
own_is : (id : List ℕ) (version : ℕ) (h : Held) → length id ≡ 8 → version < 2 ^ 32 → IsNamed h.row → bytes_eq (manifest_place id version) (own_place h) ≡ is_of id version h.row
own_is id version h long small named = same_test _ _ there back
  where
    there : bytes_eq (manifest_place id version) (own_place h) ≡ true → is_of id version h.row ≡ true
    there is =
        let below : h.row.version < 2 ^ 32 = named.1 in
        let names = manifest_names id version h.row.package h.row.version long named.0 (omega arith) (omega arith) ((bytes_eq-Decides (manifest_place id version) (own_place h)).0 is) in
        ap (λ (b : Bool). b && (h.row.version == version)) ((bytes_eq-Decides h.row.package id).1 (sym names.0)) ∙ eq-eqb h.row.version version (sym names.1)

    back : is_of id version h.row ≡ true → bytes_eq (manifest_place id version) (own_place h) ≡ true
    back is =
        let same_id = (bytes_eq-Decides h.row.package id).0 (and_left (bytes_eq h.row.package id) (h.row.version == version) is) in
        let same_version = eqb-true h.row.version version (and_right (bytes_eq h.row.package id) (h.row.version == version) is) in
        (bytes_eq-Decides (manifest_place id version) (own_place h)).1 (ap (λ (i : List ℕ). manifest_place i version) (sym same_id) ∙ ap (λ (n : ℕ). manifest_place h.row.package n) (sym same_version))

named_holdings : (s : State) → AreNamed (rows_of s) → AllByRecursion (λ (h : Held). IsNamed h.row) (holdings s)
named_holdings s named =
    All-append (λ (h : Held). IsNamed h.row) s.versions (map (λ (job : ℕ × Held). job.1) s.jobs)
    (un_map (λ (h : Held). h.row) IsNamed s.versions named.versions)
    (over_map (λ (job : ℕ × Held). job.1) (λ (h : Held). IsNamed h.row) s.jobs (un_map (λ (job : ℕ × Held). let row : ℕ × PkgRow = (job.0, job.1.row) in row) (λ (job : ℕ × PkgRow). IsNamed job.1) s.jobs named.jobs))

own_all : (id : List ℕ) (version : ℕ) → length id ≡ 8 → version < 2 ^ 32 → (hs : List Held) → AllByRecursion (λ (h : Held). IsNamed h.row) hs → AllByRecursion (λ (h : Held). bytes_eq (manifest_place id version) (own_place h) ≡ is_of id version h.row) hs
own_all id version long small [] all = tt
own_all id version long small (h ∷ hs) all = (own_is id version h long small all.0, own_all id version long small hs all.1)

pub needed_manifest : (s : State) (id : List ℕ) (version : ℕ) → AreNamed (rows_of s) → length id ≡ 8 → version < 2 ^ 32 → list_any (bytes_eq (manifest_place id version)) (needed s) ≡ holds id version s
needed_manifest s id version named long small =
    let hs = holdings s in
    let p = bytes_eq (manifest_place id version) in
    list_any-append p (map own_place hs) (flat_map file_places hs)
    ∙ ap (λ (b : Bool). b || list_any p (flat_map file_places hs))
    (any_map p own_place hs ∙ any_same (λ (h : Held). p (own_place h)) (λ (h : Held). is_of id version h.row) hs (own_all id version long small hs (named_holdings s named)))
    ∙ ap (λ (b : Bool). holds id version s || b)
    (any_flat p file_places hs ∙ any_never (λ (h : Held). list_any p (file_places h)) (λ h. any_map p (λ (e : Entry). file_place e.hash.0) h.manifest ∙ any_never (λ (e : Entry). p (file_place e.hash.0)) (λ e. other_bytes (manifest_place id version) (file_place e.hash.0) (manifest_no_file id version e.hash.0)) h.manifest) hs)
    ∙ or_false (holds id version s)

-- the place of a file is needed if a version or an unfinished job names its hash
file_is : (hash : List ℕ) → IsBytes hash → length hash ≡ 32 → (e : Entry) → bytes_eq (file_place hash) (file_place e.hash.0) ≡ bytes_eq e.hash.0 hash
file_is hash bytes long e =
    same_test _ _ (λ is. (bytes_eq-Decides e.hash.0 hash).1 (sym (text_named hash e.hash.0 bytes long ((bytes_eq-Decides (file_place hash) (file_place e.hash.0)).0 is))))
    (λ is. (bytes_eq-Decides (file_place hash) (file_place e.hash.0)).1 (ap file_place (sym ((bytes_eq-Decides e.hash.0 hash).0 is))))

-- of which holding it is
held_hash : (hash : List ℕ) (s : State) → list_any (λ (h : Held). has_hash hash h.manifest) (holdings s) ≡ is_needed hash s
held_hash hash s =
    list_any-append (λ (h : Held). has_hash hash h.manifest) s.versions (map (λ (job : ℕ × Held). job.1) s.jobs)
    ∙ ap (λ (b : Bool). is_named hash s || b) (any_map (λ (h : Held). has_hash hash h.manifest) (λ (job : ℕ × Held). job.1) s.jobs)

pub needed_file : (s : State) (hash : List ℕ) → IsBytes hash → length hash ≡ 32 → list_any (bytes_eq (file_place hash)) (needed s) ≡ is_needed hash s
needed_file s hash bytes long =
    let hs = holdings s in
    let p = bytes_eq (file_place hash) in
    list_any-append p (map own_place hs) (flat_map file_places hs)
    ∙ ap (λ (b : Bool). b || list_any p (flat_map file_places hs))
    (any_map p own_place hs ∙ any_never (λ (h : Held). p (own_place h)) (λ h. other_bytes (file_place hash) (own_place h) (λ same. manifest_no_file h.row.package h.row.version hash (sym same))) hs)
    ∙ any_flat p file_places hs
    ∙ any_same (λ (h : Held). list_any p (file_places h)) (λ (h : Held). has_hash hash h.manifest) hs
    (each_of (λ (h : Held). list_any p (file_places h) ≡ has_hash hash h.manifest)
    (λ h. any_map p (λ (e : Entry). file_place e.hash.0) h.manifest
    ∙ any_same (λ (e : Entry). p (file_place e.hash.0)) (λ (e : Entry). bytes_eq e.hash.0 hash) h.manifest (each_of (λ (e : Entry). p (file_place e.hash.0) ≡ bytes_eq e.hash.0 hash) (file_is hash bytes long) h.manifest)) hs)
    ∙ held_hash hash s

-- and then it is needed, whatever names the hash
pub file_needed : (s : State) (hash : List ℕ) → is_needed hash s ≡ true → list_any (bytes_eq (file_place hash)) (needed s) ≡ true
file_needed s hash is =
    let hs = holdings s in
    let p = bytes_eq (file_place hash) in
    list_any-append p (map own_place hs) (flat_map file_places hs)
    ∙ ap (λ (b : Bool). list_any p (map own_place hs) || b)
    (any_flat p file_places hs ∙ any_more (λ (h : Held). has_hash hash h.manifest) (λ (h : Held). list_any p (file_places h))
    (λ h has. any_map p (λ (e : Entry). file_place e.hash.0) h.manifest
    ∙ any_more (λ (e : Entry). bytes_eq e.hash.0 hash) (λ (e : Entry). p (file_place e.hash.0)) (λ e same. (bytes_eq-Decides (file_place hash) (file_place e.hash.0)).1 (ap file_place (sym ((bytes_eq-Decides e.hash.0 hash).0 same)))) h.manifest has) hs (held_hash hash s ∙ is))
    ∙ or_true (list_any p (map own_place hs))

pub own_needed : (s : State) (h : Held) → Contains (holdings s) h → list_any (bytes_eq (own_place h)) (needed s) ≡ true
own_needed s h among =
    any_member (bytes_eq (own_place h)) (needed s) (own_place h)
    (Contains-append_left (map own_place (holdings s)) (flat_map file_places (holdings s)) (own_place h) (map_member own_place (holdings s) h among)) ((bytes_eq-Decides (own_place h) (own_place h)).1 refl)

pub entry_needed : (s : State) (h : Held) (e : Entry) → Contains (holdings s) h → Contains h.manifest e → list_any (bytes_eq (file_place e.hash.0)) (needed s) ≡ true
entry_needed s h e among of =
    any_member (bytes_eq (file_place e.hash.0)) (needed s) (file_place e.hash.0)
    (Contains-append_right (map own_place (holdings s)) (flat_map file_places (holdings s)) (file_place e.hash.0) (flat_member file_places (holdings s) h (file_place e.hash.0) among (map_member (λ (e : Entry). file_place e.hash.0) h.manifest e of)))
    ((bytes_eq-Decides (file_place e.hash.0) (file_place e.hash.0)).1 refl)

pub version_among : (s : State) (h : Held) → Contains s.versions h → Contains (holdings s) h
version_among s h among = Contains-append_left s.versions (map (λ (job : ℕ × Held). job.1) s.jobs) h among

pub job_among : (s : State) (job : ℕ × Held) → Contains s.jobs job → Contains (holdings s) job.1
job_among s job among = Contains-append_right s.versions (map (λ (job : ℕ × Held). job.1) s.jobs) job.1 (map_member (λ (job : ℕ × Held). job.1) s.jobs job among)

-- a place that is needed is not loose, nor is one of the log's
pub needed_firm : (s : State) (q : List ℕ) → list_any (bytes_eq q) (needed s) ≡ true → is_loose s q ≡ false
needed_firm s q is = ap (λ (b : Bool). is_stored_place q && not b) is ∙ and_false (is_stored_place q)

pub not_loose : (s : State) (place q : List ℕ) → is_loose s place ≡ true → is_loose s q ≡ false → q ≢ place
not_loose s place q loose firm same = false≢true (sym firm ∙ ap (is_loose s) same ∙ loose)

pub apart : (s : State) (place q : List ℕ) → is_loose s place ≡ true → list_any (bytes_eq q) (needed s) ≡ true → q ≢ place
apart s place q loose is = not_loose s place q loose (needed_firm s q is)

pub ready_firm : (s : State) → is_loose s (ready_place PkgLib) ≡ false
ready_firm s = refl

pub log_firm : (s : State) (side : Side) → is_loose s (log_place PkgLib side) ≡ false
log_firm s First = refl
log_firm s Second = refl

-- files that agree at all places that are not loose
module _ (s : State) (files now : Files) (same : (q : List ℕ) → is_loose s q ≡ false → now q ≡ files q) where
  agree : AgreeOn s files now
  agree = record {
    ready = same (ready_place PkgLib) (ready_firm s);
    logs = λ side. same (log_place PkgLib side) (log_firm s side);
    needed_places = each_member (λ (place : List ℕ). now place ≡ files place) (needed s) (λ q among. same q (needed_firm s q (any_member (bytes_eq q) (needed s) q among ((bytes_eq-Decides q q).1 refl))));
  }

  pub firm_stands : Stands files s → Stands now s
  firm_stands stands = stands_enough files now s stands agree

  pub firm_opens : Opens files s → Opens now s
  firm_opens opens = needs_are_enough files now s opens agree

-- some loose places are gone, in one call and in several
partly_same : (file : File) → IsPartly file None file
partly_same file = record { bytes = λ i. inl refl; there = inl refl }

pub clears_none : (s : State) (files : Files) → Clears s files files
clears_none s files = record { kept = λ q firm. refl; gone_or = λ q loose. partly_same (files q) }

partly_join : (a b c : File) → IsPartly a None b → IsPartly b None c → IsPartly a None c
partly_join a b c one two = record {
  bytes = λ i. elim (two.bytes i) [
    | inl e ↦ elim (one.bytes i) [ inl d ↦ inl (e ∙ d) | inr d ↦ inr (e ∙ d) ]
    | inr e ↦ inr e
  ];
  there = elim two.there [
    | inl e ↦ elim one.there [ inl d ↦ inl (e ∙ d) | inr d ↦ inr (e ∙ d) ]
    | inr e ↦ inr e
  ];
}

pub clears_join : (s : State) (files mid now : Files) → Clears s files mid → Clears s mid now → Clears s files now
clears_join s files mid now one two = record {
  kept = λ q firm. two.kept q firm ∙ one.kept q firm;
  gone_or = λ q loose. partly_join (files q) (mid q) (now q) (one.gone_or q loose) (two.gone_or q loose);
}

pub told_clears : (s : State) (old mid new : Option Files) → Told (Clears s) old mid → Told (Clears s) mid new → Told (Clears s) old new
told_clears s old mid new one two files told =
    let a = one files told in
    let b = two a.0 a.1 in
    (b.0, b.1, clears_join s files a.0 b.0 a.2 b.2)

pub same_clears : (s : State) (old new : Option Files) → new ≡ old → Told (Clears s) old new
same_clears s old new same files told = (files, same ∙ told, clears_none s files)

put_clears : (s : State) (files : Files) (place : List ℕ) (file : File) → is_loose s place ≡ true → IsPartly (files place) None file → Clears s files (put files place file)
put_clears s files place file loose partly = record {
  kept = λ q firm. put_there files place file q (not_loose s place q loose firm);
  gone_or = λ q also. at q (bytes_eq place q) refl;
}
  where
    at : (q : List ℕ) (b : Bool) → bytes_eq place q ≡ b → IsPartly (files q) None (put files place file q)
    at q true same =
        subst (λ (p : List ℕ). IsPartly (files p) None (put files place file p)) ((bytes_eq-Decides place q).0 same) (subst (IsPartly (files place) None) (sym (put_here files place file)) partly)
    at q false other = subst (IsPartly (files q) None) (sym (put_there files place file q (λ same. false≢true (sym other ∙ (bytes_eq-Decides place q).1 (sym same))))) (partly_same (files q))

pub removal_clears : {T E : Type 0} (s : State) (old new : Option Files) (place : List ℕ) (result : Result T E) → is_loose s place ≡ true → Does old new place removed result → Told (Clears s) old new
removal_clears s old new place (Ok x) loose does files told = (put files place None, does.ok files told, put_clears s files place None loose (record { bytes = λ i. inr refl; there = inr refl }))
removal_clears s old new place (Err e) loose does files told =
    let partly = does.err files told in
    (put files place partly.0, partly.1, put_clears s files place partly.0 loose partly.2)
