-- The started files of a library stay so.
use Rattle.std.proofs.Common.{◌≡◌, ℕ, ◌<◌, ◌==◌, Bool, true, false, cond, List, [], ◌∷◌, ◌++◌, length, map, refl, sym, ◌∙◌, ap, subst, arith}
use Rattle.std.specs.Prelude.{◌≢◌, ◌&&◌, ◌||◌, not, is_some, if◌then◌else◌, find, filter, Option, None, Some, IfSome, option_map}
use Rattle.std.specs.Option.{ForSome, IsSome, option_or}
use Rattle.std.specs.List.{AllByRecursion, IsDistinct, list_any}
use Rattle.std.specs.Cmp.{nat_eq_equiv}
use Rattle.std.specs.Map.{lookup}
use Rattle.std.specs.Str.{bytes_eq}
use Rattle.std.proofs.Math.Dec.{eqb}
use Rattle.std.proofs.lemmas.Bool.{false≢true, eq-eqb, eqb-true, eqb-false, ne_eqb}
use Rattle.std.proofs.lemmas.List.{length-map}
use Rattle.std.proofs.lemmas.List.Folds.{find-append}
use Rattle.std.proofs.lemmas.Map.Steps.{length-le_from_keys}
use Rattle.std.proofs.lemmas.Option.{same_Some, none-some}
use Rattle.std.proofs.lemmas.Slice.Eq.{bytes_eq-Decides}
use Rattle.hex.specs.Hex.{IsBytes}
use Rattle.cm_base.specs.declared.hash.Hash.{Hash}
use Rattle.cm_disk.specs.Disk.{Files}
use Rattle.cm_disk.proofs.Puts.{told_before}
use Rattle.cm_pkglib.specs.declared.counts.Seal.{Seal}
use Rattle.cm_pkglib.proofs.Among.{All-append}
use Rattle.cm_tree.specs.declared.entry.Entry.{Entry}
use Rattle.cm_filelib.specs.declared.writing.Writing.{Writing}
use Rattle.cm_filelib.specs.Places.{file_place}
use Rattle.cm_filelib.specs.Writings.{hash_of, size_of, place_of, IsWriting}
use Rattle.cm_state.specs.State.{Held, State, held_of, held_by_job, without_job}
use Rattle.cm_state.specs.Changes.{StateChange, Begun, Finished, Dropped, Removed, changed}
use Rattle.cm_state.specs.Adding.{Told, KeepsStore}
use Rattle.cm_state.specs.Needed.{has_hash, is_named, is_needed}
use Rattle.cm_state.proofs.Committed.{all_through}
use Rattle.cm_state.proofs.Elsewhere.{file_names}
use Rattle.cm_state.proofs.Lists.{all_filter, found_one, find_none, no_some, over_map}
use Rattle.cm_contents.specs.Seals.{is_stored, has_size, if_needed, manifest_or_none, job_manifest, AreStored}
use Rattle.cm_contents.specs.Wants.{size_in}
use Rattle.cm_contents.proofs.Counted.{found_passes}
use Rattle.cm_library.specs.Calls.{KeepsNeeded}
use Rattle.cm_library.specs.Filing.{SameBut, SealsIt}
use Rattle.cm_library.specs.Started.{started_by, without_file, without_own, holder_of, left_by, EndsNone, IsStarted, AreApart, AreAllApart, AreStarted}

abbrev File : Type 0
File = ℕ × Writing

-- a file is of another job, and of another hash
abbrev IsApartFrom : ℕ → List ℕ → File → Type 0
IsApartFrom job hash file = (file.0 ≢ job) × ((hash_of file.1).0 ≢ hash)

-- two facts of each element give a third
pub all_join : {A : Type 0} (P Q R : A → Type 0) → ((a : A) → P a → Q a → R a) → (xs : List A) → AllByRecursion P xs → AllByRecursion Q xs → AllByRecursion R xs
all_join P Q R join [] p q = tt
all_join P Q R join (x ∷ xs) p q = (join x p.0 q.0, all_join P Q R join xs p.1 q.1)

all_each : {A : Type 0} (P : A → Type 0) → ((a : A) → P a) → (xs : List A) → AllByRecursion P xs
all_each P each [] = tt
all_each P each (x ∷ xs) = (each x, all_each P each xs)

-- what a filter keeps passes its test
all_passing : {A : Type 0} (p : A → Bool) (xs : List A) → AllByRecursion (λ x. p x ≡ true) (filter p xs)
all_passing p [] = tt
all_passing p (x ∷ xs) = by (p x) refl (all_passing p xs)
  where
    by : (b : Bool) → p x ≡ b → AllByRecursion (λ y. p y ≡ true) (filter p xs) → AllByRecursion (λ y. p y ≡ true) (cond b (x ∷ filter p xs) (filter p xs))
    by true is rest = (is, rest)
    by false is rest = rest

-- where nothing is found nothing passes
none_found : {A : Type 0} (p : A → Bool) (xs : List A) → find p xs ≡ None → AllByRecursion (λ x. p x ≡ false) xs
none_found p [] is = tt
none_found p (x ∷ xs) is = by (p x) refl is (none_found p xs)
  where
    by : (b : Bool) → p x ≡ b → cond b (Some x) (find p xs) ≡ None → (find p xs ≡ None → AllByRecursion (λ y. p y ≡ false) xs) → (p x ≡ false) × AllByRecursion (λ y. p y ≡ false) xs
    by true same some rest = absurd (none-some x (sym some))
    by false same none rest = (same, rest none)

-- a search among what its test's opposite keeps
none_opposite : {A : Type 0} (p : A → Bool) (xs : List A) → find p (filter (λ x. not (p x)) xs) ≡ None
none_opposite p [] = refl
none_opposite p (x ∷ xs) = by (p x) refl (none_opposite p xs)
  where
    by : (b : Bool) → p x ≡ b → find p (filter (λ x. not (p x)) xs) ≡ None → find p (cond (not b) (x ∷ filter (λ x. not (p x)) xs) (filter (λ x. not (p x)) xs)) ≡ None
    by true is rest = rest
    by false is rest = ap (λ b. cond b (Some x) (find p (filter (λ x. not (p x)) xs))) is ∙ rest

-- a search among what is kept of all that pass it
find_kept : {A : Type 0} (p keep : A → Bool) → ((x : A) → p x ≡ true → keep x ≡ true) → (xs : List A) → find p (filter keep xs) ≡ find p xs
find_kept p keep through [] = refl
find_kept p keep through (x ∷ xs) = by (p x) refl (keep x) refl (find_kept p keep through xs)
  where
    by : (b : Bool) → p x ≡ b → (c : Bool) → keep x ≡ c → find p (filter keep xs) ≡ find p xs → find p (cond c (x ∷ filter keep xs) (filter keep xs)) ≡ cond b (Some x) (find p xs)
    by true is true kept rest = ap (λ b. cond b (Some x) (find p (filter keep xs))) is
    by true is false kept rest = absurd (false≢true (sym kept ∙ through x is))
    by false is true kept rest = ap (λ b. cond b (Some x) (find p (filter keep xs))) is ∙ rest
    by false is false kept rest = rest

-- what is found is one that passes
any_found : {A : Type 0} (p q : A → Bool) (xs : List A) (x : A) → find p xs ≡ Some x → q x ≡ true → list_any q xs ≡ true
any_found p q [] x is passes = absurd (none-some x is)
any_found p q (y ∷ ys) x is passes = by (p y) is (q y) refl (λ rest. any_found p q ys x rest passes)
  where
    by : (b : Bool) → cond b (Some y) (find p ys) ≡ Some x → (c : Bool) → q y ≡ c → (find p ys ≡ Some x → list_any q ys ≡ true) → (c || list_any q ys) ≡ true
    by b some true is rest = refl
    by true some false is rest = absurd (false≢true (sym is ∙ ap q (same_Some y x some) ∙ passes))
    by false some false is rest = rest some

apart_fewer : (keep : File → Bool) (started : List File) → AreAllApart started → AreAllApart (filter keep started)
apart_fewer keep [] apart = tt
apart_fewer keep (file ∷ rest) apart = by (keep file) (all_filter (AreApart file) keep rest apart.0) (apart_fewer keep rest apart.1)
  where
    by : (b : Bool) → AllByRecursion (AreApart file) (filter keep rest) → AreAllApart (filter keep rest) → AreAllApart (cond b (file ∷ filter keep rest) (filter keep rest))
    by true first later = (first, later)
    by false first later = later

-- some of them
pub files_fewer : (r : Option Files) (s : State) (seals : Hash → Option Seal) (keep : ℕ × Writing → Bool) (started : List (ℕ × Writing)) → AreStarted r s seals None started → AreStarted r s seals None (filter keep started)
files_fewer r s seals keep started are = record {
  each = all_filter (IsStarted s seals) keep started are.each;
  apart = apart_fewer keep started are.apart;
  written = λ files told. all_filter (λ (file : File). IsWriting files file.1) keep started (are.written files told);
  ending = tt;
}

-- a job that has given up its file has none
pub none_left : (job : ℕ) (started : List (ℕ × Writing)) → started_by job (without_file job started) ≡ None
none_left job started = ap (λ (o : Option File). option_map (λ (file : File). file.1) o) (none_opposite (λ (file : File). file.0 == job) started)

pub left_fewer : (r : Option Files) (s : State) (seals : Hash → Option Seal) (change : StateChange) (started : List (ℕ × Writing)) → AreStarted r s seals None started → AreStarted r s seals None (left_by change started)
left_fewer r s seals (Begun job id version manifest) started are = are
left_fewer r s seals (Finished job) started are = are
left_fewer r s seals (Dropped job) started are = files_fewer r s seals (λ (file : File). not (file.0 == job)) started are
left_fewer r s seals (Removed id version) started are = are

-- the change of a call that failed is pending
pub files_failed : (r : Option Files) (s : State) (seals : Hash → Option Seal) (change : StateChange) (started : List (ℕ × Writing)) → EndsNone change started → AreStarted r s seals None started → AreStarted r s seals (Some change) started
files_failed r s seals change started ends are = record { each = are.each; apart = are.apart; written = are.written; ending = ends }

unsealed_each : (s : State) (seals seals' : Hash → Option Seal) → ((hash : Hash) → seals hash ≡ None → seals' hash ≡ None) → (file : File) → IsStarted s seals file → IsStarted s seals' file
unsealed_each s seals seals' none file is = record { bytes = is.bytes; long = is.long; wanted = is.wanted; unsealed = none (hash_of file.1) is.unsealed; idle = is.idle }

-- no more hashes are sealed
pub files_unsealed : (r : Option Files) (s : State) (seals seals' : Hash → Option Seal) (pending : Option StateChange) (started : List (ℕ × Writing)) → ((hash : Hash) → seals hash ≡ None → seals' hash ≡ None) → AreStarted r s seals pending started → AreStarted r s seals' None started
files_unsealed r s seals seals' pending started none are = record {
  each = all_through (IsStarted s seals) (IsStarted s seals') (unsealed_each s seals seals' none) started are.each;
  apart = are.apart;
  written = are.written;
  ending = tt;
}

-- a place that is as it was
pub still_writing : (files now : Files) (writing : Writing) → now (place_of writing) ≡ files (place_of writing) → IsWriting files writing → IsWriting now writing
still_writing files now writing same is = record { bytes = is.bytes; put = is.put; reads = same ∙ is.reads }

-- what was told of what the disk reads as, where it tells it
pub told_of : (relation : Files → Files → Type 0) (old new : Option Files) (files now : Files) → Told relation old new → old ≡ Some files → new ≡ Some now → relation files now
told_of relation old new files now told before after =
    let t = told files before in
    subst (relation files) (same_Some t.0 now (sym t.1 ∙ after)) t.2

-- no stored file has changed
pub store_kept : (old new : Option Files) (s : State) (seals : Hash → Option Seal) (pending : Option StateChange) (started : List (ℕ × Writing)) → Told KeepsStore old new → (old ≡ None → new ≡ None) → AreStarted old s seals pending started → AreStarted new s seals pending started
store_kept old new s seals pending started told silent are = record {
  each = are.each;
  apart = are.apart;
  written = λ now after.
      let before = told_before old new silent now after in
      let same = told_of KeepsStore old new before.0 now told before.1 after in
      all_through (λ (file : File). IsWriting before.0 file.1) (λ (file : File). IsWriting now file.1) (λ file is. still_writing before.0 now file.1 (same (hash_of file.1).0) is) started (are.written before.0 before.1);
  ending = are.ending;
}

-- no place has changed but that of a hash of which none is
pub others_kept : (old new : Option Files) (s : State) (seals : Hash → Option Seal) (started : List (ℕ × Writing)) (hash : List ℕ) → IsBytes hash → AllByRecursion (λ (file : ℕ × Writing). (hash_of file.1).0 ≢ hash) started
    → Told (SameBut (file_place hash)) old new → (old ≡ None → new ≡ None) → AreStarted old s seals None started → AreStarted new s seals None started
others_kept old new s seals started hash bytes apart told silent are = record {
  each = are.each;
  apart = are.apart;
  written = λ now after.
      let before = told_before old new silent now after in
      let same = told_of (SameBut (file_place hash)) old new before.0 now told before.1 after in
      all_join (λ (file : File). file_place (hash_of file.1).0 ≢ file_place hash) (λ (file : File). IsWriting before.0 file.1) (λ (file : File). IsWriting now file.1)
      (λ file other is. still_writing before.0 now file.1 (same (place_of file.1) other) is) started elsewhere (are.written before.0 before.1);
  ending = tt;
}
  where
    elsewhere : AllByRecursion (λ (file : File). file_place (hash_of file.1).0 ≢ file_place hash) started
    elsewhere =
        all_join (IsStarted s seals) (λ (file : File). (hash_of file.1).0 ≢ hash) (λ (file : File). file_place (hash_of file.1).0 ≢ file_place hash)
        (λ file is other same. other (file_names (hash_of file.1).0 hash is.bytes bytes same)) started are.each apart

-- a hash is sealed of which none is
pub files_sealed : (r : Option Files) (s : State) (seals seals' : Hash → Option Seal) (hash : Hash) (size : ℕ) (started : List (ℕ × Writing)) → AllByRecursion (λ (file : ℕ × Writing). (hash_of file.1).0 ≢ hash.0) started
    → SealsIt hash size seals seals' → AreStarted r s seals None started → AreStarted r s seals' None started
files_sealed r s seals seals' hash size started apart seals_it are = record {
  each = all_join (λ (file : File). (hash_of file.1).0 ≢ hash.0) (IsStarted s seals) (IsStarted s seals')
      (λ file other is. record { bytes = is.bytes; long = is.long; wanted = is.wanted; unsealed = seals_it (hash_of file.1) ∙ by file other (bytes_eq hash.0 (hash_of file.1).0) refl ∙ is.unsealed; idle = is.idle }) started apart are.each;
  apart = are.apart;
  written = are.written;
  ending = tt;
}
  where
    by : (file : File) → (hash_of file.1).0 ≢ hash.0 → (b : Bool) → bytes_eq hash.0 (hash_of file.1).0 ≡ b → (if b then Some (record { size = size; since = true }) else seals (hash_of file.1)) ≡ seals (hash_of file.1)
    by file other true same = absurd (other (sym ((bytes_eq-Decides hash.0 (hash_of file.1).0).0 same)))
    by file other false same = refl

apart_more : (started : List (ℕ × Writing)) (job : ℕ) (writing : Writing) → AllByRecursion (IsApartFrom job (hash_of writing).0) started → AreAllApart started → AreAllApart (started ++ (job, writing) ∷ [])
apart_more [] job writing others apart = (tt, tt)
apart_more (file ∷ rest) job writing others apart =
    (All-append (AreApart file) rest ((job, writing) ∷ []) apart.0 (record { jobs = others.0.0; hashes = others.0.1 }, tt), apart_more rest job writing others.1 apart.1)

-- one more
pub files_more : (r : Option Files) (s : State) (seals : Hash → Option Seal) (job : ℕ) (writing : Writing) (started : List (ℕ × Writing)) → IsStarted s seals (job, writing)
    → AllByRecursion (λ (file : ℕ × Writing). (file.0 ≢ job) × ((hash_of file.1).0 ≢ (hash_of writing).0)) started → ForSome r (λ files. IsWriting files writing) → AreStarted r s seals None started → AreStarted r s seals None (started ++ (job, writing) ∷ [])
files_more r s seals job writing started is others written are = record {
  each = All-append (IsStarted s seals) started ((job, writing) ∷ []) are.each (is, tt);
  apart = apart_more started job writing others are.apart;
  written = λ files told. All-append (λ (file : File). IsWriting files file.1) started ((job, writing) ∷ []) (are.written files told) (written files told, tt);
  ending = tt;
}

-- the file that a job has started is one of them
found_file : (P : File → Type 0) (job : ℕ) (started : List (ℕ × Writing)) (writing : Writing) → started_by job started ≡ Some writing → AllByRecursion P started → P (job, writing)
found_file P job [] writing is all = absurd (none-some writing is)
found_file P job (file ∷ rest) writing is all = by (file.0 == job) refl is (λ some. found_file P job rest writing some all.1)
  where
    by : (b : Bool) → (file.0 == job) ≡ b → option_map (λ (f : File). f.1) (cond b (Some file) (find (λ (f : File). f.0 == job) rest)) ≡ Some writing → (started_by job rest ≡ Some writing → P (job, writing)) → P (job, writing)
    by true same some later = subst (λ (n : ℕ). P (n, writing)) (eqb-true file.0 job same) (subst (λ (w : Writing). P (file.0, w)) (same_Some file.1 writing some) all.0)
    by false same some later = later some

found_apart : (job : ℕ) (started : List (ℕ × Writing)) (writing : Writing) → started_by job started ≡ Some writing → AreAllApart started → AllByRecursion (IsApartFrom job (hash_of writing).0) (without_file job started)
found_apart job [] writing is apart = tt
found_apart job (file ∷ rest) writing is apart = by (file.0 == job) refl is (λ some. found_apart job rest writing some apart.1)
  where
    others : (file.0 == job) ≡ true → file.1 ≡ writing → AllByRecursion (IsApartFrom job (hash_of writing).0) (without_file job rest)
    others same is =
        all_through (AreApart file) (IsApartFrom job (hash_of writing).0)
        (λ other apart. (λ e. apart.jobs (eqb-true file.0 job same ∙ sym e), λ e. apart.hashes (ap (λ (w : Writing). (hash_of w).0) is ∙ sym e)))
        (without_file job rest) (all_filter (AreApart file) (λ (f : File). not (f.0 == job)) rest apart.0)

    by : (b : Bool) → (file.0 == job) ≡ b → option_map (λ (f : File). f.1) (cond b (Some file) (find (λ (f : File). f.0 == job) rest)) ≡ Some writing
        → (started_by job rest ≡ Some writing → AllByRecursion (IsApartFrom job (hash_of writing).0) (without_file job rest))
        → AllByRecursion (IsApartFrom job (hash_of writing).0) (cond (not b) (file ∷ without_file job rest) (without_file job rest))
    by true same some later = others same (same_Some file.1 writing some)
    by false same some later = ((eqb-false file.0 job same, (found_file (AreApart file) job rest writing some apart.0).hashes), later some)

pub file_found : (r : Option Files) (s : State) (seals : Hash → Option Seal) (pending : Option StateChange) (job : ℕ) (started : List (ℕ × Writing)) (writing : Writing) → started_by job started ≡ Some writing → AreStarted r s seals pending started
    → IsStarted s seals (job, writing) × ForSome r (λ files. IsWriting files writing) × AllByRecursion (λ (file : ℕ × Writing). (file.0 ≢ job) × ((hash_of file.1).0 ≢ (hash_of writing).0)) (without_file job started)
file_found r s seals pending job started writing is are =
    (found_file (IsStarted s seals) job started writing is are.each, λ files told. found_file (λ (file : File). IsWriting files file.1) job started writing is (are.written files told), found_apart job started writing is are.apart)

-- what no other job holds
abbrev is_others : ℕ → Hash → File → Bool
is_others job hash file = not (file.0 == job) && bytes_eq (hash_of file.1).0 hash.0

no_others : (job : ℕ) (hash : Hash) (started : List (ℕ × Writing)) → holder_of job hash started ≡ None → AllByRecursion (λ (file : File). is_others job hash file ≡ false) started
no_others job hash started none = none_found (is_others job hash) started (no_some (λ (file : File). file.0) (find (is_others job hash) started) none)

not_named : (hash other : List ℕ) → bytes_eq hash other ≡ false → hash ≢ other
not_named hash other is same = false≢true (sym is ∙ (bytes_eq-Decides hash other).1 same)

pub others_apart : (job : ℕ) (hash : Hash) (started : List (ℕ × Writing)) → holder_of job hash started ≡ None → AllByRecursion (λ (file : ℕ × Writing). (file.0 ≢ job) × ((hash_of file.1).0 ≢ hash.0)) (without_file job started)
others_apart job hash started none =
    all_join (λ (file : File). is_others job hash file ≡ false) (λ (file : File). not (file.0 == job) ≡ true) (IsApartFrom job hash.0) (λ file other kept. by file (file.0 == job) refl other kept)
    (without_file job started) (all_filter (λ (file : File). is_others job hash file ≡ false) (λ (file : File). not (file.0 == job)) started (no_others job hash started none)) (all_passing (λ (file : File). not (file.0 == job)) started)
  where
    by : (file : File) (b : Bool) → (file.0 == job) ≡ b → (not b && bytes_eq (hash_of file.1).0 hash.0) ≡ false → not b ≡ true → IsApartFrom job hash.0 file
    by file true is other kept = absurd (false≢true kept)
    by file false is other kept = (eqb-false file.0 job is, not_named (hash_of file.1).0 hash.0 other)

pub own_apart : (job : ℕ) (hash : Hash) (started : List (ℕ × Writing)) → holder_of job hash started ≡ None → AllByRecursion (λ (file : ℕ × Writing). (hash_of file.1).0 ≢ hash.0) (without_own job hash started)
own_apart job hash started none =
    all_join (λ (file : File). is_others job hash file ≡ false) (λ (file : File). own file ≡ true) (λ (file : File). (hash_of file.1).0 ≢ hash.0)
    (λ file other kept. not_named (hash_of file.1).0 hash.0 (by (file.0 == job) (bytes_eq (hash_of file.1).0 hash.0) other kept))
    (without_own job hash started) (all_filter (λ (file : File). is_others job hash file ≡ false) own started (no_others job hash started none)) (all_passing own started)
  where
    own : File → Bool
    own file = not (file.0 == job && bytes_eq (hash_of file.1).0 hash.0)

    by : (b c : Bool) → (not b && c) ≡ false → not (b && c) ≡ true → c ≡ false
    by true true other kept = absurd (false≢true kept)
    by true false other kept = refl
    by false c other kept = other

-- a job that wants a file is unfinished
wants_some : (hash : Hash) (size : ℕ) (found : Option Held) → size_in hash (manifest_or_none found) ≡ Some size → is_some found ≡ true
wants_some hash size None is = absurd (none-some size is)
wants_some hash size (Some held) is = refl

pub no_file : (s : State) (seals : Hash → Option Seal) (job : ℕ) (started : List (ℕ × Writing)) → held_by_job job s.jobs ≡ None → AllByRecursion (IsStarted s seals) started → started_by job started ≡ None
no_file s seals job started none each =
    ap (λ (o : Option File). option_map (λ (file : File). file.1) o)
    (find_none (λ (file : File). file.0 == job) started (all_through (IsStarted s seals) (λ (file : File). (file.0 == job) ≡ false) (λ file is. ne_eqb file.0 job (other file is)) started each))
  where
    other : (file : File) → IsStarted s seals file → file.0 ≢ job
    other file is same =
        let some : is_some (held_by_job file.0 s.jobs) ≡ true = wants_some (hash_of file.1) (size_of file.1) (held_by_job file.0 s.jobs) is.wanted in
        false≢true (sym (ap (λ (o : Option Held). is_some o) (ap (λ (n : ℕ). held_by_job n s.jobs) same ∙ none)) ∙ some)

has_wanted : (hash : Hash) (size : ℕ) (manifest : List Entry) → size_in hash manifest ≡ Some size → has_hash hash.0 manifest ≡ true
has_wanted hash size manifest is = by (find (λ (e : Entry). bytes_eq e.hash.0 hash.0) manifest) refl is
  where
    by : (o : Option Entry) → find (λ (e : Entry). bytes_eq e.hash.0 hash.0) manifest ≡ o → option_map (λ (e : Entry). e.size) o ≡ Some size → has_hash hash.0 manifest ≡ true
    by None found is = absurd (none-some size is)
    by (Some e) found is =
        any_found (λ (e : Entry). bytes_eq e.hash.0 hash.0) (λ (e : Entry). bytes_eq e.hash.0 hash.0) manifest e found (found_passes (λ (e : Entry). bytes_eq e.hash.0 hash.0) manifest e found)

pub wanted_needed : (s : State) (job : ℕ) (hash : Hash) (size : ℕ) → size_in hash (job_manifest job s) ≡ Some size → is_needed hash.0 s ≡ true
wanted_needed s job hash size wanted = either (is_named hash.0 s) (list_any has s.jobs) (by (find (λ (u : ℕ × Held). u.0 == job) s.jobs) refl wanted)
  where
    has : ℕ × Held → Bool
    has u = has_hash hash.0 u.1.manifest

    either : (a b : Bool) → b ≡ true → (a || b) ≡ true
    either true b is = refl
    either false b is = is

    by : (o : Option (ℕ × Held)) → find (λ (u : ℕ × Held). u.0 == job) s.jobs ≡ o → size_in hash (manifest_or_none (option_map (λ (u : ℕ × Held). u.1) o)) ≡ Some size → list_any has s.jobs ≡ true
    by None found is = absurd (none-some size is)
    by (Some u) found is = any_found (λ (u : ℕ × Held). u.0 == job) has s.jobs u found (has_wanted hash size u.1.manifest is)

-- a job that is finished has no file left
pub ends_none : (s : State) (seals : Hash → Option Seal) (change : StateChange) (started : List (ℕ × Writing)) → AllByRecursion (IsStarted s seals) started → AreStored seals change s → EndsNone change (left_by change started)
ends_none s seals (Begun job id version manifest) started each stored = tt
ends_none s seals (Finished job) started each stored =
    ap (λ (o : Option File). option_map (λ (file : File). file.1) o)
    (find_none (λ (file : File). file.0 == job) started (all_through (IsStarted s seals) (λ (file : File). (file.0 == job) ≡ false) (λ file is. ne_eqb file.0 job (other file is)) started each))
  where
    other : (file : File) → IsStarted s seals file → file.0 ≢ job
    other file is same = by (find (λ (e : Entry). bytes_eq e.hash.0 (hash_of file.1).0) (job_manifest job s)) refl (ap (λ (n : ℕ). size_in (hash_of file.1) (job_manifest n s)) (sym same) ∙ is.wanted)
      where
        by : (o : Option Entry) → find (λ (e : Entry). bytes_eq e.hash.0 (hash_of file.1).0) (job_manifest job s) ≡ o → option_map (λ (e : Entry). e.size) o ≡ Some (size_of file.1) → ⊥
        by None found wanted = none-some (size_of file.1) wanted
        by (Some e) found wanted =
            let sealed : is_stored seals e ≡ true = found_one (λ (e : Entry). is_stored seals e ≡ true) (λ (e : Entry). bytes_eq e.hash.0 (hash_of file.1).0) (job_manifest job s) stored e found in
            let named : e.hash.0 ≡ (hash_of file.1).0 = (bytes_eq-Decides e.hash.0 (hash_of file.1).0).0 (found_passes (λ (e : Entry). bytes_eq e.hash.0 (hash_of file.1).0) (job_manifest job s) e found) in
            let none : seals e.hash ≡ None = ap (λ (h : List ℕ). seals (record { 0 = h })) named ∙ is.unsealed in
            false≢true (sym (ap (has_size e.size) none) ∙ sealed)
ends_none s seals (Dropped job) started each stored = none_left job started
ends_none s seals (Removed id version) started each stored = tt

-- the change ends another job than this one, or none
abbrev IsOther : StateChange → ℕ → Type 0
IsOther (Begun job id version manifest) number = Unit {0}
IsOther (Finished job) number = (number == job) ≡ false
IsOther (Dropped job) number = (number == job) ≡ false
IsOther (Removed id version) number = Unit {0}

each_other : (change : StateChange) (started : List (ℕ × Writing)) → EndsNone change started → AllByRecursion (λ (file : File). IsOther change file.0) started
each_other (Begun job id version manifest) started ends = all_each (λ (file : File). Unit {0}) (λ file. tt) started
each_other (Finished job) started ends = none_found (λ (file : File). file.0 == job) started (no_some (λ (file : File). file.1) (find (λ (file : File). file.0 == job) started) ends)
each_other (Dropped job) started ends = none_found (λ (file : File). file.0 == job) started (no_some (λ (file : File). file.1) (find (λ (file : File). file.0 == job) started) ends)
each_other (Removed id version) started ends = all_each (λ (file : File). Unit {0}) (λ file. tt) started

held_still : (number job : ℕ) (jobs : List (ℕ × Held)) → (number == job) ≡ false → held_by_job number (without_job job jobs) ≡ held_by_job number jobs
held_still number job jobs other =
    ap (λ (o : Option (ℕ × Held)). option_map (λ (u : ℕ × Held). u.1) o)
    (find_kept (λ (u : ℕ × Held). u.0 == number) (λ (u : ℕ × Held). not (u.0 == job)) (λ u same. ap not (ap (λ (n : ℕ). n == job) (eqb-true u.0 number same) ∙ other)) jobs)

-- what it wants it still wants
wanted_still : (s : State) (change : StateChange) (number : ℕ) (hash : Hash) (size : ℕ) → IsOther change number → size_in hash (job_manifest number s) ≡ Some size → size_in hash (job_manifest number (changed change s)) ≡ Some size
wanted_still s (Begun job id version manifest) number hash size other wanted = by (find (λ (u : ℕ × Held). u.0 == number) s.jobs) refl wanted
  where
    by : (o : Option (ℕ × Held)) → find (λ (u : ℕ × Held). u.0 == number) s.jobs ≡ o → size_in hash (manifest_or_none (option_map (λ (u : ℕ × Held). u.1) o)) ≡ Some size
        → size_in hash (job_manifest number (changed (Begun job id version manifest) s)) ≡ Some size
    by None found is = absurd (none-some size is)
    by (Some u) found is =
        ap (λ (o : Option (ℕ × Held)). size_in hash (manifest_or_none (option_map (λ (u : ℕ × Held). u.1) o)))
        (find-append (λ (u : ℕ × Held). u.0 == number) s.jobs ((job, held_of id version manifest) ∷ []) ∙ ap (λ (o : Option (ℕ × Held)). option_or o (find (λ (u : ℕ × Held). u.0 == number) ((job, held_of id version manifest) ∷ []))) found)
        ∙ is
wanted_still s (Finished job) number hash size other wanted = ap (λ (o : Option Held). size_in hash (manifest_or_none o)) (held_still number job s.jobs other) ∙ wanted
wanted_still s (Dropped job) number hash size other wanted = ap (λ (o : Option Held). size_in hash (manifest_or_none o)) (held_still number job s.jobs other) ∙ wanted
wanted_still s (Removed id version) number hash size other wanted = wanted

never : (needed : Bool) → if_needed needed None ≡ None
never true = refl
never false = refl

-- a change is made that ends no job with one
pub files_done : (r : Option Files) (s t : State) (seals seals' : Hash → Option Seal) (pending : Option StateChange) (change : StateChange) (started : List (ℕ × Writing)) → t ≡ changed change s → EndsNone change started → KeepsNeeded t seals seals'
    → AreStarted r s seals pending started → AreStarted r t seals' None started
files_done r s t seals seals' pending change started is ends keeps are = record {
  each = all_join (IsStarted s seals) (λ (file : File). IsOther change file.0) (IsStarted t seals') still started are.each (each_other change started ends);
  apart = are.apart;
  written = are.written;
  ending = tt;
}
  where
    still : (file : File) → IsStarted s seals file → IsOther change file.0 → IsStarted t seals' file
    still file was other = record {
      bytes = was.bytes;
      long = was.long;
      wanted = ap (λ (u : State). size_in (hash_of file.1) (job_manifest file.0 u)) is ∙ wanted_still s change file.0 (hash_of file.1) (size_of file.1) other was.wanted;
      unsealed = keeps (hash_of file.1) ∙ ap (λ (o : Option Seal). if_needed (is_needed (hash_of file.1).0 t) o) was.unsealed ∙ never (is_needed (hash_of file.1).0 t);
      idle = was.idle;
    }

-- the jobs of started files are unfinished, and apart
lookup_held : (job : ℕ) (jobs : List (ℕ × Held)) → is_some (held_by_job job jobs) ≡ true → IsSome (lookup (eqb job) jobs)
lookup_held job [] is = is
lookup_held job (u ∷ us) is = by (u.0 == job) refl is (lookup_held job us)
  where
    by : (b : Bool) → (u.0 == job) ≡ b → is_some (option_map (λ (v : ℕ × Held). v.1) (cond b (Some u) (find (λ (v : ℕ × Held). v.0 == job) us))) ≡ true → (is_some (held_by_job job us) ≡ true → IsSome (lookup (eqb job) us))
        → IsSome (cond (eqb job u.0) (Some u.1) (lookup (eqb job) us))
    by true same some rest = subst (λ (b : Bool). IsSome (cond b (Some u.1) (lookup (eqb job) us))) (sym (eq-eqb job u.0 (sym (eqb-true u.0 job same)))) refl
    by false same some rest = subst (λ (b : Bool). IsSome (cond b (Some u.1) (lookup (eqb job) us))) (sym (ne_eqb job u.0 (λ e. eqb-false u.0 job same (sym e)))) (rest some)

held_among : (jobs : List (ℕ × Held)) (numbers : List ℕ) → AllByRecursion (λ (n : ℕ). is_some (held_by_job n jobs) ≡ true) numbers → (number : ℕ) → list_any (eqb number) numbers ≡ true → is_some (held_by_job number jobs) ≡ true
held_among jobs [] all number is = absurd (false≢true is)
held_among jobs (n ∷ ns) all number is = by (eqb number n) refl is (held_among jobs ns all.1 number)
  where
    by : (b : Bool) → eqb number n ≡ b → (b || list_any (eqb number) ns) ≡ true → (list_any (eqb number) ns ≡ true → is_some (held_by_job number jobs) ≡ true) → is_some (held_by_job number jobs) ≡ true
    by true same any rest = ap (λ (m : ℕ). is_some (held_by_job m jobs)) (eqb-true number n same) ∙ all.0
    by false same any rest = rest any

-- the jobs of files
abbrev jobs_of : List (ℕ × Writing) → List ℕ
jobs_of started = map (λ (file : File). file.0) started

jobs_distinct : (started : List (ℕ × Writing)) → AreAllApart started → IsDistinct eqb (jobs_of started)
unfolding IsDistinct
jobs_distinct [] apart = tt
jobs_distinct (file ∷ rest) apart =
    (over_map (λ (f : File). f.0) (λ (n : ℕ). eqb file.0 n ≡ false) rest (all_through (AreApart file) (λ (f : File). eqb file.0 f.0 ≡ false) (λ f apart. ne_eqb file.0 f.0 apart.jobs) rest apart.0), jobs_distinct rest apart.1)

job_distinct : (job : ℕ) (started : List (ℕ × Writing)) → AllByRecursion (λ (file : File). not (file.0 == job) ≡ true) started → AreAllApart started → IsDistinct eqb (job ∷ jobs_of started)
unfolding IsDistinct
job_distinct job started others apart = (
  over_map (λ (f : File). f.0) (λ (n : ℕ). eqb job n ≡ false) started (all_through (λ (file : File). not (file.0 == job) ≡ true) (λ (f : File). eqb job f.0 ≡ false) (λ f other. ne_eqb job f.0 (λ e. by (f.0 == job) other (eq-eqb f.0 job (sym e)))) started others),
  jobs_distinct started apart,
)
  where
    by : (b : Bool) → not b ≡ true → b ≡ true → ⊥
    by true other same = false≢true other
    by false other same = false≢true same

-- there is room for one more than the others'
pub fewer_than_jobs : (s : State) (seals : Hash → Option Seal) (job : ℕ) (started : List (ℕ × Writing)) → AllByRecursion (IsStarted s seals) started → AreAllApart started → is_some (held_by_job job s.jobs) ≡ true → length (without_file job started) < length s.jobs
fewer_than_jobs s seals job started each apart unfinished =
    let keep = λ (file : File). not (file.0 == job) in
    let others = without_file job started in
    let held = over_map (λ (f : File). f.0) (λ (n : ℕ). is_some (held_by_job n s.jobs) ≡ true) others
    (all_through (IsStarted s seals) (λ (file : File). is_some (held_by_job file.0 s.jobs) ≡ true) (λ file is. wants_some (hash_of file.1) (size_of file.1) (held_by_job file.0 s.jobs) is.wanted) others (all_filter (IsStarted s seals) keep started each)) in
    let most = length-le_from_keys nat_eq_equiv (job ∷ jobs_of others) s.jobs (job_distinct job others (all_passing keep started) (apart_fewer keep started apart))
    (λ number among. lookup_held number s.jobs (held_among s.jobs (job ∷ jobs_of others) (unfinished, held) number among)) in
    omega (arith, most, length-map others (λ (f : File). f.0))

-- a search that finds nothing finds nothing among some of them
none_fewer : {A : Type 0} (p keep : A → Bool) (xs : List A) → find p xs ≡ None → find p (filter keep xs) ≡ None
none_fewer p keep [] is = refl
none_fewer p keep (x ∷ xs) is = by (p x) refl is (keep x) (none_fewer p keep xs)
  where
    by : (b : Bool) → p x ≡ b → cond b (Some x) (find p xs) ≡ None → (c : Bool) → (find p xs ≡ None → find p (filter keep xs) ≡ None) → find p (cond c (x ∷ filter keep xs) (filter keep xs)) ≡ None
    by true same some c rest = absurd (none-some x (sym some))
    by false same none true rest = ap (λ b. cond b (Some x) (find p (filter keep xs))) same ∙ rest none
    by false same none false rest = rest none

ends_fewer : (change : StateChange) (keep : ℕ × Writing → Bool) (started : List (ℕ × Writing)) → EndsNone change started → EndsNone change (filter keep started)
ends_fewer (Begun job id version manifest) keep started none = tt
ends_fewer (Finished job) keep started none = ap (λ (o : Option File). option_map (λ (file : File). file.1) o) (none_fewer (λ (file : File). file.0 == job) keep started (no_some (λ (file : File). file.1) (find (λ (file : File). file.0 == job) started) none))
ends_fewer (Dropped job) keep started none = ap (λ (o : Option File). option_map (λ (file : File). file.1) o) (none_fewer (λ (file : File). file.0 == job) keep started (no_some (λ (file : File). file.1) (find (λ (file : File). file.0 == job) started) none))
ends_fewer (Removed id version) keep started none = tt

-- a job gives up its file, whatever is pending
pub files_given : (r : Option Files) (s : State) (seals : Hash → Option Seal) (pending : Option StateChange) (job : ℕ) (started : List (ℕ × Writing)) → AreStarted r s seals pending started → AreStarted r s seals pending (without_file job started)
files_given r s seals pending job started are = record {
  each = all_filter (IsStarted s seals) (λ (file : File). not (file.0 == job)) started are.each;
  apart = apart_fewer (λ (file : File). not (file.0 == job)) started are.apart;
  written = λ files told. all_filter (λ (file : File). IsWriting files file.1) (λ (file : File). not (file.0 == job)) started (are.written files told);
  ending = by pending are.ending;
}
  where
    by : (o : Option StateChange) → IfSome o (λ change. EndsNone change started) → IfSome o (λ change. EndsNone change (without_file job started))
    by None none = tt
    by (Some change) none = ends_fewer change (λ (file : File). not (file.0 == job)) started none

-- a job that is to be dropped gives up its file
pub files_left_by : (r : Option Files) (s : State) (seals : Hash → Option Seal) (pending : Option StateChange) (change : StateChange) (started : List (ℕ × Writing)) → AreStarted r s seals pending started → AreStarted r s seals pending (left_by change started)
files_left_by r s seals pending (Begun job id version manifest) started are = are
files_left_by r s seals pending (Finished job) started are = are
files_left_by r s seals pending (Dropped job) started are = files_given r s seals pending job started are
files_left_by r s seals pending (Removed id version) started are = are
