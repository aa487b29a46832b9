-- A walk over a folder so far.
use Rattle.std.proofs.Common.{◌≡◌, ◌⊎◌, ℕ, zero, suc, ◌+◌, ◌<◌, ◌≤◌, ◌^◌, Bool, true, false, cond, not, ltb, List, [], ◌∷◌, ◌++◌, length, take, drop, map, Option, None, Some, Result, Ok, Err, refl, sym, ap, ◌∙◌, subst, append_assoc, arith, inl, inr}
use Rattle.std.specs.Option.{unwrap_or}
use Rattle.std.specs.Result.{OnErr}
use Rattle.std.specs.List.{slice_get, AllByRecursion}
use Rattle.std.proofs.lemmas.Bool.{cases_eq, cases_lt, lt-ltb, le-ltb, ltb-false, not-false}
use Rattle.std.proofs.lemmas.List.{map-append, append-nil, take-append-drop, take_all}
use Rattle.cm_tree.specs.declared.scan_fault.ScanFault.{ScanFault}
use Rattle.cm_tree.specs.declared.scan_fault.ScanFault.TheVariants.{Folder, TooManyFiles, BadPath, SamePath, FileTooLong, Memory}
use Rattle.cm_tree.specs.declared.taken.Taken.{Taken}
use Rattle.cm_tree.specs.Paths.{is_file_path, is_rising, is_apart, has_path, folded_path}
use Rattle.cm_tree.specs.Trees.{File, file_paths, IsFile, IsTree}
use Rattle.cm_tree.specs.Folders.{Shown, Stays, Turns, Agrees, WasRead, MayBeRead}
use Rattle.cm_tree.specs.Scans.{path_fault, length_fault, file_fault, files_fault, first_of, first_fault, HasFault}
use Rattle.cm_tree.specs.Taking.{HasTaken}
use Rattle.cm_tree.specs.Walks.{MayTurn, IsNextPath, AreBytes, IsReadFault, IsRoomFault}
use Rattle.cm_tree.proofs.Places.{take_push, put_back, get_append}
use Rattle.cm_tree.proofs.Rising.{rising_front, apart_push}

-- ---- faults of files

first_none : (a b : Option ScanFault) → first_of a b ≡ None → (a ≡ None) × (b ≡ None)
first_none None b h = (refl, h)
first_none (Some e) b h = absurd cc

-- files without a fault, and then others
pub fault_append : (most : ℕ) (before : List (List ℕ)) (xs ys : List File) → files_fault most before xs ≡ None → files_fault most before (xs ++ ys) ≡ files_fault most (before ++ file_paths xs) ys
fault_append most before [] ys clean = ap (λ (b : List (List ℕ)). files_fault most b ys) (sym (append-nil before))
fault_append most before (x ∷ xs) ys clean =
    let parts = first_none (file_fault most before x) (files_fault most (before ++ x.path ∷ []) xs) clean in
    ap (λ o. first_of o (files_fault most (before ++ x.path ∷ []) (xs ++ ys))) parts.0
    ∙ (fault_append most (before ++ x.path ∷ []) xs ys parts.1
    ∙ ap (λ (b : List (List ℕ)). files_fault most b ys) (append_assoc before (x.path ∷ []) (file_paths xs)))

two_none : (a b : Bool) (x y : ScanFault) → cond a (Some x) (cond b (Some y) None) ≡ None → (a ≡ false) × (b ≡ false)
two_none true b x y h = absurd cc
two_none false true x y h = absurd cc
two_none false false x y h = (refl, refl)

one_none : (a : Bool) (x : ScanFault) → cond a (Some x) None ≡ None → a ≡ false
one_none true x h = absurd cc
one_none false x h = refl

pub path_clean : (before : List (List ℕ)) (path : List ℕ) → path_fault before path ≡ None → (is_file_path path ≡ true) × (has_path (map folded_path before) (folded_path path) ≡ false)
path_clean before path h =
    let parts = two_none (not (is_file_path path)) (has_path (map folded_path before) (folded_path path)) (BadPath (length before)) (SamePath (length before)) h in
    (not-false _ parts.0, parts.1)

clean_each : (most : ℕ) (before : List (List ℕ)) (files : List File) → most < 2 ^ 32 → files_fault most before files ≡ None → AllByRecursion IsFile files
clean_each most before [] fits clean = tt
clean_each most before (x ∷ xs) fits clean =
    let parts = first_none (file_fault most before x) (files_fault most (before ++ x.path ∷ []) xs) clean in
    let own = first_none (path_fault before x.path) (length_fault most (length before) x.bytes) parts.0 in
    let path = path_clean before x.path own.0 in
    let few : length x.bytes ≤ most = ltb-false _ _ (one_none _ (FileTooLong (length before)) own.1) in
    (record { path = path.0; size = omega arith }, clean_each most (before ++ x.path ∷ []) xs fits parts.1)

clean_apart : (most : ℕ) (before : List (List ℕ)) (files : List File) → is_apart before ≡ true → files_fault most before files ≡ None → is_apart (before ++ file_paths files) ≡ true
clean_apart most before [] apart clean = ap is_apart (append-nil before) ∙ apart
clean_apart most before (x ∷ xs) apart clean =
    let parts = first_none (file_fault most before x) (files_fault most (before ++ x.path ∷ []) xs) clean in
    let own = first_none (path_fault before x.path) (length_fault most (length before) x.bytes) parts.0 in
    let path = path_clean before x.path own.0 in
    ap is_apart (sym (append_assoc before (x.path ∷ []) (file_paths xs))) ∙ clean_apart most (before ++ x.path ∷ []) xs (apart_push before x.path apart path.1) parts.1

-- ---- the walk

-- the first files were read, and have no fault
pub record Walked (most : ℕ) (first cur : Shown) (files : List File) : Type 0 where
  pub paths : cur.paths ≡ first.paths
  pub later : (k : ℕ) → cur.later k ≡ first.later k
  pub front : file_paths files ≡ take (length files) first.paths
  pub bytes : (k : ℕ) (file : File) → slice_get files k ≡ Some file → AreBytes (first.now k) file.bytes
  pub read : (k : ℕ) → k < length files → cur.now k ≡ first.later k
  pub unread : (k : ℕ) → length files ≤ k → cur.now k ≡ first.now k
  pub clean : files_fault most [] files ≡ None

pub walked_start : (most : ℕ) (first cur : Shown) → Stays first cur → Walked most first cur []
walked_start most first cur s = record {
  paths = s.paths;
  later = s.later;
  front = refl;
  bytes = λ k file at. absurd cc;
  read = λ k lt. absurd (omega arith);
  unread = λ k le. s.now k;
  clean = refl;
}

pub walked_stays : (most : ℕ) (first cur new : Shown) (files : List File) → Walked most first cur files → Stays cur new → Walked most first new files
walked_stays most first cur new files w s = record {
  paths = s.paths ∙ w.paths;
  later = λ k. s.later k ∙ w.later k;
  front = w.front;
  bytes = w.bytes;
  read = λ k lt. s.now k ∙ w.read k lt;
  unread = λ k le. s.now k ∙ w.unread k le;
  clean = w.clean;
}

pub length-push : {A : Type 0} (xs : List A) (x : A) → length (xs ++ x ∷ []) ≡ suc (length xs)
length-push [] x = refl
length-push (y ∷ xs) x = ap suc (length-push xs x)

pub file_paths-push : (files : List File) (file : File) → file_paths (files ++ file ∷ []) ≡ file_paths files ++ file.path ∷ []
file_paths-push files file = map-append (λ (f : File). f.path) files (file ∷ [])

pub walked_push : (most : ℕ) (first cur new : Shown) (files : List File) (file : File) (n : ℕ) → Walked most first cur files → n ≡ length files
    → slice_get first.paths n ≡ Some file.path → AreBytes (first.now n) file.bytes → Turns n true cur new → file_fault most (file_paths files) file ≡ None
    → Walked most first new (files ++ file ∷ [])
walked_push most first cur new files file n w is at told t good =
    let len = length-push files file in
    record {
      paths = t.paths ∙ w.paths;
      later = λ k. t.later k ∙ w.later k;
      front =
          file_paths-push files file
          ∙ (ap (λ (ps : List (List ℕ)). ps ++ file.path ∷ []) (w.front ∙ ap (λ k. take k first.paths) (sym is))
          ∙ (sym (take_push first.paths n file.path at)
          ∙ ap (λ k. take k first.paths) (ap suc is ∙ sym len)));
      bytes = λ k f get. elim (get_append files (file ∷ []) k f get) [
        | inl old ↦ w.bytes k f old
        | inr one ↦ only one.0 k f one.1 one.2
      ];
      read = λ k lt. elim (cases_eq k n) [
        | inl e ↦ subst (λ j. new.now j ≡ first.later j) (sym e) (t.now ∙ w.later n)
        | inr ne ↦ t.others k ne ∙ w.read k (omega arith)
      ];
      unread = λ k le. t.others k (λ e. omega arith) ∙ w.unread k (omega arith);
      clean = fault_append most [] files (file ∷ []) w.clean ∙ ap (λ o. first_of o None) good;
    }
  where
    only : (j k : ℕ) (f : File) → k ≡ length files + j → slice_get (file ∷ []) j ≡ Some f → AreBytes (first.now k) f.bytes
    only zero k f e get = let here : k ≡ n = omega arith in let same : file ≡ f = cc in
        subst (λ (g : File). AreBytes (first.now k) g.bytes) same (subst (λ j. AreBytes (first.now j) file.bytes) (sym here) told)
    only (suc j) k f e get = absurd cc

pub file_good : (most : ℕ) (before : List (List ℕ)) (file : File) → path_fault before file.path ≡ None → length file.bytes ≤ most → file_fault most before file ≡ None
file_good most before file path few =
    let short : ltb most (length file.bytes) ≡ false = le-ltb _ _ few in
    let none : length_fault most (length before) file.bytes ≡ None = rw short refl in
    ap (λ o. first_of o (length_fault most (length before) file.bytes)) path ∙ none

-- ---- when it has ended

whole_front : (paths : List (List ℕ)) (files : List File) → file_paths files ≡ take (length files) paths → length paths ≤ length files → file_paths files ≡ paths
whole_front paths files front le = front ∙ take_all (length files) paths le

pub walked_agrees : (most : ℕ) (first cur : Shown) (files : List File) → Walked most first cur files → length first.paths ≤ length files → Agrees first files
walked_agrees most first cur files w le = record { paths = whole_front first.paths files w.front le; bytes = w.bytes }

pub walked_read : (most : ℕ) (first cur : Shown) (files : List File) → Walked most first cur files → length first.paths ≤ length files → WasRead first cur
walked_read most first cur files w le = record { paths = w.paths; now = λ k lt. w.read k (omega arith); later = w.later }

pub length_paths : (files : List File) → length (file_paths files) ≡ length files
length_paths [] = refl
length_paths (x ∷ xs) = ap suc (length_paths xs)

pub agrees_length : (shown : Shown) (files : List File) → Agrees shown files → length files ≡ length shown.paths
agrees_length shown files a = sym (length_paths files) ∙ ap (λ (ps : List (List ℕ)). length ps) a.paths

few_first : (most_files most : ℕ) (files : List File) → length files ≤ most_files → first_fault most_files most files ≡ files_fault most [] files
few_first most_files most files le = let b : ltb most_files (length files) ≡ false = le-ltb _ _ le in rw b refl

pub walked_clean : (most_files most : ℕ) (first cur : Shown) (files : List File) → Walked most first cur files → length first.paths ≤ length files → length first.paths ≤ most_files
    → first_fault most_files most files ≡ None
walked_clean most_files most first cur files w le few =
    let len = agrees_length first files (walked_agrees most first cur files w le) in
    few_first most_files most files (omega arith) ∙ w.clean

pub walked_tree : (most : ℕ) (first cur : Shown) (files : List File) → Walked most first cur files → is_rising first.paths ≡ true → length files ≤ 20000 → most < 2 ^ 32 → IsTree files
walked_tree most first cur files w up few fits = record {
  few = few;
  each = clean_each most [] files fits w.clean;
  rising = ap is_rising w.front ∙ rising_front (take (length files) first.paths) (drop (length files) first.paths) (ap is_rising (take-append-drop (length files) first.paths) ∙ up);
  apart = clean_apart most [] files refl w.clean;
}

-- ---- when it has failed

-- files with these paths that agree with what is told
filled : List (List ℕ) → (ℕ → Option (List ℕ)) → List File
filled [] now = []
filled (path ∷ paths) now = record { path = path; bytes = unwrap_or (now 0) [] } ∷ filled paths (λ k. now (suc k))

filled_paths : (paths : List (List ℕ)) (now : ℕ → Option (List ℕ)) → file_paths (filled paths now) ≡ paths
unfolding filled
filled_paths [] now = refl
filled_paths (path ∷ paths) now = ap (λ (ps : List (List ℕ)). path ∷ ps) (filled_paths paths (λ k. now (suc k)))

are_bytes : (told : Option (List ℕ)) → AreBytes told (unwrap_or told [])
are_bytes None = λ all is. absurd cc
are_bytes (Some bytes) = λ all is. cc

abbrev record_of : List ℕ → List ℕ → File
record_of path bytes = record { path = path; bytes = bytes }

filled_bytes : (paths : List (List ℕ)) (now : ℕ → Option (List ℕ)) (k : ℕ) (file : File) → slice_get (filled paths now) k ≡ Some file → AreBytes (now k) file.bytes
unfolding filled
filled_bytes [] now k file at = absurd cc
filled_bytes (path ∷ paths) now zero file at = let same : record_of path (unwrap_or (now 0) []) ≡ file = cc in subst (λ (f : File). AreBytes (now 0) f.bytes) same (are_bytes (now 0))
filled_bytes (path ∷ paths) now (suc k) file at = filled_bytes paths (λ j. now (suc j)) k file at

-- a fault of the next file is the first fault of some files
fault_at : (most_files most : ℕ) (first cur : Shown) (files : List File) (file : File) (n : ℕ) (e : ScanFault) → Walked most first cur files → n ≡ length files → length first.paths ≤ most_files
    → slice_get first.paths n ≡ Some file.path → AreBytes (first.now n) file.bytes → file_fault most (file_paths files) file ≡ Some e
    → (all : List File) × Agrees first all × (first_fault most_files most all ≡ Some e)
fault_at most_files most first cur files file n e w is few at told bad =
    let now : ℕ → Option (List ℕ) = λ k. first.now (suc n + k) in
    let rest = filled (drop (suc n) first.paths) now in
    let all = files ++ file ∷ rest in
    let agrees : Agrees first all = record {
      paths =
          map-append (λ (f : File). f.path) files (file ∷ rest)
          ∙ (ap (λ (ps : List (List ℕ)). ps ++ file.path ∷ file_paths rest) (w.front ∙ ap (λ k. take k first.paths) (sym is))
          ∙ (ap (λ (ps : List (List ℕ)). take n first.paths ++ file.path ∷ ps) (filled_paths (drop (suc n) first.paths) now)
          ∙ put_back first.paths n file.path at));
      bytes = λ k f get. elim (get_append files (file ∷ rest) k f get) [
        | inl old ↦ w.bytes k f old
        | inr one ↦ others now rest (filled_bytes (drop (suc n) first.paths) now) one.0 k f one.1 one.2
      ];
    } in
    let len = agrees_length first all agrees in
    (all, agrees, few_first most_files most all (omega arith) ∙ (fault_append most [] files (file ∷ rest) w.clean ∙ ap (λ o. first_of o (files_fault most (file_paths files ++ file.path ∷ []) rest)) bad))
  where
    others : (now : ℕ → Option (List ℕ)) (rest : List File) → ((k : ℕ) (f : File) → slice_get rest k ≡ Some f → AreBytes (first.now (suc n + k)) f.bytes)
        → (j k : ℕ) (f : File) → k ≡ length files + j → slice_get (file ∷ rest) j ≡ Some f → AreBytes (first.now k) f.bytes
    others now rest each zero k f e get = let here : k ≡ n = omega arith in let same : file ≡ f = cc in
        subst (λ (g : File). AreBytes (first.now k) g.bytes) same (subst (λ j. AreBytes (first.now j) file.bytes) (sym here) told)
    others now rest each (suc j) k f e get = let here : k ≡ suc n + j = omega arith in subst (λ i. AreBytes (first.now i) f.bytes) (sym here) (each j f get)

pub room_has : (most_files most : ℕ) (first : Shown) (e : ScanFault) → IsRoomFault most_files (length first.paths) e → HasFault most_files most first e
room_has most_files most first Folder h = tt
room_has most_files most first TooManyFiles h =
    let all = filled first.paths first.now in
    let agrees : Agrees first all = record { paths = filled_paths first.paths first.now; bytes = filled_bytes first.paths first.now } in
    let len = agrees_length first all agrees in
    let many : ltb most_files (length all) ≡ true = lt-ltb _ _ (omega arith) in
    (all, agrees, rw many refl)
room_has most_files most first (BadPath k) h = absurd h
room_has most_files most first (SamePath k) h = absurd h
room_has most_files most first (FileTooLong k) h = absurd h
room_has most_files most first Memory h = tt

pub path_has : (most_files most : ℕ) (first cur : Shown) (files : List File) (taken : Taken) (n : ℕ) (e : ScanFault) → Walked most first cur files → n ≡ length files → length first.paths ≤ most_files
    → HasTaken taken (file_paths files) → IsNextPath cur taken n (Err e) → HasFault most_files most first e
path_has most_files most first cur files taken n Folder w is few has h = tt
path_has most_files most first cur files taken n TooManyFiles w is few has h = absurd h
path_has most_files most first cur files taken n (BadPath k) w is few has h =
    let bad = h.2.is (file_paths files) has (length_paths files ∙ sym is) in
    fault_at most_files most first cur files (record_of h.0 (unwrap_or (first.now n) [])) n (BadPath k) w is few (ap (λ (ps : List (List ℕ)). slice_get ps n) (sym w.paths) ∙ h.1) (are_bytes (first.now n))
    (ap (λ o. first_of o (length_fault most (length (file_paths files)) (unwrap_or (first.now n) []))) bad)
path_has most_files most first cur files taken n (SamePath k) w is few has h =
    let bad = h.2.is (file_paths files) has (length_paths files ∙ sym is) in
    fault_at most_files most first cur files (record_of h.0 (unwrap_or (first.now n) [])) n (SamePath k) w is few (ap (λ (ps : List (List ℕ)). slice_get ps n) (sym w.paths) ∙ h.1) (are_bytes (first.now n))
    (ap (λ o. first_of o (length_fault most (length (file_paths files)) (unwrap_or (first.now n) []))) bad)
path_has most_files most first cur files taken n (FileTooLong k) w is few has h = absurd h
path_has most_files most first cur files taken n Memory w is few has h = tt

pub read_has : (most_files most : ℕ) (first cur : Shown) (files : List File) (path : List ℕ) (n : ℕ) (e : ScanFault) → Walked most first cur files → n ≡ length files → length first.paths ≤ most_files
    → slice_get cur.paths n ≡ Some path → path_fault (file_paths files) path ≡ None → IsReadFault most n (cur.now n) e → HasFault most_files most first e
read_has most_files most first cur files path n Folder w is few at good h = tt
read_has most_files most first cur files path n TooManyFiles w is few at good h = absurd h
read_has most_files most first cur files path n (BadPath k) w is few at good h = absurd h
read_has most_files most first cur files path n (SamePath k) w is few at good h = absurd h
read_has most_files most first cur files path n (FileTooLong k) w is few at good h =
    let told = subst (λ o. AreBytes o h.1) (w.unread n (omega arith)) h.3 in
    let long : ltb most (length h.1) ≡ true = lt-ltb _ _ h.2 in
    let bad : length_fault most (length (file_paths files)) h.1 ≡ Some (FileTooLong (length (file_paths files))) = rw long refl in
    let number : length (file_paths files) ≡ k = length_paths files ∙ (sym is ∙ sym h.0) in
    fault_at most_files most first cur files (record_of path h.1) n (FileTooLong k) w is few (ap (λ (ps : List (List ℕ)). slice_get ps n) (sym w.paths) ∙ at) told
    (ap (λ o. first_of o (length_fault most (length (file_paths files)) h.1)) good ∙ (bad ∙ ap (λ j. Some (FileTooLong j)) number))
read_has most_files most first cur files path n Memory w is few at good h = tt

-- ---- what may have been read

pub may_stay : (first cur : Shown) → Stays first cur → MayBeRead first cur
may_stay first cur s = record { paths = s.paths; now = λ k. inl (s.now k); later = s.later }

pub may_walk : (most : ℕ) (first cur : Shown) (files : List File) → Walked most first cur files → MayBeRead first cur
may_walk most first cur files w = record {
  paths = w.paths;
  now = λ k. elim (cases_lt k (length files)) [ inl lt ↦ inr (w.read k lt) | inr le ↦ inl (w.unread k le) ];
  later = w.later;
}

pub may_turn : (first cur new : Shown) (n : ℕ) → MayBeRead first cur → MayTurn n cur new → MayBeRead first new
may_turn first cur new n m t = record {
  paths = t.paths ∙ m.paths;
  now = λ k. elim (cases_eq k n) [
    | inl e ↦ subst (λ j. (new.now j ≡ first.now j) ⊎ (new.now j ≡ first.later j)) (sym e) (here t.now (m.now n))
    | inr ne ↦ there k (t.others k ne) (m.now k)
  ];
  later = λ k. t.later k ∙ m.later k;
}
  where
    here : (new.now n ≡ cur.now n) ⊎ (new.now n ≡ cur.later n) → (cur.now n ≡ first.now n) ⊎ (cur.now n ≡ first.later n) → (new.now n ≡ first.now n) ⊎ (new.now n ≡ first.later n)
    here (inl a) (inl b) = inl (a ∙ b)
    here (inl a) (inr b) = inr (a ∙ b)
    here (inr a) b = inr (a ∙ m.later n)

    there : (k : ℕ) → new.now k ≡ cur.now k → (cur.now k ≡ first.now k) ⊎ (cur.now k ≡ first.later k) → (new.now k ≡ first.now k) ⊎ (new.now k ≡ first.later k)
    there k a (inl b) = inl (a ∙ b)
    there k a (inr b) = inr (a ∙ b)

pub turned : (n : ℕ) (old new : Shown) → Turns n true old new → MayTurn n old new
turned n old new t = record { paths = t.paths; now = inr t.now; others = t.others; later = t.later }

pub any_err : {T E P : Type 0} (r : Result T E) → P → OnErr r P
any_err (Ok x) p = tt
any_err (Err e) p = p
