-- What a folder shows after a call.
use Rattle.std.proofs.Common.{◌≡◌, ℕ, zero, suc, ◌∷◌, ◌<◌, Bool, true, false, ◌&&◌, List, [], length, take, Option, Some, option_map, Ok, Err, refl, sym, ap, ◌∙◌, subst, arith, inl, inr}
use Rattle.std.specs.Result.{IsErrOf}
use Rattle.std.specs.List.{slice_get}
use Rattle.std.proofs.lemmas.Bool.{cases_eq, cases_lt, ne_eqb, lt-leb, and_left}
use Rattle.std.proofs.lemmas.List.{take_all, length-take-le}
use Rattle.cm_tree.specs.declared.scan_fault.ScanFault.{ScanFault}
use Rattle.cm_tree.specs.declared.scan_fault.ScanFault.TheVariants.{Folder, TooManyFiles, BadPath, SamePath, FileTooLong, Memory}
use Rattle.cm_tree.specs.declared.taken.Taken.{Taken}
use Rattle.cm_tree.specs.Paths.{is_file_path}
use Rattle.cm_tree.specs.Folders.{Shown, Stays, Turns, is_end, raw_path}
use Rattle.cm_tree.specs.Scans.{path_fault}
use Rattle.cm_tree.specs.Walks.{JoinsTaken, IsPathFault, IsNextPath}

-- a reading that gave some bytes changes nothing
pub turn_stays : (n : ℕ) (old new : Shown) → Turns n false old new → Stays old new
turn_stays n old new t = record {
  paths = t.paths;
  now = λ k. elim (cases_eq k n) [ inl e ↦ subst (λ j. new.now j ≡ old.now j) (sym e) t.now | inr ne ↦ t.others k ne ];
  later = t.later;
}

pub some_stays : (n count room : ℕ) (old new : Shown) → 0 < count → Turns n (is_end (Ok count) room) old new → Stays old new
some_stays n count room old new some t =
    let no : is_end (Ok count) room ≡ false = and_left _ _ (ne_eqb count 0 (λ e. omega arith)) in
    turn_stays n old new (subst (λ b. Turns n b old new) no t)

pub stays_self : (a : Shown) → Stays a a
stays_self a = record { paths = refl; now = λ k. refl; later = λ k. refl }

pub stays_then : (a b c : Shown) → Stays a b → Stays b c → Stays a c
stays_then a b c p q = record {
  paths = q.paths ∙ p.paths;
  now = λ k. q.now k ∙ p.now k;
  later = λ k. q.later k ∙ p.later k;
}

-- ---- the front of a path

no_path : (a b c d : Bool) → b ≡ false → (a && b && c && d) ≡ false
no_path true b c d h = let e : (b && c && d) ≡ false = and_left (b && c) d (and_left b c h) in e
no_path false b c d h = refl

long_no : (p : List ℕ) → 240 < length p → is_file_path p ≡ false
long_no p long = no_path _ _ _ _ (lt-leb (length p) 240 long)

-- the front of a path is a path only if it is the whole
pub raw_whole : (p : List ℕ) → is_file_path (take 241 p) ≡ true → take 241 p ≡ p
raw_whole p is =
    elim (cases_lt 240 (length p)) [
      | inl long ↦ absurd (clash (is_file_path (take 241 p)) is (long_no (take 241 p) (front_long p long)))
      | inr few ↦ take_all 241 p (omega arith)
    ]
  where
    clash : (b : Bool) → b ≡ true → b ≡ false → ⊥
    clash true e h = cc
    clash false e h = cc

    front_long : (p : List ℕ) → 240 < length p → 240 < length (take 241 p)
    front_long p long = omega (arith, length-take-le 241 p (omega arith))

-- a path and its front have one fault
pub raw_fault : (before : List (List ℕ)) (p : List ℕ) → path_fault before (take 241 p) ≡ path_fault before p
raw_fault before p =
    elim (cases_lt 240 (length p)) [
      | inl long ↦ bad (take 241 p) (long_no (take 241 p) (front_long p long)) ∙ sym (bad p (long_no p long))
      | inr few ↦ ap (λ (x : List ℕ). path_fault before x) (take_all 241 p (omega arith))
    ]
  where
    front_long : (p : List ℕ) → 240 < length p → 240 < length (take 241 p)
    front_long p long = omega (arith, length-take-le 241 p (omega arith))

    bad : (x : List ℕ) → is_file_path x ≡ false → path_fault before x ≡ Some (BadPath (length before))
    bad x off = rw off refl

-- the path that a folder gave the front of
pub raw_is : (paths : List (List ℕ)) (n : ℕ) (raw : List ℕ) → Some raw ≡ option_map (λ (path : List ℕ). take 241 path) (slice_get paths n) → (p : List ℕ) × (slice_get paths n ≡ Some p) × (take 241 p ≡ raw)
raw_is [] n raw h = absurd cc
raw_is (p ∷ paths) zero raw h = (p, refl, cc)
raw_is (p ∷ paths) (suc n) raw h = raw_is paths n raw h

-- it joins those taken
pub front_joins : (shown : Shown) (taken : Taken) (n : ℕ) (raw text path : List ℕ) → Some raw ≡ raw_path shown n → text ≡ raw → (path ≡ text) × (is_file_path text ≡ true)
    → JoinsTaken taken n text (Ok path) → IsNextPath shown taken n (Ok (Some path))
front_joins shown taken n raw text path gave same form joins =
    let whole = raw_is shown.paths n raw gave in
    let front : take 241 whole.0 ≡ text = whole.2 ∙ sym same in
    let all : take 241 whole.0 ≡ whole.0 = raw_whole whole.0 (ap is_file_path front ∙ form.1) in
    let is : whole.0 ≡ path = sym all ∙ (front ∙ sym form.0) in
    (whole.1 ∙ ap (λ (x : List ℕ). Some x) is, subst (λ (x : List ℕ). JoinsTaken taken n x (Ok path)) (sym form.0) joins)

-- it has a fault
pub front_fails : (shown : Shown) (taken : Taken) (n : ℕ) (raw text : List ℕ) (e : ScanFault) → Some raw ≡ raw_path shown n → text ≡ raw → IsPathFault e
    → JoinsTaken taken n text (Err e) → IsNextPath shown taken n (Err e)
front_fails shown taken n raw text Folder gave same kind joins = tt
front_fails shown taken n raw text TooManyFiles gave same kind joins = kind
front_fails shown taken n raw text (BadPath k) gave same kind joins =
    let whole = raw_is shown.paths n raw gave in
    let front : take 241 whole.0 ≡ text = whole.2 ∙ sym same in
    (whole.0, whole.1, record { is = λ before has len. sym (raw_fault before whole.0) ∙ (ap (λ (x : List ℕ). path_fault before x) front ∙ joins.is before has len) })
front_fails shown taken n raw text (SamePath k) gave same kind joins =
    let whole = raw_is shown.paths n raw gave in
    let front : take 241 whole.0 ≡ text = whole.2 ∙ sym same in
    (whole.0, whole.1, record { is = λ before has len. sym (raw_fault before whole.0) ∙ (ap (λ (x : List ℕ). path_fault before x) front ∙ joins.is before has len) })
front_fails shown taken n raw text (FileTooLong k) gave same kind joins = kind
front_fails shown taken n raw text Memory gave same kind joins = tt

pub no_folder_fault : (e : ScanFault) → IsPathFault e → IsErrOf {T = Option (List ℕ)} (Err e) Folder → ⊥
no_folder_fault Folder kind is = kind
no_folder_fault TooManyFiles kind is = kind
no_folder_fault (BadPath k) kind is = cc
no_folder_fault (SamePath k) kind is = cc
no_folder_fault (FileTooLong k) kind is = kind
no_folder_fault Memory kind is = cc
