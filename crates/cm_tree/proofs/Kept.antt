-- Files in memory in the order of their paths.
use Rattle.std.proofs.Common.{◌≡◌, ℕ, zero, suc, ◌+◌, ◌-◌, ◌<◌, ◌≤◌, Bool, true, false, ◌||◌, cond, List, [], ◌∷◌, ◌++◌, length, take, drop, map, Option, None, Some, option_map, refl, sym, ap, ◌∙◌, subst, arith, inl, inr}
use Rattle.std.specs.Prelude.{insert, is_some, Vec}
use Rattle.std.specs.declared.alloc.Global.{Global}
use Rattle.std.specs.Option.{option_or}
use Rattle.std.specs.List.{slice_get, list_any, find, AllByRecursion}
use Rattle.std.specs.Str.{bytes_eq}
use Rattle.std.specs.Ordering.{nat_cmp, is_lt, is_eq, ordering_reverse}
use Rattle.std.specs.declared.cmp.Ordering.{Ordering}
use Rattle.std.specs.declared.cmp.Ordering.TheVariants.{Less, Equal, Greater}
use Rattle.std.specs.Cmp.Lexicographic.{slice_cmp, bytes_decides}
use Rattle.std.proofs.lemmas.Cmp.{nat_list_cmp_total}
use Rattle.std.proofs.lemmas.Bool.{and_parts, and_from, or_parts, cases_eq}
use Rattle.std.proofs.lemmas.List.{take-append-drop}
use Rattle.std.proofs.lemmas.Option.{slice_get-map}
use Rattle.std.proofs.Math.ListN.{set, get_or}
use Rattle.std.proofs.lemmas.List.Folds.{list_any-append, find-append}
use Rattle.std.proofs.lemmas.Map.Text.{is_eq-slice_cmp}
use Rattle.cm_tree.specs.declared.mem_file.MemFile.{MemFile}
use Rattle.cm_tree.specs.Paths.{is_before, is_rising}
use Rattle.cm_tree.specs.Folders.{Turns}
use Rattle.cm_tree.specs.Reading.{is_behind}
use Rattle.cm_tree.specs.MemFolders.{Pair, bytes_named, is_listed_in, or_else, kept_path, kept_now, later_or, kept_later, kept_paths, is_kept_path, kept_shown, IsMadeOf}
use Rattle.cm_tree.specs.MemPlaces.{IsPlaceOf, IsJoinedBy}
use Rattle.cm_tree.proofs.Folding.{same_back}
use Rattle.cm_tree.proofs.Places.{get_below, take_push}
use Rattle.cm_tree.proofs.Rising.{rising_push, rising_front}

-- ---- lists

pub get_map : {A B : Type 0} (f : A → B) (xs : List A) (n : ℕ) (y : B) → slice_get (map f xs) n ≡ Some y → (x : A) × (slice_get xs n ≡ Some x) × (f x ≡ y)
get_map f [] n y h = absurd cc
get_map f (x ∷ xs) zero y h = (x, refl, cc)
get_map f (x ∷ xs) (suc n) y h = get_map f xs n y h

pub any_none : {A : Type 0} (t : A → Bool) (xs : List A) (n : ℕ) (x : A) → list_any t xs ≡ false → slice_get xs n ≡ Some x → t x ≡ false
any_none t [] n x none h = absurd cc
any_none {A} t (y ∷ xs) zero x none h = let e : y ≡ x = cc in ap t (sym e) ∙ (or_parts (t y) (list_any t xs) none).0
any_none t (y ∷ xs) (suc n) x none h = any_none t xs n x (or_parts (t y) (list_any t xs) none).1 h

any_map : (files : List MemFile) (path : List ℕ) → is_listed_in (kept_paths files) path ≡ is_kept_path files path
any_map [] path = refl
any_map (f ∷ files) path = ap (λ b. bytes_eq path f.path.items || b) (any_map files path)

swapped : (a x b : Bool) → (a || (x || b)) ≡ (x || (a || b))
swapped true true b = refl
swapped true false b = refl
swapped false x b = refl

pub any_insert : {A : Type 0} (t : A → Bool) (xs : List A) (at : ℕ) (x : A) → list_any t (insert xs at x) ≡ (t x || list_any t xs)
any_insert {A} t xs at x =
    list_any-append t (take at xs) (x ∷ drop at xs)
    ∙ (swapped (list_any t (take at xs)) (t x) (list_any t (drop at xs))
    ∙ ap (λ b. t x || b) (sym (list_any-append t (take at xs) (drop at xs)) ∙ ap (λ (ys : List A). list_any t ys) (take-append-drop at xs)))

pub each_weaker : {A : Type 0} (P Q : A → Type 0) (xs : List A) → ((x : A) → P x → Q x) → AllByRecursion P xs → AllByRecursion Q xs
each_weaker P Q [] f all = tt
each_weaker P Q (x ∷ xs) f all = (f x all.0, each_weaker P Q xs f all.1)

pub each_at : {A : Type 0} (P : A → Type 0) (xs : List A) (n : ℕ) (x : A) → AllByRecursion P xs → slice_get xs n ≡ Some x → P x
each_at P [] n x all h = absurd cc
each_at {A} P (y ∷ xs) zero x all h = let e : y ≡ x = cc in subst (λ (z : A). P z) e all.0
each_at P (y ∷ xs) (suc n) x all h = each_at P xs n x all.1 h

each_put : {A : Type 0} (P : A → Type 0) (xs ys : List A) (x : A) → AllByRecursion P (xs ++ ys) → P x → AllByRecursion P (xs ++ x ∷ ys)
each_put P [] ys x all h = (h, all)
each_put P (y ∷ xs) ys x all h = (all.0, each_put P xs ys x all.1 h)

each_insert : {A : Type 0} (P : A → Type 0) (xs : List A) (at : ℕ) (x : A) → AllByRecursion P xs → P x → AllByRecursion P (insert xs at x)
each_insert {A} P xs at x all h = each_put P (take at xs) (drop at xs) x (subst (λ (ys : List A). AllByRecursion P ys) (sym (take-append-drop at xs)) all) h

-- ---- a path at its place

pub is_behind-push : (paths : List (List ℕ)) (last path : List ℕ) → is_behind (paths ++ last ∷ []) path ≡ is_before last path
is_behind-push [] last path = refl
is_behind-push (a ∷ []) last path = refl
is_behind-push (a ∷ b ∷ rest) last path = is_behind-push (b ∷ rest) last path

pub behind_at : (paths : List (List ℕ)) (n : ℕ) (last path : List ℕ) → slice_get paths n ≡ Some last → is_before last path ≡ true → is_behind (take (suc n) paths) path ≡ true
behind_at paths n last path at before = ap (λ (ps : List (List ℕ)). is_behind ps path) (take_push paths n last at) ∙ (is_behind-push (take n paths) last path ∙ before)

turned_round : (c : Ordering) → is_lt c ≡ false → is_eq c ≡ false → is_lt (ordering_reverse c) ≡ true
turned_round Less lt eq = absurd cc
turned_round Equal lt eq = absurd cc
turned_round Greater lt eq = refl

before_other : (path other : List ℕ) → is_before other path ≡ false → bytes_eq path other ≡ false → is_before path other ≡ true
before_other path other not_before unlike =
    ap is_lt (nat_list_cmp_total.antisymm path other)
    ∙ turned_round (slice_cmp nat_cmp other path) not_before (same_back other path ∙ (is_eq-slice_cmp path other ∙ unlike))

rising_join : (a : List (List ℕ)) (path : List ℕ) (b : List (List ℕ)) → is_rising (a ++ path ∷ []) ≡ true → is_rising (path ∷ b) ≡ true → is_rising (a ++ path ∷ b) ≡ true
rising_join [] path b up down = down
rising_join (x ∷ []) path b up down = and_from (is_before x path) (is_rising (path ∷ b)) (and_parts (is_before x path) true up).0 down
rising_join (x ∷ y ∷ a) path b up down =
    let parts = and_parts (is_before x y) (is_rising ((y ∷ a) ++ path ∷ [])) up in
    and_from (is_before x y) (is_rising ((y ∷ a) ++ path ∷ b)) parts.0 (rising_join (y ∷ a) path b parts.1 down)

rising_back : (a b : List (List ℕ)) → is_rising (a ++ b) ≡ true → is_rising b ≡ true
rising_back [] b up = up
rising_back (x ∷ []) [] up = refl
rising_back (x ∷ []) (y ∷ b) up = (and_parts (is_before x y) (is_rising (y ∷ b)) up).1
rising_back (x ∷ y ∷ a) b up = rising_back (y ∷ a) b (and_parts (is_before x y) (is_rising ((y ∷ a) ++ b)) up).1

rising_head : (path : List ℕ) (b : List (List ℕ)) → is_rising b ≡ true → ((other : List ℕ) → slice_get b 0 ≡ Some other → is_before path other ≡ true) → is_rising (path ∷ b) ≡ true
rising_head path [] up next = refl
rising_head path (o ∷ b) up next = and_from (is_before path o) (is_rising (o ∷ b)) (next o refl) up

get_drop : {A : Type 0} (xs : List A) (at : ℕ) → slice_get (drop at xs) 0 ≡ slice_get xs at
get_drop [] zero = refl
get_drop [] (suc at) = refl
get_drop (x ∷ xs) zero = refl
get_drop (x ∷ xs) (suc at) = get_drop xs at

map_insert : (files : List MemFile) (at : ℕ) (file : MemFile) → kept_paths (insert files at file) ≡ take at (kept_paths files) ++ file.path.items ∷ drop at (kept_paths files)
map_insert [] zero file = refl
map_insert [] (suc at) file = refl
map_insert (f ∷ files) zero file = refl
map_insert (f ∷ files) (suc at) file = ap (λ (ps : List (List ℕ)). f.path.items ∷ ps) (map_insert files at file)

-- the paths rise with a file at its place
pub put_rising : (files : List MemFile) (at : ℕ) (file : MemFile) → is_rising (kept_paths files) ≡ true → is_kept_path files file.path.items ≡ false → IsPlaceOf files file.path.items at
    → is_rising (kept_paths (insert files at file)) ≡ true
put_rising files at file up fresh place =
    let paths = kept_paths files in
    let path = file.path.items in
    let whole : is_rising (take at paths ++ drop at paths) ≡ true = ap is_rising (take-append-drop at paths) ∙ up in
    let front = rising_push (take at paths) path (rising_front (take at paths) (drop at paths) whole) place.behind in
    let back = rising_head path (drop at paths) (rising_back (take at paths) (drop at paths) whole)
    (λ other h. before_other path other (place.next other (sym (get_drop paths at) ∙ h))
    (any_none (λ o. bytes_eq path o) paths at other (any_map files path ∙ fresh) (sym (get_drop paths at) ∙ h))) in
    ap is_rising (map_insert files at file) ∙ rising_join (take at paths) path (drop at paths) front back

-- ---- files that are handed in

-- a kept file is that of the first pair of its path
pub record IsOf (pairs later : List Pair) (file : MemFile) : Type 0 where
  pub now_is : bytes_named pairs file.path.items ≡ Some file.bytes.items
  pub later_is : option_map (λ bytes. bytes.items) file.later ≡ bytes_named later file.path.items

pub record AreOf (pairs later : List Pair) (files : List MemFile) : Type 0 where
  pub each : AllByRecursion (IsOf pairs later) files
  pub all : (path : List ℕ) → is_kept_path files path ≡ is_some (bytes_named pairs path)

abbrev one_named : Pair → List ℕ → Option (List ℕ)
one_named pair path = cond (bytes_eq path pair.0.items) (Some pair.1.items) None

find_one : (pair : Pair) (path : List ℕ) → option_map (λ (p : Pair). p.1.items) (find (λ (p : Pair). bytes_eq path p.0.items) (pair ∷ [])) ≡ one_named pair path
find_one pair path = by (bytes_eq path pair.0.items)
  where
    by : (b : Bool) → option_map (λ (p : Pair). p.1.items) (cond b (Some pair) None) ≡ cond b (Some pair.1.items) None
    by true = refl
    by false = refl

or_map : (a b : Option Pair) → option_map (λ (p : Pair). p.1.items) (option_or a b) ≡ or_else (option_map (λ (p : Pair). p.1.items) a) (option_map (λ (p : Pair). p.1.items) b)
or_map None b = refl
or_map (Some p) b = refl

named_push : (pairs : List Pair) (pair : Pair) (path : List ℕ) → bytes_named (pairs ++ pair ∷ []) path ≡ or_else (bytes_named pairs path) (one_named pair path)
named_push pairs pair path =
    ap (λ (o : Option Pair). option_map (λ (p : Pair). p.1.items) o) (find-append (λ (p : Pair). bytes_eq path p.0.items) pairs (pair ∷ []))
    ∙ (or_map (find (λ (p : Pair). bytes_eq path p.0.items) pairs) (find (λ (p : Pair). bytes_eq path p.0.items) (pair ∷ []))
    ∙ ap (λ (o : Option (List ℕ)). or_else (bytes_named pairs path) o) (find_one pair path))

named_stays : (pairs : List Pair) (pair : Pair) (path bytes : List ℕ) → bytes_named pairs path ≡ Some bytes → bytes_named (pairs ++ pair ∷ []) path ≡ Some bytes
named_stays pairs pair path bytes h = named_push pairs pair path ∙ ap (λ (o : Option (List ℕ)). or_else o (one_named pair path)) h

some_or : (o : Option (List ℕ)) (b : Bool) (x : List ℕ) → is_some (or_else o (cond b (Some x) None)) ≡ (b || is_some o)
some_or None true x = refl
some_or None false x = refl
some_or (Some y) true x = refl
some_or (Some y) false x = refl

no_some : (o : Option (List ℕ)) → is_some o ≡ false → o ≡ None
no_some None h = refl
no_some (Some x) h = absurd cc

pub none_of : (later : List Pair) → AreOf [] later []
none_of later = record { each = tt; all = λ path. refl }

pub joined_of : (pairs later : List Pair) (pair : Pair) (old new : List MemFile) → AreOf pairs later old → IsJoinedBy later pair old new → AreOf (pairs ++ pair ∷ []) later new
joined_of pairs later pair old new are (inl there) =
    subst (λ (files : List MemFile). AreOf (pairs ++ pair ∷ []) later files) (sym there.1) (record {
      each = each_weaker (IsOf pairs later) (IsOf (pairs ++ pair ∷ []) later) old (λ f h. record { now_is = named_stays pairs pair f.path.items f.bytes.items h.now_is; later_is = h.later_is }) are.each;
      all = λ path. sym (ap (λ (o : Option (List ℕ)). is_some o) (named_push pairs pair path) ∙ (some_or (bytes_named pairs path) (bytes_eq path pair.0.items) pair.1.items ∙ (ap (λ b. bytes_eq path pair.0.items || b) (sym (are.all path)) ∙ here path (bytes_eq path pair.0.items) refl)));
    })
  where
    here : (path : List ℕ) (b : Bool) → bytes_eq path pair.0.items ≡ b → (b || is_kept_path old path) ≡ is_kept_path old path
    here path true e = sym (ap (λ (p : List ℕ). is_kept_path old p) ((bytes_decides path pair.0.items).0 e) ∙ there.0)
    here path false e = refl
joined_of pairs later pair old new are (inr fresh) =
    let file = fresh.1.0 in
    let of = fresh.1.1 in
    let put = fresh.1.2 in
    let path = pair.0.items in
    let absent : bytes_named pairs path ≡ None = no_some (bytes_named pairs path) (sym (are.all path) ∙ fresh.0) in
    let itself : bytes_eq path path ≡ true = (bytes_decides path path).1 refl in
    let own : bytes_named (pairs ++ pair ∷ []) path ≡ Some pair.1.items =
    named_push pairs pair path ∙ (ap (λ (o : Option (List ℕ)). or_else o (one_named pair path)) absent ∙ ap (λ b. cond b (Some pair.1.items) None) itself) in
    subst (λ (files : List MemFile). AreOf (pairs ++ pair ∷ []) later files) (sym put.items) (record {
      each = each_insert (IsOf (pairs ++ pair ∷ []) later) old put.at file
          (each_weaker (IsOf pairs later) (IsOf (pairs ++ pair ∷ []) later) old (λ f h. record { now_is = named_stays pairs pair f.path.items f.bytes.items h.now_is; later_is = h.later_is }) are.each)
          (record {
            now_is = ap (λ (p : List ℕ). bytes_named (pairs ++ pair ∷ []) p) of.path ∙ (own ∙ ap (λ (x : List ℕ). Some x) (sym of.bytes));
            later_is = of.later_is ∙ ap (λ (p : List ℕ). bytes_named later p) (sym of.path);
          });
      all = λ q. any_insert (λ (f : MemFile). bytes_eq q f.path.items) old put.at file
          ∙ (ap (λ (p : List ℕ). bytes_eq q p || is_kept_path old q) of.path
          ∙ (ap (λ b. bytes_eq q path || b) (are.all q)
          ∙ (sym (some_or (bytes_named pairs q) (bytes_eq q path) pair.1.items)
          ∙ ap (λ (o : Option (List ℕ)). is_some o) (sym (named_push pairs pair q)))));
    })

later_is_or : (o : Option (Vec ℕ Global)) (now : List ℕ) → Some (later_or o now) ≡ or_else (option_map (λ bytes. bytes.items) o) (Some now)
later_is_or None now = refl
later_is_or (Some later) now = refl

pub made_of : (pairs later : List Pair) (files : List MemFile) → AreOf pairs later files → IsMadeOf pairs later (kept_shown files)
made_of pairs later files are = record {
  all = λ path. any_map files path ∙ are.all path;
  now_is = λ n path at. let f = get_map kept_path files n path at in let of = each_at (IsOf pairs later) files n f.0 are.each f.1 in
      ap (λ (o : Option MemFile). option_map kept_now o) f.1 ∙ (sym of.now_is ∙ ap (λ (p : List ℕ). bytes_named pairs p) f.2);
  later_is = λ n path at. let f = get_map kept_path files n path at in let of = each_at (IsOf pairs later) files n f.0 are.each f.1 in
      ap (λ (o : Option MemFile). option_map kept_later o) f.1
      ∙ (later_is_or f.0.later f.0.bytes.items
      ∙ (ap (λ (o : Option (List ℕ)). or_else o (Some f.0.bytes.items)) of.later_is
      ∙ (ap (λ (o : Option (List ℕ)). or_else (bytes_named later f.0.path.items) o) (sym of.now_is)
      ∙ ap (λ (p : List ℕ). or_else (bytes_named later p) (bytes_named pairs p)) f.2)));
}

-- ---- one file of the list

pub get_here : {A : Type 0} (xs : List A) (n : ℕ) (x : A) → n < length xs → x ≡ get_or xs n x → slice_get xs n ≡ Some x
get_here [] n x lt is = absurd (omega arith)
get_here {A} (y ∷ xs) zero x lt is = ap (λ (z : A). Some z) (sym is)
get_here (y ∷ xs) (suc n) x lt is = get_here xs n x (omega arith) is

path_here : (files : List MemFile) (n : ℕ) (f : MemFile) → n < length files → f ≡ get_or files n f → slice_get (kept_paths files) n ≡ Some f.path.items
path_here files n f lt is = slice_get-map kept_path files n ∙ ap (λ (o : Option MemFile). option_map kept_path o) (get_here files n f lt is)

pub behind_here : (files : List MemFile) (at : ℕ) (f : MemFile) (path : List ℕ) → 0 < at → at ≤ length files → f ≡ get_or files (at - 1) f → is_before f.path.items path ≡ true
    → is_behind (take at (kept_paths files)) path ≡ true
behind_here files at f path some le is before =
    let k : suc (at - 1) ≡ at = omega arith in
    ap (λ n. is_behind (take n (kept_paths files)) path) (sym k) ∙ behind_at (kept_paths files) (at - 1) f.path.items path (path_here files (at - 1) f (omega arith) is) before

pub not_before_here : (files : List MemFile) (at : ℕ) (f : MemFile) (path : List ℕ) → 0 < at → at ≤ length files → f ≡ get_or files (at - 1) f → is_before f.path.items path ≡ false
    → (other : List ℕ) → slice_get (kept_paths files) (at - 1) ≡ Some other → is_before other path ≡ false
not_before_here files at f path some le is before other h =
    let here = path_here files (at - 1) f (omega arith) is in
    let same : f.path.items ≡ other = cc in
    ap (λ (p : List ℕ). is_before p path) (sym same) ∙ before

get_set_same : {A : Type 0} (xs : List A) (n : ℕ) (x : A) → n < length xs → slice_get (set xs n x) n ≡ Some x
get_set_same [] n x lt = absurd (omega arith)
get_set_same (y ∷ xs) zero x lt = refl
get_set_same (y ∷ xs) (suc n) x lt = get_set_same xs n x (omega arith)

get_set_other : {A : Type 0} (xs : List A) (n k : ℕ) (x : A) → (k ≡ n → ⊥) → slice_get (set xs n x) k ≡ slice_get xs k
get_set_other [] n k x ne = refl
get_set_other (y ∷ xs) zero zero x ne = absurd (ne refl)
get_set_other (y ∷ xs) zero (suc k) x ne = refl
get_set_other (y ∷ xs) (suc n) zero x ne = refl
get_set_other (y ∷ xs) (suc n) (suc k) x ne = get_set_other xs n k x (λ e. ne (ap suc e))

pub get_there : {A : Type 0} (xs : List A) (n : ℕ) (d : A) → n < length xs → slice_get xs n ≡ Some (get_or xs n d)
get_there [] n d lt = absurd (omega arith)
get_there (y ∷ xs) zero d lt = refl
get_there (y ∷ xs) (suc n) d lt = get_there xs n d (omega arith)

pub take_next : {A : Type 0} (xs : List A) (n : ℕ) (x : A) → n < length xs → x ≡ get_or xs n x → take (n + 1) xs ≡ take n xs ++ x ∷ []
take_next {A} xs n x lt is = let k : n + 1 ≡ suc n = omega arith in ap (λ j. take j xs) k ∙ take_push xs n x (get_here xs n x lt is)

pub paths_set : (files : List MemFile) (n : ℕ) (old new : MemFile) → slice_get files n ≡ Some old → new.path ≡ old.path → kept_paths (set files n new) ≡ kept_paths files
paths_set [] n old new at same = refl
paths_set (f ∷ files) zero old new at same = let is : f ≡ old = cc in ap (λ (p : List ℕ). p ∷ kept_paths files) (ap (λ (v : Vec ℕ Global). v.items) same ∙ ap (λ (g : MemFile). g.path.items) (sym is))
paths_set (f ∷ files) (suc n) old new at same = ap (λ (ps : List (List ℕ)). f.path.items ∷ ps) (paths_set files n old new at same)

some_cond : (b : Bool) (x y : List ℕ) → cond b (Some x) (Some y) ≡ Some (cond b x y)
some_cond true x y = refl
some_cond false x y = refl

pub turns_set : (files : List MemFile) (n : ℕ) (ended : Bool) (old new : MemFile) → slice_get files n ≡ Some old → new.path ≡ old.path
    → kept_now new ≡ cond ended (kept_later old) (kept_now old) → kept_later new ≡ kept_later old → Turns n ended (kept_shown files) (kept_shown (set files n new))
turns_set files n ended old new before path now later =
    let after = get_set_same files n new (get_below files n old before) in
    record {
      paths = paths_set files n old new before path;
      now =
          ap (λ (o : Option MemFile). option_map kept_now o) after
          ∙ (ap (λ (x : List ℕ). Some x) now
          ∙ (sym (some_cond ended (kept_later old) (kept_now old))
          ∙ ap (λ (o : Option MemFile). cond ended (option_map kept_later o) (option_map kept_now o)) (sym before)));
      others = λ k ne. ap (λ (o : Option MemFile). option_map kept_now o) (get_set_other files n k new ne);
      later = λ k. elim (cases_eq k n) [
        | inl e ↦ subst (λ j. option_map kept_later (slice_get (set files n new) j) ≡ option_map kept_later (slice_get files j)) (sym e)
            (ap (λ (o : Option MemFile). option_map kept_later o) after ∙ (ap (λ (x : List ℕ). Some x) later ∙ ap (λ (o : Option MemFile). option_map kept_later o) (sym before)))
        | inr ne ↦ ap (λ (o : Option MemFile). option_map kept_later o) (get_set_other files n k new ne)
      ];
    }
