-- What is picked of each place is an image, and a disk made of it has nothing else.
use Rattle.std.proofs.Common.{◌≡◌, ⊎_elim, ℕ, zero, suc, ◌+◌, ◌<◌, ◌≤◌, List, [], ◌∷◌, ◌++◌, length, take, drop, get_or, ◌^◌, refl, sym, ◌∙◌, ap, subst, arith, append_assoc}
use Rattle.std.specs.Prelude.{Bool, true, false, if◌then◌else◌, ◌==◌, Option, Some, None, slice_get, option_map, Vec}
use Rattle.std.specs.declared.alloc.Global.{Global}
use Rattle.std.specs.Option.{option_or}
use Rattle.std.specs.Str.{bytes_eq}
use Rattle.std.specs.Ordering.{nat_cmp}
use Rattle.std.specs.Cmp.Lexicographic.{slice_cmp}
use Rattle.std.specs.declared.cmp.Ordering.TheVariants.{Less, Equal}
use Rattle.std.specs.Map.{lookup}
use Rattle.std.specs.BTreeMap.{BTreeMap, get, is_at, IsOrdered}
use Rattle.std.proofs.lemmas.Cmp.{tied_itself}
use Rattle.std.proofs.lemmas.Bool.{cases_Bool}
use Rattle.std.proofs.lemmas.List.{append-nil, drop_more}
use Rattle.std.proofs.lemmas.Option.{none-some, same_Some}
use Rattle.std.proofs.lemmas.Map.Lookups.{exact_bytes}
use Rattle.std.proofs.lemmas.Map.Entries.{place_from_lookup}
use Rattle.std.proofs.lemmas.Slice.Eq.{bytes_eq-Decides}
use Rattle.cm_disk.specs.declared.calls.Slot.{Slot}
use Rattle.cm_disk.specs.declared.calls.Span.{Span}
use Rattle.cm_disk.specs.declared.calls.Call.{Call}
use Rattle.cm_disk.specs.declared.calls.Work.TheVariants.{Write, Sync}
use Rattle.cm_disk.specs.Disk.{File, bytes_of, overwritten}
use Rattle.cm_disk.specs.Images.{Stand, is_touched, IsLeft, at_rest}
use Rattle.cm_disk.specs.Stands.{absent, worked, stand_after, IsSmall, marked, picked}
use Rattle.cm_disk.specs.Slots.{stand_of, stand_of_option, stand_in}
use Rattle.cm_disk.proofs.Sure.{durable_left}
use Rattle.cm_disk.proofs.Steps.{more, stand_here, stand_there}
use Rattle.cm_disk.proofs.Joined.{is_equal, same_key, total_key}
use Rattle.cm_disk.proofs.Above.{rises}

-- an untouched byte isn't marked
kept_unmarked : (spans : List Span) (from : ℕ) (bytes : List ℕ) (i byte : ℕ) → is_touched spans (from + i) ≡ false → slice_get bytes i ≡ Some byte → slice_get (marked spans from bytes) i ≡ Some byte
kept_unmarked spans from [] i byte out is = absurd (none-some byte is)
kept_unmarked spans from (x ∷ bytes) zero byte out is =
    let here : is_touched spans from ≡ false = subst (λ (n : ℕ). is_touched spans n ≡ false) (omega arith) out in
    ap (λ (b : Bool). Some (if b then 1 else x)) here ∙ is
kept_unmarked spans from (x ∷ bytes) (suc i) byte out is = kept_unmarked spans (suc from) bytes i byte (subst (λ (n : ℕ). is_touched spans n ≡ false) (omega arith) out) is

marked_left : (s : Stand) → IsLeft s s.now → IsLeft s (option_map (marked s.touched 0) s.now)
marked_left s h = by s.now h
  where
    all_same : (bytes : List ℕ) (from : ℕ) → s.touched ≡ [] → marked s.touched from bytes ≡ bytes
    all_same [] from e = refl
    all_same (x ∷ bytes) from e = ap (λ (l : List Span). (if is_touched l from then 1 else x) ∷ marked s.touched (suc from) bytes) e ∙ ap (λ (l : List ℕ). x ∷ l) (all_same bytes (suc from) e)

    by : (now : File) → IsLeft s now → IsLeft s (option_map (marked s.touched 0) now)
    by None l = l
    by (Some bytes) l = record {
      clean = λ e kept. ap (λ (b : List ℕ). Some b) (all_same bytes 0 e) ∙ l.clean e kept;
      absent = λ e. absurd (cc);
      bytes = λ there i byte out is. kept_unmarked s.touched 0 bytes i byte (subst (λ (n : ℕ). is_touched s.touched n ≡ false) (omega arith) out) (l.bytes refl i byte out is);
    }

-- each pick is an image
pub picked_left : (pick : ℕ) (s : Stand) → IsLeft s s.now → IsLeft s (picked pick s)
picked_left pick s h = by (pick == 0) (pick == 1)
  where
    by : (a b : Bool) → IsLeft s (if a then s.durable else (if b then s.now else option_map (marked s.touched 0) s.now))
    by true b = durable_left s
    by false true = h
    by false false = marked_left s h

pub picked_absent : (pick : ℕ) → picked pick absent ≡ None
picked_absent pick = by (pick == 0) (pick == 1)
  where
    by : (a b : Bool) → ◌≡◌ {A = File} (if a then None else (if b then None else None)) None
    by true b = refl
    by false true = refl
    by false false = refl

-- a place that is written and synced
pub kept_stand : (calls later last : List Call) (place : List ℕ) (bytes : Vec ℕ Global) (file : File) → file ≡ Some bytes.items → stand_after calls place ≡ absent → later ≡ more calls place (Write 0 bytes) true → last ≡ more later place Sync true
    → (q : List ℕ) → stand_after last q ≡ (if bytes_eq place q then at_rest file else stand_after calls q)
kept_stand calls later last place bytes file is none first second q = ap (λ (l : List Call). stand_after l q) (second ∙ ap (λ (l : List Call). more l place Sync true) first) ∙ ⊎_elim yes apart (cases_Bool (bytes_eq place q))
  where
    mid : List Call
    mid = more calls place (Write 0 bytes) true

    over_none : overwritten [] 0 bytes.items ≡ bytes.items
    over_none = ap (λ (l : List ℕ). bytes.items ++ l) (drop_none (0 + length bytes.items)) ∙ append-nil bytes.items
      where
        drop_none : (n : ℕ) → ◌≡◌ {A = List ℕ} (drop n []) []
        drop_none zero = refl
        drop_none (suc n) = refl

    here : stand_after (more (more calls place (Write 0 bytes) true) place Sync true) place ≡ at_rest file
    here = stand_here (more calls place (Write 0 bytes) true) place Sync true ∙ ap (worked Sync true) (stand_here calls place (Write 0 bytes) true ∙ ap (worked (Write 0 bytes) true) none) ∙ ap (λ (l : List ℕ). at_rest (Some l)) over_none ∙ ap at_rest (sym is)

    yes : bytes_eq place q ≡ true → stand_after (more (more calls place (Write 0 bytes) true) place Sync true) q ≡ (if bytes_eq place q then at_rest file else stand_after calls q)
    yes e = subst (λ (r : List ℕ). stand_after (more (more calls place (Write 0 bytes) true) place Sync true) r ≡ at_rest file) ((bytes_eq-Decides place q).0 e) here ∙ ap (λ (b : Bool). if b then at_rest file else stand_after calls q) (sym e)

    apart : bytes_eq place q ≡ false → stand_after (more (more calls place (Write 0 bytes) true) place Sync true) q ≡ (if bytes_eq place q then at_rest file else stand_after calls q)
    apart e = stand_there (more calls place (Write 0 bytes) true) place Sync true q other ∙ stand_there calls place (Write 0 bytes) true q other ∙ ap (λ (b : Bool). if b then at_rest file else stand_after calls q) (sym e)
      where
        other : q ≡ place → ⊥
        other s = let t : bytes_eq place q ≡ true = (bytes_eq-Decides place q).1 (sym s) in absurd (cc)

pub joins_if : (b : Bool) (later one none : List Call) → later ≡ (if b then one else none) → b ≡ true → later ≡ one
joins_if true later one none is joined = is
joins_if false later one none is joined = absurd (cc)

-- nothing is kept of a file that is absent
pub kept_none : (calls : List Call) (place : List ℕ) (file : File) → file ≡ None → stand_after calls place ≡ absent → (q : List ℕ) → stand_after calls q ≡ (if bytes_eq place q then at_rest file else stand_after calls q)
kept_none calls place file is none q = ⊎_elim yes apart (cases_Bool (bytes_eq place q))
  where
    yes : bytes_eq place q ≡ true → stand_after calls q ≡ (if bytes_eq place q then at_rest file else stand_after calls q)
    yes e = ap (stand_after calls) (sym ((bytes_eq-Decides place q).0 e)) ∙ none ∙ ap at_rest (sym is) ∙ ap (λ (b : Bool). if b then at_rest file else stand_after calls q) (sym e)

    apart : bytes_eq place q ≡ false → stand_after calls q ≡ (if bytes_eq place q then at_rest file else stand_after calls q)
    apart e = ap (λ (b : Bool). if b then at_rest file else stand_after calls q) (sym e)

abbrev Entries : Type 0
Entries = List (List ℕ × Slot)

-- one entry more
lookup_more : (test : List ℕ → Bool) (es : Entries) (n : ℕ) (e : List ℕ × Slot) → slice_get es n ≡ Some e → lookup test (take (suc n) es) ≡ option_or (lookup test (take n es)) (if test e.0 then Some e.1 else None)
lookup_more test [] n e is = absurd (none-some e is)
lookup_more test (x ∷ es) zero e is = ap (λ (y : List ℕ × Slot). if test y.0 then Some y.1 else None) (same_Some x e is)
lookup_more test (x ∷ es) (suc n) e is = by (test x.0) (lookup_more test es n e is)
  where
    by : (b : Bool) → lookup test (take (suc n) es) ≡ option_or (lookup test (take n es)) (if test e.0 then Some e.1 else None)
        → (if b then Some x.1 else lookup test (take (suc n) es)) ≡ option_or (if b then Some x.1 else lookup test (take n es)) (if test e.0 then Some e.1 else None)
    by true more = refl
    by false more = more

get_of_take : (es : Entries) (n i : ℕ) (e : List ℕ × Slot) → slice_get (take n es) i ≡ Some e → (i < n) × (slice_get es i ≡ Some e)
get_of_take es zero i e is = absurd (none-some e is)
get_of_take [] (suc n) i e is = absurd (none-some e is)
get_of_take (x ∷ es) (suc n) zero e is = (omega arith, is)
get_of_take (x ∷ es) (suc n) (suc i) e is = let r = get_of_take es n i e is in (omega (arith, r.0), r.1)

-- a key stands once
pub not_before : (m : BTreeMap (List ℕ) Slot) → IsOrdered (slice_cmp nat_cmp) m → (n : ℕ) (k : List ℕ) (slot : Slot) → slice_get m.entries n ≡ Some (k, slot) → lookup (is_at (slice_cmp nat_cmp k)) (take n m.entries) ≡ None
not_before m sorted n k slot at = by (lookup (is_at (slice_cmp nat_cmp k)) (take n m.entries)) refl
  where
    by : (o : Option Slot) → lookup (is_at (slice_cmp nat_cmp k)) (take n m.entries) ≡ o → lookup (is_at (slice_cmp nat_cmp k)) (take n m.entries) ≡ None
    by None is = is
    by (Some s) is =
        let found = place_from_lookup (is_at (slice_cmp nat_cmp k)) (take n m.entries) s is in
        let inside = get_of_take m.entries n found.0 (found.1, s) found.2 in
        let same : k ≡ found.1 = exact_bytes k found.1 (is_equal _ found.3) in
        let less : slice_cmp nat_cmp found.1 k ≡ Less = rises m sorted found.0 n found.1 k s slot inside.1 at inside.0 in
        let tied : slice_cmp nat_cmp k k ≡ Equal = tied_itself total_key k in
        let less_own : slice_cmp nat_cmp k k ≡ Less = subst (λ (x : List ℕ). slice_cmp nat_cmp x k ≡ Less) (sym same) less in
        absurd (cc)

-- what is kept of an entry, if there is one
abbrev pub rest_of : ℕ → Option Slot → Stand
rest_of pick None = absent
rest_of pick (Some slot) = at_rest (picked pick (stand_of slot))

pub rest_more : (m : BTreeMap (List ℕ) Slot) → IsOrdered (slice_cmp nat_cmp) m → (pick n : ℕ) (k : List ℕ) (slot : Slot) (old new : List Call) → slice_get m.entries n ≡ Some (k, slot)
    → ((q : List ℕ) → stand_after old q ≡ rest_of pick (lookup (is_at (slice_cmp nat_cmp q)) (take n m.entries)))
    → ((q : List ℕ) → stand_after new q ≡ (if bytes_eq k q then at_rest (picked pick (stand_of slot)) else stand_after old q))
    → (q : List ℕ) → stand_after new q ≡ rest_of pick (lookup (is_at (slice_cmp nat_cmp q)) (take (suc n) m.entries))
rest_more m sorted pick n k slot old new at was now q = now q ∙ ⊎_elim yes apart (cases_Bool (bytes_eq k q)) ∙ ap (rest_of pick) (sym (lookup_more (is_at (slice_cmp nat_cmp q)) m.entries n (k, slot) at))
  where
    tests : is_at (slice_cmp nat_cmp q) k ≡ bytes_eq q k
    tests = same_key q k

    yes : bytes_eq k q ≡ true → (if bytes_eq k q then at_rest (picked pick (stand_of slot)) else stand_after old q) ≡ rest_of pick (option_or (lookup (is_at (slice_cmp nat_cmp q)) (take n m.entries)) (if is_at (slice_cmp nat_cmp q) k then Some slot else None))
    yes e =
        let same : k ≡ q = (bytes_eq-Decides k q).0 e in
        let none : lookup (is_at (slice_cmp nat_cmp q)) (take n m.entries) ≡ None = subst (λ (x : List ℕ). lookup (is_at (slice_cmp nat_cmp x)) (take n m.entries) ≡ None) same (not_before m sorted n k slot at) in
        let here : is_at (slice_cmp nat_cmp q) k ≡ true = tests ∙ (bytes_eq-Decides q k).1 (sym same) in
        ap (λ (b : Bool). if b then at_rest (picked pick (stand_of slot)) else stand_after old q) e
        ∙ sym (ap (λ (o : Option Slot). rest_of pick (option_or o (if is_at (slice_cmp nat_cmp q) k then Some slot else None))) none ∙ ap (λ (b : Bool). rest_of pick (option_or None (if b then Some slot else None))) here)

    or_none : (o : Option Slot) → option_or o None ≡ o
    or_none None = refl
    or_none (Some s) = refl

    apart : bytes_eq k q ≡ false → (if bytes_eq k q then at_rest (picked pick (stand_of slot)) else stand_after old q) ≡ rest_of pick (option_or (lookup (is_at (slice_cmp nat_cmp q)) (take n m.entries)) (if is_at (slice_cmp nat_cmp q) k then Some slot else None))
    apart e =
        let there : is_at (slice_cmp nat_cmp q) k ≡ false = tests ∙ swapped in
        ap (λ (b : Bool). if b then at_rest (picked pick (stand_of slot)) else stand_after old q) e ∙ was q
        ∙ ap (rest_of pick) (sym (ap (λ (b : Bool). option_or (lookup (is_at (slice_cmp nat_cmp q)) (take n m.entries)) (if b then Some slot else None)) there ∙ or_none _))
      where
        swapped : bytes_eq q k ≡ false
        swapped = ⊎_elim (λ t. clash t) (λ f. f) (cases_Bool (bytes_eq q k))
          where
            clash : bytes_eq q k ≡ true → bytes_eq q k ≡ false
            clash t = let u : bytes_eq k q ≡ true = (bytes_eq-Decides k q).1 (sym ((bytes_eq-Decides q k).0 t)) in absurd (cc)

pub rest_all : (m : BTreeMap (List ℕ) Slot) (pick : ℕ) (q : List ℕ) → rest_of pick (get (slice_cmp nat_cmp) m q) ≡ at_rest (picked pick (stand_in m q))
rest_all m pick q = by (get (slice_cmp nat_cmp) m q)
  where
    by : (o : Option Slot) → rest_of pick o ≡ at_rest (picked pick (stand_of_option o))
    by None = ap at_rest (sym (picked_absent pick))
    by (Some slot) = refl

length-marked : (spans : List Span) (from : ℕ) (bytes : List ℕ) → length (marked spans from bytes) ≡ length bytes
length-marked spans from [] = refl
length-marked spans from (x ∷ bytes) = ap suc (length-marked spans (suc from) bytes)

pub picked_small : (pick : ℕ) (s : Stand) → IsSmall s → length (bytes_of (picked pick s)) ≤ 2 ^ 40 + 131072
picked_small pick s small = by (pick == 0) (pick == 1)
  where
    mark : (now : File) → length (bytes_of now) ≤ 2 ^ 40 + 131072 → length (bytes_of (option_map (marked s.touched 0) now)) ≤ 2 ^ 40 + 131072
    mark None le = le
    mark (Some bytes) le = omega (arith, le, length-marked s.touched 0 bytes)

    by : (a b : Bool) → length (bytes_of (if a then s.durable else (if b then s.now else option_map (marked s.touched 0) s.now))) ≤ 2 ^ 40 + 131072
    by true b = small.durable
    by false true = small.now
    by false false = mark s.now small.now

-- one byte more is marked
pub marked_more : (spans : List Span) (made bytes : List ℕ) (i mark : ℕ) (whole : List ℕ) → i < length bytes → mark ≡ (if is_touched spans i then 1 else get_or bytes i 0) → made ++ marked spans i (drop i bytes) ≡ whole
    → (made ++ mark ∷ []) ++ marked spans (i + 1) (drop (i + 1) bytes) ≡ whole
marked_more spans made bytes i mark whole lt is so_far =
    let rest : drop i bytes ≡ get_or bytes i 0 ∷ drop (i + 1) bytes = drop_more bytes i 0 lt in
    append_assoc made (mark ∷ []) (marked spans (i + 1) (drop (i + 1) bytes))
    ∙ ap (λ (b : ℕ). made ++ b ∷ marked spans (i + 1) (drop (i + 1) bytes)) is
    ∙ ap (λ (n : ℕ). made ++ (if is_touched spans i then 1 else get_or bytes i 0) ∷ marked spans n (drop (i + 1) bytes)) next
    ∙ sym (ap (λ (l : List ℕ). made ++ marked spans i l) rest)
    ∙ so_far
  where
    next : i + 1 ≡ suc i
    next = omega arith
