-- The first change that is met where the hashes of a manifest are read again in rising order.
use Rattle.std.proofs.Common.{◌≡◌, ◌⊎◌, inl, inr, ℕ, suc, ◌+◌, ◌<◌, ◌≤◌, Bool, true, false, cond, List, [], ◌∷◌, length, take, refl, sym, ◌∙◌, ap, subst, arith}
use Rattle.std.specs.Prelude.{◌≢◌, ◌&&◌, not, Option, None, Some, option_map, slice_get, find, Contains}
use Rattle.std.specs.Option.{option_and_then}
use Rattle.std.specs.List.{AllByRecursion}
use Rattle.std.specs.Cmp.Lexicographic.{slice_cmp}
use Rattle.std.specs.Ordering.{nat_cmp, is_lt, ordering_reverse}
use Rattle.std.specs.Str.{bytes_eq}
use Rattle.std.specs.declared.cmp.Ordering.TheVariants.{Less}
use Rattle.std.proofs.lemmas.Bool.{false≢true}
use Rattle.std.proofs.lemmas.Cmp.{tied_itself, nat_list_cmp_total}
use Rattle.std.proofs.lemmas.Option.{none-some, same_Some, slice_get_within}
use Rattle.std.proofs.lemmas.Slice.Eq.{bytes_eq-Decides}
use Rattle.cm_base.specs.declared.hash.Hash.{Hash}
use Rattle.cm_filelib.specs.Stored.{is_named as is_file_named}
use Rattle.cm_contents.specs.Wants.{size_in}
use Rattle.cm_contents.proofs.Least.{same_hash}
use Rattle.cm_state.specs.Needed.{is_named}
use Rattle.cm_state.specs.State.{State}
use Rattle.cm_state.proofs.Members.{member_cases}
use Rattle.cm_tree.specs.declared.entry.Entry.{Entry}
use Rattle.cm_intake.specs.Readings.{first_with, reread, differs, is_changed, lesser, least_hash, change_of, first_change}

-- a hash is another one, or above it
abbrev IsFrom : Hash → Hash → Type 0
IsFrom least hash = (hash ≡ least) ⊎ (slice_cmp nat_cmp least.0 hash.0 ≡ Less)

abbrev IsFromOrNone : Hash → Option Hash → Type 0
IsFromOrNone least None = Unit {0}
IsFromOrNone least (Some hash) = IsFrom least hash

not_below : (least hash : Hash) → IsFrom least hash → is_lt (slice_cmp nat_cmp hash.0 least.0) ≡ false
not_below least hash (inl same) = subst (λ (h : Hash). is_lt (slice_cmp nat_cmp h.0 least.0) ≡ false) (sym same) (ap is_lt (tied_itself nat_list_cmp_total least.0))
not_below least hash (inr above) = ap is_lt (nat_list_cmp_total.antisymm hash.0 least.0 ∙ ap ordering_reverse above)

lesser-least : (least : Hash) (other : Option Hash) → IsFromOrNone least other → lesser (Some least) other ≡ Some least
lesser-least least None from = refl
lesser-least least (Some hash) from = ap (λ (b : Bool). cond b (Some hash) (Some least)) (not_below least hash from)

least-lesser : (least : Hash) (other : Option Hash) → IsFromOrNone least other → lesser other (Some least) ≡ Some least
least-lesser least None from = refl
least-lesser least (Some hash) (inl same) = by (is_lt (slice_cmp nat_cmp least.0 hash.0))
  where
    by : (b : Bool) → cond b (Some least) (Some hash) ≡ Some least
    by true = refl
    by false = ap (λ (h : Hash). Some h) same
least-lesser least (Some hash) (inr above) = ap (λ (b : Bool). cond b (Some least) (Some hash)) (ap is_lt above)

lesser_from : (least : Hash) (a b : Option Hash) → IsFromOrNone least a → IsFromOrNone least b → IsFromOrNone least (lesser a b)
lesser_from least None b from_a from_b = from_b
lesser_from least (Some x) None from_a from_b = from_a
lesser_from least (Some x) (Some y) from_a from_b = by (is_lt (slice_cmp nat_cmp y.0 x.0))
  where
    by : (b : Bool) → IsFromOrNone least (cond b (Some y) (Some x))
    by true = from_b
    by false = from_a

-- no entry passes
least_hash-none : (test : Hash → Bool) (manifest : List Entry) → AllByRecursion (λ (entry : Entry). test entry.hash ≡ false) manifest → least_hash test manifest ≡ None
least_hash-none test [] all = refl
least_hash-none test (entry ∷ rest) all = ap (λ (b : Bool). lesser (cond b (Some entry.hash) None) (least_hash test rest)) all.0 ∙ least_hash-none test rest all.1

module _ (test : Hash → Bool) (least : Hash) where
  -- an entry that passes has this hash or one above it
  abbrev PassesFrom : Entry → Type 0
  PassesFrom entry = test entry.hash ≡ true → (entry.hash ≡ least) ⊎ (slice_cmp nat_cmp least.0 entry.hash.0 ≡ Less)

  one_from : (entry : Entry) → PassesFrom entry → IsFromOrNone least (cond (test entry.hash) (Some entry.hash) None)
  one_from entry from = by (test entry.hash) refl
    where
      by : (b : Bool) → test entry.hash ≡ b → IsFromOrNone least (cond b (Some entry.hash) None)
      by true passes = from passes
      by false fails = tt

  least_from : (manifest : List Entry) → AllByRecursion PassesFrom manifest → IsFromOrNone least (least_hash test manifest)
  least_from [] all = tt
  least_from (entry ∷ rest) all = lesser_from least (cond (test entry.hash) (Some entry.hash) None) (least_hash test rest) (one_from entry all.0) (least_from rest all.1)

  -- the least that passes is the hash of an entry
  least_hash-some : (n : ℕ) (manifest : List Entry) (numbered : ℕ × Entry) → first_with least n manifest ≡ Some numbered → test least ≡ true → AllByRecursion PassesFrom manifest → least_hash test manifest ≡ Some least
  least_hash-some n [] numbered found passes all = absurd (none-some numbered found)
  least_hash-some n (entry ∷ rest) numbered found passes all = by (bytes_eq entry.hash.0 least.0) refl found (λ behind. least_hash-some (n + 1) rest numbered behind passes all.1)
    where
      by : (b : Bool) → bytes_eq entry.hash.0 least.0 ≡ b → cond b (Some (n, entry)) (first_with least (n + 1) rest) ≡ Some numbered
          → (first_with least (n + 1) rest ≡ Some numbered → least_hash test rest ≡ Some least) → lesser (cond (test entry.hash) (Some entry.hash) None) (least_hash test rest) ≡ Some least
      by true same here later =
          ap (λ (h : Hash). lesser (cond (test h) (Some h) None) (least_hash test rest)) (same_hash entry.hash least ((bytes_eq-Decides entry.hash.0 least.0).0 same))
          ∙ ap (λ (b : Bool). lesser (cond b (Some least) None) (least_hash test rest)) passes
          ∙ lesser-least least (least_hash test rest) (least_from rest all.1)
      by false apart behind later =
          ap (λ (o : Option Hash). lesser (cond (test entry.hash) (Some entry.hash) None) o) (later behind)
          ∙ least-lesser least (cond (test entry.hash) (Some entry.hash) None) (one_from entry all.0)

-- The first entry of a hash, where numbers begin with n: it has the hash, and its number is that of its place.
pub record IsFirst (hash : Hash) (n : ℕ) (manifest : List Entry) (numbered : ℕ × Entry) : Type 0 where
  pub has_hash : numbered.1.hash ≡ hash
  pub place : ℕ
  pub number : numbered.0 ≡ n + place
  pub here : slice_get manifest place ≡ Some numbered.1

pub first_with-some : (hash : Hash) (n : ℕ) (manifest : List Entry) (numbered : ℕ × Entry) → first_with hash n manifest ≡ Some numbered → IsFirst hash n manifest numbered
first_with-some hash n [] numbered found = absurd (none-some numbered found)
first_with-some hash n (entry ∷ rest) numbered found = by (bytes_eq entry.hash.0 hash.0) refl found (first_with-some hash (n + 1) rest numbered)
  where
    by : (b : Bool) → bytes_eq entry.hash.0 hash.0 ≡ b → cond b (Some (n, entry)) (first_with hash (n + 1) rest) ≡ Some numbered
        → (first_with hash (n + 1) rest ≡ Some numbered → IsFirst hash (n + 1) rest numbered) → IsFirst hash n (entry ∷ rest) numbered
    by true same first behind =
        let is : (n, entry) ≡ numbered = same_Some (n, entry) numbered first in
        record {
          has_hash = ap (λ (x : ℕ × Entry). x.1.hash) (sym is) ∙ same_hash entry.hash hash ((bytes_eq-Decides entry.hash.0 hash.0).0 same);
          place = 0;
          number = let begins : n ≡ numbered.0 = ap (λ (x : ℕ × Entry). x.0) is in omega (arith, begins);
          here = ap (λ (x : ℕ × Entry). Some x.1) is;
        }
    by false apart found_behind behind =
        let later = behind found_behind in
        record {
          has_hash = later.has_hash;
          place = suc later.place;
          number = let number = later.number in omega (arith, number);
          here = later.here;
        }

module _ (hash : Hash) (n : ℕ) (manifest : List Entry) (numbered : ℕ × Entry) (found : first_with hash n manifest ≡ Some numbered) where
  pub first_has_hash : numbered.1.hash.0 ≡ hash.0
  first_has_hash = ap (λ (h : Hash). h.0) (first_with-some hash n manifest numbered found).has_hash

  pub first_in_range : (n ≤ numbered.0) × (numbered.0 < n + length manifest)
  first_in_range =
      let first = first_with-some hash n manifest numbered found in
      let number = first.number in
      let within = slice_get_within manifest first.place numbered.1 first.here in
      (omega (arith, number), omega (arith, number, within))

-- numbered from 0, it stands at its number
pub first_at : (hash : Hash) (manifest : List Entry) (numbered : ℕ × Entry) → first_with hash 0 manifest ≡ Some numbered → slice_get manifest numbered.0 ≡ Some numbered.1
first_at hash manifest numbered found =
    let first = first_with-some hash 0 manifest numbered found in
    let number = first.number in
    let place : first.place ≡ numbered.0 = omega (arith, number) in
    subst (λ (k : ℕ). slice_get manifest k ≡ Some numbered.1) place first.here

-- two hashes with one first entry are one
pub same_number : (a b : Hash) (manifest : List Entry) (x y : ℕ × Entry) → first_with a 0 manifest ≡ Some x → first_with b 0 manifest ≡ Some y → x.0 ≡ y.0 → a ≡ b
same_number a b manifest x y first_a first_b same =
    let entries : x.1 ≡ y.1 = same_Some x.1 y.1 (sym (first_at a manifest x first_a) ∙ ap (λ (k : ℕ). slice_get manifest k) same ∙ first_at b manifest y first_b) in
    sym (first_with-some a 0 manifest x first_a).has_hash ∙ ap (λ (e : Entry). e.hash) entries ∙ (first_with-some b 0 manifest y first_b).has_hash

pub numbers_apart : (a b : Hash) (manifest : List Entry) (x y : ℕ × Entry) → first_with a 0 manifest ≡ Some x → first_with b 0 manifest ≡ Some y → a ≢ b → x.0 ≢ y.0
numbers_apart a b manifest x y first_a first_b apart same = apart (same_number a b manifest x y first_a first_b same)

-- the size of a hash is that of its first entry
pub size_in-first_with : (hash : Hash) (n : ℕ) (manifest : List Entry) → size_in hash manifest ≡ option_map (λ (numbered : ℕ × Entry). numbered.1.size) (first_with hash n manifest)
size_in-first_with hash n [] = refl
size_in-first_with hash n (entry ∷ rest) = by (bytes_eq entry.hash.0 hash.0) (size_in-first_with hash (n + 1) rest)
  where
    by : (b : Bool) → size_in hash rest ≡ option_map (λ (numbered : ℕ × Entry). numbered.1.size) (first_with hash (n + 1) rest)
        → option_map (λ (e : Entry). e.size) (cond b (Some entry) (find (λ (e : Entry). bytes_eq e.hash.0 hash.0) rest))
        ≡ option_map (λ (numbered : ℕ × Entry). numbered.1.size) (cond b (Some (n, entry)) (first_with hash (n + 1) rest))
    by true behind = refl
    by false behind = behind

pub first_with_size : (hash : Hash) (n : ℕ) (manifest : List Entry) (numbered : ℕ × Entry) → first_with hash n manifest ≡ Some numbered → size_in hash manifest ≡ Some numbered.1.size
first_with_size hash n manifest numbered found = size_in-first_with hash n manifest ∙ ap (λ (o : Option (ℕ × Entry)). option_map (λ (x : ℕ × Entry). x.1.size) o) found

-- a hash that has a size has a first entry, of this size
pub record IsSizedFirst (hash : Hash) (n : ℕ) (manifest : List Entry) (size : ℕ) : Type 0 where
  pub numbered : ℕ × Entry
  pub found : first_with hash n manifest ≡ Some numbered
  pub has_size : numbered.1.size ≡ size

pub sized_first : (hash : Hash) (n : ℕ) (manifest : List Entry) (size : ℕ) → size_in hash manifest ≡ Some size → IsSizedFirst hash n manifest size
sized_first hash n manifest size sized = by (first_with hash n manifest) refl
  where
    by : (o : Option (ℕ × Entry)) → first_with hash n manifest ≡ o → IsSizedFirst hash n manifest size
    by None none = absurd (none-some size (sym (ap (λ (o : Option (ℕ × Entry)). option_map (λ (x : ℕ × Entry). x.1.size) o) none) ∙ sym (size_in-first_with hash n manifest) ∙ sized))
    by (Some numbered) found = record { numbered = numbered; found = found; has_size = same_Some numbered.1.size size (sym (first_with_size hash n manifest numbered found) ∙ sized) }

-- the hash of an entry has a first entry
pub first_there : (n : ℕ) (manifest : List Entry) (entry : Entry) → Contains manifest entry → (numbered : ℕ × Entry) × (first_with entry.hash n manifest ≡ Some numbered)
first_there n [] entry among = let none : among.0 < 0 = among.1 in absurd (omega (arith, none))
first_there n (first ∷ rest) entry among = by (bytes_eq first.hash.0 entry.hash.0) refl (first_there (n + 1) rest entry)
  where
    by : (b : Bool) → bytes_eq first.hash.0 entry.hash.0 ≡ b → (Contains rest entry → (numbered : ℕ × Entry) × (first_with entry.hash (n + 1) rest ≡ Some numbered))
        → (numbered : ℕ × Entry) × (cond b (Some (n, first)) (first_with entry.hash (n + 1) rest) ≡ Some numbered)
    by true same later = ((n, first), refl)
    by false apart later = elim (member_cases first rest entry among) [
      | inl is ↦ absurd (false≢true (sym apart ∙ (bytes_eq-Decides first.hash.0 entry.hash.0).1 (ap (λ (e : Entry). let h : Hash = e.hash in h.0) is)))
      | inr behind ↦ later behind
    ]

-- no hash has changed
pub none_changed : (state : State) (manifest : List Entry) (second : ℕ → List ℕ) → AllByRecursion (λ (entry : Entry). is_changed state manifest second entry.hash ≡ false) manifest → first_change state manifest second ≡ None
none_changed state manifest second all =
    ap (λ (o : Option Hash). option_and_then (λ (hash : Hash). option_map (change_of second) (first_with hash 0 manifest)) o) (least_hash-none (is_changed state manifest second) manifest all)

-- a hash has changed, and none below it
pub first_changed : (state : State) (manifest : List Entry) (second : ℕ → List ℕ) (hash : Hash) (numbered : ℕ × Entry) → first_with hash 0 manifest ≡ Some numbered → is_changed state manifest second hash ≡ true
    → AllByRecursion (λ (entry : Entry). is_changed state manifest second entry.hash ≡ true → (entry.hash ≡ hash) ⊎ (slice_cmp nat_cmp hash.0 entry.hash.0 ≡ Less)) manifest
    → first_change state manifest second ≡ Some (change_of second numbered)
first_changed state manifest second hash numbered found changed least =
    ap (λ (o : Option Hash). option_and_then (λ (h : Hash). option_map (change_of second) (first_with h 0 manifest)) o) (least_hash-some (is_changed state manifest second) hash 0 manifest numbered found changed least)
    ∙ ap (λ (o : Option (ℕ × Entry)). option_map (change_of second) o) found

-- a hash that a version names is not read again
pub named_unchanged : (state : State) (manifest : List Entry) (second : ℕ → List ℕ) (hash : Hash) → is_named hash.0 state ≡ true → is_changed state manifest second hash ≡ false
named_unchanged state manifest second hash named = ap (λ (b : Bool). not b && differs second (first_with hash 0 manifest)) named

-- another hash has changed if and only if its first entry's bytes are not of its size and hash
pub is_changed-read : (state : State) (manifest : List Entry) (second : ℕ → List ℕ) (hash : Hash) (numbered : ℕ × Entry) → is_named hash.0 state ≡ false → first_with hash 0 manifest ≡ Some numbered
    → is_changed state manifest second hash ≡ not (is_file_named numbered.1.hash.0 numbered.1.size (reread second numbered))
is_changed-read state manifest second hash numbered unnamed found =
    ap (λ (b : Bool). not b && differs second (first_with hash 0 manifest)) unnamed ∙ ap (λ (o : Option (ℕ × Entry)). differs second o) found

-- two readings of the files, of which nothing but the file of a hash's first entry matters for the hash
module _ (second other : ℕ → List ℕ) where
  differs-same : (found : Option (ℕ × Entry)) → ((numbered : ℕ × Entry) → found ≡ Some numbered → second numbered.0 ≡ other numbered.0) → differs second found ≡ differs other found
  differs-same None same = refl
  differs-same (Some numbered) same = ap (λ (bytes : List ℕ). not (is_file_named numbered.1.hash.0 numbered.1.size (take numbered.1.size bytes))) (same numbered refl)

  pub changed-same : (state : State) (manifest : List Entry) (hash : Hash) → ((numbered : ℕ × Entry) → first_with hash 0 manifest ≡ Some numbered → second numbered.0 ≡ other numbered.0)
      → is_changed state manifest second hash ≡ is_changed state manifest other hash
  changed-same state manifest hash same = ap (λ (b : Bool). not (is_named hash.0 state) && b) (differs-same (first_with hash 0 manifest) same)

  -- they differ in the file of one hash's first entry alone
  pub changed_elsewhere : (state : State) (manifest : List Entry) (hash : Hash) (numbered : ℕ × Entry) → first_with hash 0 manifest ≡ Some numbered → ((k : ℕ) → k ≢ numbered.0 → second k ≡ other k)
      → (apart : Hash) → apart ≢ hash → is_changed state manifest second apart ≡ is_changed state manifest other apart
  changed_elsewhere state manifest hash numbered found same apart differ =
      changed-same state manifest apart (λ x first. same x.0 (numbers_apart apart hash manifest x numbered first found differ))

  pub change-same : (numbered : ℕ × Entry) → second numbered.0 ≡ other numbered.0 → change_of second numbered ≡ change_of other numbered
  change-same numbered same =
      let changed : List ℕ → List ℕ = λ bytes. take numbered.1.size bytes in
      ap (λ (bytes : List ℕ). change_of (λ _. bytes) numbered) same
