-- The changes of `init`: one of each bay that is to be made.
use Rattle.std.proofs.Common.{◌≡◌, ℕ, ◌+◌, Bool, true, false, List, [], ◌∷◌, ◌++◌, length, take, Some, refl, sym, ◌∙◌, ap, arith}
use Rattle.std.specs.Prelude.{◌||◌, cond, map, filter, find, not}
use Rattle.std.specs.List.{AllByRecursion}
use Rattle.std.specs.Str.{bytes_eq}
use Rattle.std.proofs.Math.Seq.{take-append_seam}
use Rattle.std.proofs.lemmas.List.{length-append}
use Rattle.cm_groups.specs.Names.{is_among}
use Rattle.cm_site.specs.Bays.{AreDistinct}
use Rattle.cm_site.specs.Contents.{Change, Made}
use Rattle.cm_site.specs.Machine.{is_made, makings}
use Rattle.cm_site.specs.Worlds.{World, Part, Placed, at, own}
use Rattle.cm_site.proofs.Lifted.{other_name, same_name}

abbrev pub names_in : World → List (List ℕ)
names_in world = map (λ (part : Part). part.name) world

-- the changes of one bay that is to be made, or not
abbrev pub made_once : Bool → List Change
made_once true = Made ∷ []
made_once false = []

abbrev all_made : List Part → List Placed
all_made parts = map (λ (part : Part). at part.name Made) parts

abbrev these : Bool → Part → List Part → List Part
these made part parts = cond made (part ∷ parts) parts

-- a bay of another name is passed over
skips : (name : List ℕ) (part : Part) (parts : List Part) (made : Bool) → bytes_eq part.name name ≡ false → own name (all_made (these made part parts)) ≡ own name (all_made parts)
skips name part parts true other = rw other refl
skips name part parts false other = refl

-- a bay of the name counts
counts_one : (name : List ℕ) (part : Part) (parts : List Part) → bytes_eq part.name name ≡ true → own name (all_made (part ∷ parts)) ≡ Made ∷ own name (all_made parts)
counts_one name part parts same = rw same refl

-- a bay that is not among these has no change
pub own_of_none : (names : List (List ℕ)) (name : List ℕ) (world : World) → is_among (names_in world) name ≡ false → own name (makings names world) ≡ []
own_of_none names name [] none = refl
own_of_none names name (part ∷ world) none = by (bytes_eq part.name name) refl none (own_of_none names name world)
  where
    by : (b : Bool) → bytes_eq part.name name ≡ b → is_among (names_in (part ∷ world)) name ≡ false → (is_among (names_in world) name ≡ false → own name (makings names world) ≡ []) → own name (makings names (part ∷ world)) ≡ []
    by true is none rest = absurd (cc)
    by false is none rest = skips name part (filter (is_made names) world) (is_made names part) is ∙ rest (cc)

-- a bay is changed once where it is to be made, and else not
abbrev pub Marks : List (List ℕ) → World → Part → Type 0
Marks names world part = own part.name (makings names world) ≡ made_once (is_made names part)

first_marks : (names : List (List ℕ)) (part : Part) (world : World) → own part.name (makings names world) ≡ [] → Marks names (part ∷ world) part
first_marks names part world none = by (is_made names part)
  where
    by : (made : Bool) → own part.name (all_made (these made part (filter (is_made names) world))) ≡ made_once made
    by true = counts_one part.name part (filter (is_made names) world) (same_name part.name) ∙ ap (λ (rest : List Change). Made ∷ rest) none
    by false = none

behind_marks : (names : List (List ℕ)) (first : Part) (world rest : World) → is_among (names_in rest) first.name ≡ false → AllByRecursion (Marks names world) rest → AllByRecursion (Marks names (first ∷ world)) rest
behind_marks names first world [] none each = tt
behind_marks names first world (part ∷ rest) none each = by (bytes_eq part.name first.name) refl none (behind_marks names first world rest)
  where
    by : (b : Bool) → bytes_eq part.name first.name ≡ b → is_among (names_in (part ∷ rest)) first.name ≡ false
        → (is_among (names_in rest) first.name ≡ false → AllByRecursion (Marks names world) rest → AllByRecursion (Marks names (first ∷ world)) rest) → AllByRecursion (Marks names (first ∷ world)) (part ∷ rest)
    by true is none more = absurd (cc)
    by false is none more = (skips part.name first (filter (is_made names) world) (is_made names first) (other_name part.name first.name is) ∙ each.0, more (cc) each.1)

pub marks : (names : List (List ℕ)) (world : World) → AreDistinct (names_in world) → AllByRecursion (Marks names world) world
marks names [] distinct = tt
marks names (part ∷ world) distinct = (
  first_marks names part world (own_of_none names part.name world distinct.0),
  behind_marks names part world world distinct.0 (marks names world distinct.1),
)

-- the changes of bays in front of others
pub makings-append : (names : List (List ℕ)) (world others : World) → makings names (world ++ others) ≡ makings names world ++ makings names others
makings-append names [] others = refl
makings-append names (part ∷ world) others = by (is_made names part) (makings-append names world others)
  where
    by : (made : Bool) → makings names (world ++ others) ≡ makings names world ++ makings names others
        → all_made (these made part (filter (is_made names) (world ++ others))) ≡ all_made (these made part (filter (is_made names) world)) ++ makings names others
    by true rest = ap (λ (changes : List Placed). at part.name Made ∷ changes) rest
    by false rest = rest

pub first_makings : (names : List (List ℕ)) (world others : World) → take (length (makings names world)) (makings names (world ++ others)) ≡ makings names world
first_makings names world others = ap (take (length (makings names world))) (makings-append names world others) ∙ take-append_seam (makings names world) (makings names others)

-- and with the next one, which is to be made
pub next_makings : (names : List (List ℕ)) (world : World) (part : Part) (others : World) → is_made names part ≡ true
    → take (length (makings names world) + 1) (makings names (world ++ part ∷ others)) ≡ makings names world ++ at part.name Made ∷ []
next_makings names world part others made =
    ap (take (length (makings names world) + 1)) (makings-append names world (part ∷ others) ∙ (ap (λ (b : Bool). makings names world ++ all_made (these b part (filter (is_made names) others))) made
    ∙ sym (joined (makings names world) (at part.name Made) (makings names others))))
    ∙ (ap (λ (n : ℕ). take n ((makings names world ++ at part.name Made ∷ []) ++ makings names others)) (sym (length-append (makings names world) (at part.name Made ∷ [])))
    ∙ take-append_seam (makings names world ++ at part.name Made ∷ []) (makings names others))
  where
    joined : (xs : List Placed) (x : Placed) (ys : List Placed) → (xs ++ x ∷ []) ++ ys ≡ xs ++ x ∷ ys
    joined [] x ys = refl
    joined (y ∷ xs) x ys = ap (λ (zs : List Placed). y ∷ zs) (joined xs x ys)

abbrev is_own : List ℕ → Placed → Bool
is_own name placed = bytes_eq placed.bay name

abbrev change_of : Placed → Change
change_of placed = placed.change

own-append : (name : List ℕ) (changes others : List Placed) → own name changes ≡ [] → own name (changes ++ others) ≡ own name others
own-append name [] others none = refl
own-append name (placed ∷ changes) others none = by (bytes_eq placed.bay name) none (own-append name changes others)
  where
    by : (b : Bool) → map change_of (cond b (placed ∷ filter (is_own name) changes) (filter (is_own name) changes)) ≡ [] → (own name changes ≡ [] → own name (changes ++ others) ≡ own name others)
        → map change_of (cond b (placed ∷ filter (is_own name) (changes ++ others)) (filter (is_own name) (changes ++ others))) ≡ own name others
    by true some rest = absurd (cc)
    by false none rest = rest none

-- it is then the change of this bay
pub own_next : (names : List (List ℕ)) (world : World) (part : Part) (others : World) → is_made names part ≡ true → is_among (names_in world) part.name ≡ false
    → own part.name (take (length (makings names world) + 1) (makings names (world ++ part ∷ others))) ≡ Made ∷ []
own_next names world part others made other =
    ap (own part.name) (next_makings names world part others made)
    ∙ (own-append part.name (makings names world) (at part.name Made ∷ []) (own_of_none names part.name world other) ∙ counts_one part.name part [] (same_name part.name))

-- how many there are with one bay more
pub count_more : (names : List (List ℕ)) (world : World) (part : Part) (made : Bool) → is_made names part ≡ made → length (makings names (world ++ part ∷ [])) ≡ cond made (length (makings names world) + 1) (length (makings names world))
count_more names world part made is =
    ap length (makings-append names world (part ∷ []) ∙ ap (λ (b : Bool). makings names world ++ all_made (these b part [])) is) ∙ by made
  where
    by : (b : Bool) → length (makings names world ++ all_made (these b part [])) ≡ cond b (length (makings names world) + 1) (length (makings names world))
    by true = length-append (makings names world) (at part.name Made ∷ [])
    by false = length-append (makings names world) [] ∙ let e : length (makings names world) + 0 ≡ length (makings names world) = omega arith in e

-- names of bays in front of others

none_front : (name : List ℕ) (world others : World) → is_among (names_in (world ++ others)) name ≡ false → is_among (names_in world) name ≡ false
none_front name [] others none = refl
none_front name (part ∷ world) others none = by (bytes_eq part.name name) refl none (none_front name world others)
  where
    by : (b : Bool) → bytes_eq part.name name ≡ b → is_among (names_in (part ∷ (world ++ others))) name ≡ false
        → (is_among (names_in (world ++ others)) name ≡ false → is_among (names_in world) name ≡ false) → is_among (names_in (part ∷ world)) name ≡ false
    by true is none rest = absurd (cc)
    by false is none rest = ap (λ (b : Bool). b || is_among (names_in world) name) is ∙ rest (cc)

pub distinct_front : (world others : World) → AreDistinct (names_in (world ++ others)) → AreDistinct (names_in world)
distinct_front [] others distinct = tt
distinct_front (part ∷ world) others distinct = (none_front part.name world others distinct.0, distinct_front world others distinct.1)

-- the names behind are none of those in front
abbrev IsBehind : World → Part → Type 0
IsBehind world part = is_among (names_in world) part.name ≡ false

each_differs : (name : List ℕ) (others : World) → is_among (names_in others) name ≡ false → AllByRecursion (λ (part : Part). bytes_eq part.name name ≡ false) others
each_differs name [] none = tt
each_differs name (part ∷ others) none = by (bytes_eq part.name name) refl none (each_differs name others)
  where
    by : (b : Bool) → bytes_eq part.name name ≡ b → is_among (names_in (part ∷ others)) name ≡ false
        → (is_among (names_in others) name ≡ false → AllByRecursion (λ (part : Part). bytes_eq part.name name ≡ false) others) → AllByRecursion (λ (part : Part). bytes_eq part.name name ≡ false) (part ∷ others)
    by true is none rest = absurd (cc)
    by false is none rest = (is, rest (cc))

none_behind : (name : List ℕ) (world others : World) → is_among (names_in (world ++ others)) name ≡ false → is_among (names_in others) name ≡ false
none_behind name [] others none = none
none_behind name (part ∷ world) others none = none_behind name world others (by (bytes_eq part.name name) none)
  where
    by : (b : Bool) → (b || is_among (names_in (world ++ others)) name) ≡ false → is_among (names_in (world ++ others)) name ≡ false
    by true some = absurd (cc)
    by false none = none

behind_one : (part : Part) (world others : World) → AllByRecursion (λ (other : Part). bytes_eq other.name part.name ≡ false) others → AllByRecursion (IsBehind world) others → AllByRecursion (IsBehind (part ∷ world)) others
behind_one part world [] differ behind = tt
behind_one part world (other ∷ others) differ behind = (
  ap (λ (b : Bool). b || is_among (names_in world) other.name) (other_name other.name part.name differ.0) ∙ behind.0,
  behind_one part world others differ.1 behind.1,
)

behind_none : (others : World) → AllByRecursion (IsBehind []) others
behind_none [] = tt
behind_none (part ∷ others) = (refl, behind_none others)

pub behind_front : (world others : World) → AreDistinct (names_in (world ++ others)) → AllByRecursion (λ (part : Part). is_among (names_in world) part.name ≡ false) others
behind_front [] others distinct = behind_none others
behind_front (part ∷ world) others distinct = behind_one part world others (each_differs part.name others (none_behind part.name world others distinct.0)) (behind_front world others distinct.1)

-- tests that agree find the same
pub find-same : {X : Type 0} (p q : X → Bool) (xs : List X) → ((x : X) → p x ≡ q x) → find p xs ≡ find q xs
find-same p q [] same = refl
find-same p q (x ∷ xs) same = ap (λ (b : Bool). cond b (Some x) (find p xs)) (same x) ∙ ap (λ o. cond (q x) (Some x) o) (find-same p q xs same)
