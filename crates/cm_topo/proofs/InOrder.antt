-- What holds of values read in order, and of what is wrong with them.
use Rattle.std.proofs.Common.{◌≡◌, ◌≢◌, ◌≤◌, ◌<◌, ◌+◌, ℕ, refl, arith, All, Bool, true, false, List, [], ◌∷◌, length, Option, Some, None, IfSome, Result, Ok, Err, cond, leb}
use Rattle.std.specs.Option.{ok_or}
use Rattle.std.specs.Result.{MatchResult}
use Rattle.std.proofs.lemmas.Bool.{leb-false, cases_Bool}
use Rattle.std.proofs.lemmas.List.Elements.{All-nil, All-cons}
use Rattle.std.proofs.lemmas.Result.{MatchResult-weaker}
use Rattle.toml.specs.Data.{Data, Items, as_array}
use Rattle.cm_topo.specs.declared.trouble.Placed.{Placed}
use Rattle.cm_topo.specs.declared.trouble.Trouble.{Trouble}
use Rattle.cm_topo.specs.declared.trouble.Trouble.TheVariants.{Shape, Broken, Memory}
use Rattle.cm_topo.specs.Entries.{array_rows, before_rows, entry_said, is_full, list_of, list_said, rows_from, rows_said}
use Rattle.cm_topo.specs.Keys.{formed, needed, otherwise, perhaps}
use Rattle.cm_topo.specs.Rows.{alone, part_said}
use Rattle.cm_topo.specs.Rules.{too_many}
use Rattle.cm_topo.specs.Troubles.{fault_at, in_order2, in_order3, in_order4, result_and_then, result_map, result_map_err}

-- what a value says holds, or something is wrong with it other than want of memory
abbrev pub Gives : {X : Type 0} → (X → Type 0) → Result X Trouble → Type 0
Gives P said = MatchResult said P (λ trouble. trouble ≢ Memory)

abbrev pub GivesPlaced : {X : Type 0} → (X → Type 0) → Result X Placed → Type 0
GivesPlaced P said = MatchResult said P (λ placed. placed.trouble ≢ Memory)

-- nothing is said of it
abbrev pub IsAny : {X : Type 0} → X → Type 0
IsAny x = Unit {0}

shape : Shape ≢ Memory
shape e = cc

broken : (rule : ℕ) → Broken rule ≢ Memory
broken rule e = cc

pub mapped : {X Y E : Type 0} (P : X → Type 0) (Q : Y → Type 0) (N : E → Type 0) (f : X → Y) (said : Result X E) → ((x : X) → P x → Q (f x)) → MatchResult said P N → MatchResult (result_map f said) Q N
mapped P Q N f (Ok x) each is = each x is
mapped P Q N f (Err e) each is = is

pub mapped_err : {X E F : Type 0} (P : X → Type 0) (N : E → Type 0) (M : F → Type 0) (f : E → F) (said : Result X E) → ((e : E) → N e → M (f e)) → MatchResult said P N → MatchResult (result_map_err f said) P M
mapped_err P N M f (Ok x) each is = is
mapped_err P N M f (Err e) each is = each e is

pub and_then : {X Y E : Type 0} (P : X → Type 0) (Q : Y → Type 0) (N : E → Type 0) (said : Result X E) (f : X → Result Y E) → ((x : X) → P x → MatchResult (f x) Q N) → MatchResult said P N → MatchResult (result_and_then said f) Q N
and_then P Q N (Ok x) f each is = each x is
and_then P Q N (Err e) f each is = is

pub order2 : {A B X E : Type 0} (P : A → Type 0) (Q : B → Type 0) (R : X → Type 0) (N : E → Type 0) (f : A → B → X) (a : Result A E) (b : Result B E)
    → ((x : A) (y : B) → P x → Q y → R (f x y)) → MatchResult a P N → MatchResult b Q N → MatchResult (in_order2 f a b) R N
order2 P Q R N f (Ok x) b made p q = mapped Q R N (f x) b (λ y fit. made x y p fit) q
order2 P Q R N f (Err e) b made p q = p

pub order3 : {A B C X E : Type 0} (P : A → Type 0) (Q : B → Type 0) (S : C → Type 0) (R : X → Type 0) (N : E → Type 0) (f : A → B → C → X) (a : Result A E) (b : Result B E) (c : Result C E)
    → ((x : A) (y : B) (z : C) → P x → Q y → S z → R (f x y z)) → MatchResult a P N → MatchResult b Q N → MatchResult c S N → MatchResult (in_order3 f a b c) R N
order3 P Q S R N f (Ok x) b c made p q s = order2 Q S R N (f x) b c (λ y z. made x y z p) q s
order3 P Q S R N f (Err e) b c made p q s = p

pub order4 : {A B C D X E : Type 0} (P : A → Type 0) (Q : B → Type 0) (S : C → Type 0) (T : D → Type 0) (R : X → Type 0) (N : E → Type 0) (f : A → B → C → D → X) (a : Result A E) (b : Result B E) (c : Result C E) (d : Result D E)
    → ((x : A) (y : B) (z : C) (w : D) → P x → Q y → S z → T w → R (f x y z w)) → MatchResult a P N → MatchResult b Q N → MatchResult c S N → MatchResult d T N → MatchResult (in_order4 f a b c d) R N
order4 P Q S T R N f (Ok x) b c d made p q s t = order3 Q S T R N (f x) b c d (λ y z w. made x y z w p) q s t
order4 P Q S T R N f (Err e) b c d made p q s t = p

pub gives_or : {X : Type 0} (P : X → Type 0) (found : Option X) (trouble : Trouble) → ((x : X) → found ≡ Some x → P x) → trouble ≢ Memory → Gives P (ok_or found trouble)
gives_or P None trouble each other = other
gives_or P (Some x) trouble each other = each x refl

pub gives_formed : {X : Type 0} (P : X → Type 0) (rule : ℕ) (form : List ℕ → Option X) → ((text : List ℕ) (x : X) → form text ≡ Some x → P x) → (text : Option (List ℕ)) → Gives P (formed rule form text)
gives_formed P rule form each None = shape
gives_formed P rule form each (Some text) = gives_or P (form text) (Broken rule) (each text) (broken rule)

pub gives_needed : {X : Type 0} (P : X → Type 0) (said : Data → Result X Trouble) → ((d : Data) → Gives P (said d)) → (value : Option Data) → Gives P (needed said value)
gives_needed P said each None = shape
gives_needed P said each (Some value) = each value

pub gives_otherwise : {X : Type 0} (P : X → Type 0) (absent : X) (said : Data → Result X Trouble) → P absent → ((d : Data) → Gives P (said d)) → (value : Option Data) → Gives P (otherwise absent said value)
gives_otherwise P absent said is each None = is
gives_otherwise P absent said is each (Some value) = each value

pub gives_perhaps : {X : Type 0} (P : X → Type 0) (said : Data → Result X Trouble) → ((d : Data) → Gives P (said d)) → (value : Option Data) → Gives IsAny (perhaps said value)
gives_perhaps P said each None = tt
gives_perhaps {X} P said each (Some value) = mapped P IsAny (λ trouble. trouble ≢ Memory) (λ (x : X). Some x) (said value) (λ x is. tt) (each value)

-- rows of which each is fit, and of which the first has this number, within a limit
abbrev pub AreFit : {X : Type 0} → (X → Type 0) → Option ℕ → ℕ → List X → Type 0
AreFit P limit entry xs = All P xs × IfSome limit (λ most. entry ≤ most → entry + length xs ≤ most)

few_more : {X : Type 0} (limit : Option ℕ) (entry : ℕ) (x : X) (xs : List X) → IfSome limit (λ most. entry < most) → IfSome limit (λ most. entry + 1 ≤ most → entry + 1 + length xs ≤ most)
    → IfSome limit (λ most. entry ≤ most → entry + length (x ∷ xs) ≤ most)
few_more None entry x xs below few = tt
few_more (Some most) entry x xs below few = λ le. let next : entry + 1 ≤ most = omega arith in omega (arith, few next)

few_none : (limit : Option ℕ) (entry : ℕ) → IfSome limit (λ most. entry ≤ most → entry + 0 ≤ most)
few_none None entry = tt
few_none (Some most) entry = λ le. omega arith

gives_below : {X : Type 0} (P : X → Type 0) (said : Result X Trouble) (most entry : ℕ) (full : Bool) → (full ≡ false → entry < most) → Gives P said
    → Gives (λ x. P x × (entry < most)) (cond full (Err (Broken too_many)) said)
gives_below P said most entry true below is = broken too_many
gives_below P said most entry false below is = MatchResult-weaker said is (λ x fit. (fit, below refl)) (λ trouble other. other)

pub gives_entry : {X : Type 0} (P : X → Type 0) (said : Data → Result X Trouble) (limit : Option ℕ) (entry : ℕ) (d : Data) → Gives P (said d) → Gives (λ x. P x × IfSome limit (λ most. entry < most)) (entry_said said limit entry d)
gives_entry P said None entry d is = MatchResult-weaker (said d) is (λ x fit. (fit, tt)) (λ trouble other. other)
gives_entry P said (Some most) entry d is = gives_below P (said d) most entry (leb most entry) (leb-false most entry) is

gives_before : {X : Type 0} (P : X → Type 0) (limit : Option ℕ) (entry : ℕ) (first : Result X Trouble) (later : Result (List X) (ℕ × Trouble))
    → Gives (λ x. P x × IfSome limit (λ most. entry < most)) first
    → MatchResult later (AreFit P limit (entry + 1)) (λ wrong. wrong.1 ≢ Memory)
    → MatchResult (before_rows entry first later) (AreFit P limit entry) (λ wrong. wrong.1 ≢ Memory)
gives_before P limit entry (Ok x) (Ok xs) is are = (All-cons P x xs is.0 are.0, few_more limit entry x xs is.1 are.1)
gives_before P limit entry (Ok x) (Err wrong) is are = are
gives_before P limit entry (Err trouble) later is are = is

pub gives_from : {X : Type 0} (P : X → Type 0) (said : Data → Result X Trouble) (limit : Option ℕ) → ((d : Data) → Gives P (said d)) → (entry : ℕ) (ds : List Data)
    → MatchResult (rows_from said limit entry ds) (AreFit P limit entry) (λ wrong. wrong.1 ≢ Memory)
gives_from P said limit each entry [] = (All-nil P, few_none limit entry)
gives_from P said limit each entry (d ∷ ds) =
    gives_before P limit entry (entry_said said limit entry d) (rows_from said limit (entry + 1) ds) (gives_entry P said limit entry d (each d)) (gives_from P said limit each (entry + 1) ds)

gives_array : {X : Type 0} (P : X → Type 0) (said : Data → Result X Trouble) (limit : Option ℕ) → ((d : Data) → Gives P (said d)) → (items : Option Items)
    → MatchResult (array_rows said limit items) (AreFit P limit 0) (λ wrong. wrong.1 ≢ Memory)
gives_array P said limit each None = shape
gives_array P said limit each (Some items) = gives_from P said limit each 0 (list_of items)

pub gives_rows : {X : Type 0} (P : X → Type 0) (said : Data → Result X Trouble) (limit : Option ℕ) → ((d : Data) → Gives P (said d)) → (value : Option Data)
    → MatchResult (rows_said said limit value) (AreFit P limit 0) (λ wrong. wrong.1 ≢ Memory)
gives_rows P said limit each None = (All-nil P, few_none limit 0)
gives_rows P said limit each (Some value) = gives_array P said limit each (as_array value)

pub gives_list : {X : Type 0} (P : X → Type 0) (said : Data → Result X Trouble) (limit : Option ℕ) → ((d : Data) → Gives P (said d)) → (value : Option Data) → Gives IsAny (list_said said limit value)
gives_list {X} P said limit each value =
    MatchResult-weaker (list_said said limit value)
    (mapped_err (AreFit P limit 0) (λ (wrong : ℕ × Trouble). wrong.1 ≢ Memory) (λ (trouble : Trouble). trouble ≢ Memory) (λ (wrong : ℕ × Trouble). wrong.1) (rows_said said limit value) (λ wrong other. other) (gives_rows P said limit each value))
    (λ rows fit. tt) (λ trouble other. other)

within : (limit many : ℕ) → (0 ≤ limit → 0 + many ≤ limit) → many ≤ limit
within limit many few = let none : 0 ≤ limit = omega arith in omega (arith, few none)

-- the rows of a part are fit, and no more than it may have
pub gives_part : {X : Type 0} (P : X → Type 0) (said : Data → Result X Trouble) (part limit : ℕ) → ((d : Data) → Gives P (said d)) → (value : Option Data)
    → GivesPlaced (λ rows. All P rows × (length rows ≤ limit)) (part_said said part limit value)
gives_part {X} P said part limit each value =
    MatchResult-weaker (part_said said part limit value)
    (mapped_err (AreFit P (Some limit) 0) (λ (wrong : ℕ × Trouble). wrong.1 ≢ Memory) (λ (placed : Placed). placed.trouble ≢ Memory) (λ (wrong : ℕ × Trouble). fault_at part wrong.0 wrong.1) (rows_said said (Some limit) value) (λ wrong other. other) (gives_rows P said (Some limit) each value))
    (λ rows fit. (fit.0, within limit (length rows) fit.1)) (λ placed other. other)

pub gives_alone : {X : Type 0} (P : X → Type 0) (part : ℕ) (said : Result X Trouble) → Gives P said → GivesPlaced P (alone part said)
gives_alone P part said is = mapped_err P (λ (trouble : Trouble). trouble ≢ Memory) (λ (placed : Placed). placed.trouble ≢ Memory) (fault_at part 0) said (λ trouble other. other) is
