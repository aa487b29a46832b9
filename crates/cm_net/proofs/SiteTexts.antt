-- Where a text leaves the grammar of names.
use Rattle.std.proofs.Common.{◌≡◌, ℕ, ◌+◌, ◌<◌, ◌≤◌, Bool, true, false, cond, leb, ◌&&◌, List, [], ◌∷◌, ◌++◌, length, map, take, get_or, Some, None, refl, sym, ◌∙◌, subst, arith, length-append, length-take-le, take_all, zero, suc, inl, inr}
use Rattle.std.specs.List.{list_all}
use Rattle.std.proofs.lemmas.List.{take_more, append-nil, map-append, length-map}
use Rattle.std.proofs.lemmas.Bool.{cases_lt, and_parts, le-leb, lt-leb, leb-true, ne_eqb}
use Rattle.cm_base.specs.Names.{name_of, fold_byte, is_upper, is_name_byte, is_folded_name}
use Rattle.cm_net.specs.Texts.{IsFront, LeavesAt}
use Rattle.cm_net.specs.Written.{IsSite}

-- each byte is one of a name, once it is folded
abbrev pub AreNameBytes : List ℕ → Type 0
AreNameBytes text = list_all is_name_byte (map fold_byte text) ≡ true

test_name : (text name : List ℕ) (good : Bool) → is_folded_name (map fold_byte text) ≡ good → cond good (Some (map fold_byte text)) None ≡ Some name → AreNameBytes text × (length text ≤ 63)
test_name text name true is some =
    let outer = and_parts (leb 1 (length (map fold_byte text)) && leb (length (map fold_byte text)) 63) (list_all is_name_byte (map fold_byte text)) is in
    let inner = and_parts (leb 1 (length (map fold_byte text))) (leb (length (map fold_byte text)) 63) outer.0 in
    (outer.1, omega (arith, leb-true (length (map fold_byte text)) 63 inner.1, length-map text fold_byte))
test_name text name false is some = let none : None ≡ Some name = some in cc

name_bytes : (text name : List ℕ) → IsSite text name → AreNameBytes text × (length text ≤ 63)
name_bytes text name is = test_name text name (is_folded_name (map fold_byte text)) refl is

is_name : (text : List ℕ) → 1 ≤ length text → length text ≤ 63 → AreNameBytes text → IsSite text (map fold_byte text)
is_name text some few all =
    rw (le-leb 1 (length (map fold_byte text)) (omega (arith, some, length-map text fold_byte)), le-leb (length (map fold_byte text)) 63 (omega (arith, few, length-map text fold_byte)), all) refl

name_front : (text : List ℕ) → length text ≤ 63 → AreNameBytes text → IsFront IsSite text
name_front [] few all = (97 ∷ [], 97 ∷ [], refl)
name_front (b ∷ text) few all = ([], map fold_byte (b ∷ text), subst (λ (t : List ℕ). IsSite t (map fold_byte (b ∷ text))) (sym (append-nil (b ∷ text))) (is_name (b ∷ text) (omega arith) few all))

list_all-append : (p : ℕ → Bool) (xs ys : List ℕ) → list_all p (xs ++ ys) ≡ true → list_all p xs ≡ true
list_all-append p [] ys all = refl
list_all-append p (x ∷ xs) ys all =
    let parts = and_parts (p x) (list_all p (xs ++ ys)) all in
    rw (parts.0, list_all-append p xs ys parts.1) refl

list_all-last : (p : ℕ → Bool) (xs : List ℕ) (y : ℕ) → list_all p (xs ++ y ∷ []) ≡ true → p y ≡ true
list_all-last p [] y all = (and_parts (p y) true all).0
list_all-last p (x ∷ xs) y all = list_all-last p xs y (and_parts (p x) (list_all p (xs ++ y ∷ [])) all).1

bytes_front : (xs ys : List ℕ) → AreNameBytes (xs ++ ys) → AreNameBytes xs
bytes_front xs ys all = list_all-append is_name_byte (map fold_byte xs) (map fold_byte ys) (rw (map-append fold_byte xs ys) at all)

bytes_last : (xs : List ℕ) (y : ℕ) → AreNameBytes (xs ++ y ∷ []) → is_name_byte (fold_byte y) ≡ true
bytes_last xs y all = list_all-last is_name_byte (map fold_byte xs) (fold_byte y) (rw (map-append fold_byte xs (y ∷ [])) at all)

list_all-push : (p : ℕ → Bool) (xs : List ℕ) (y : ℕ) → list_all p xs ≡ true → p y ≡ true → list_all p (xs ++ y ∷ []) ≡ true
list_all-push p [] y all one = rw one refl
list_all-push p (x ∷ xs) y all one =
    let parts = and_parts (p x) (list_all p xs) all in
    rw (parts.0, list_all-push p xs y parts.1 one) refl

pub bytes_more : (text : List ℕ) (at : ℕ) → at < length text → AreNameBytes (take at text) → is_name_byte (fold_byte (get_or text at 0)) ≡ true → AreNameBytes (take (at + 1) text)
bytes_more text at below all one =
    rw (take_more text at 0 below, map-append fold_byte (take at text) (get_or text at 0 ∷ []))
    (list_all-push is_name_byte (map fold_byte (take at text)) (fold_byte (get_or text at 0)) all one)

no_name : (text name : List ℕ) → name_of text ≡ None → IsSite text name → ⊥
no_name text name none is = let both : None ≡ Some name = sym none ∙ is in cc

-- a byte that no name has
pub leaves_at_byte : (text : List ℕ) (at : ℕ) → name_of text ≡ None → at < length text → at ≤ 63 → AreNameBytes (take at text) → is_name_byte (fold_byte (get_or text at 0)) ≡ false → LeavesAt IsSite text at
leaves_at_byte text at none below few all bad = record {
  within = omega (arith, below);
  front = name_front (take at text) (omega (arith, few, below, length-take-le at text (omega (arith, below)))) all;
  longest = λ _ front.
      let bytes = (name_bytes (take (at + 1) text ++ front.0) front.1 front.2).0 in
      let last = bytes_last (take at text) (get_or text at 0) (rw (take_more text at 0 below) at (bytes_front (take (at + 1) text) front.0 bytes)) in
      let both : true ≡ false = sym last ∙ bad in cc;
  none = λ name is. no_name text name none is;
}

-- a name has at most 63 bytes
pub leaves_long : (text : List ℕ) (at : ℕ) → name_of text ≡ None → at < length text → at ≡ 63 → AreNameBytes (take at text) → LeavesAt IsSite text at
leaves_long text at none below long all = record {
  within = omega (arith, below);
  front = name_front (take at text) (omega (arith, long, below, length-take-le at text (omega (arith, below)))) all;
  longest = λ _ front.
      let few = (name_bytes (take (at + 1) text ++ front.0) front.1 front.2).1 in
      absurd (omega (arith, few, long, length-append (take (at + 1) text) front.0, length-take-le (at + 1) text (omega (arith, below))));
  none = λ name is. no_name text name none is;
}

-- nothing stands there
pub leaves_nothing : (text : List ℕ) (at : ℕ) → name_of text ≡ None → length text ≤ at → at ≤ length text → at ≤ 63 → AreNameBytes (take at text) → LeavesAt IsSite text (length text)
leaves_nothing text at none end within few all =
    let whole : take at text ≡ text = take_all at text end in
    record {
      within = omega arith;
      front = subst (λ (t : List ℕ). IsFront IsSite t) (sym (take_all (length text) text (omega arith))) (name_front text (omega (arith, few, end)) (rw whole at all));
      longest = λ below front. absurd (omega (arith, below));
      none = λ name is. no_name text name none is;
    }

name_leaves_from : (more : ℕ) (text : List ℕ) (at : ℕ) → name_of text ≡ None → at + more ≡ length text → at ≤ 63 → AreNameBytes (take at text) → (place : ℕ) × LeavesAt IsSite text place
name_leaves_from zero text at none all few bytes = (length text, leaves_nothing text at none (omega (arith, all)) (omega (arith, all)) few bytes)
name_leaves_from (suc more) text at none all few bytes =
    elim (cases_lt at 63) [
      | inl small ↦ by_byte (is_name_byte (fold_byte (get_or text at 0))) refl (λ e. name_leaves_from more text (at + 1) none (omega (arith, all)) (omega (arith, small)) (bytes_more text at (omega (arith, all)) bytes e))
      | inr long ↦ (at, leaves_long text at none (omega (arith, all)) (omega (arith, few, long)) bytes)
    ]
  where
    by_byte : (good : Bool) → is_name_byte (fold_byte (get_or text at 0)) ≡ good → (is_name_byte (fold_byte (get_or text at 0)) ≡ true → (place : ℕ) × LeavesAt IsSite text place) → (place : ℕ) × LeavesAt IsSite text place
    by_byte true e next = next e
    by_byte false e next = (at, leaves_at_byte text at none (omega (arith, all)) few bytes e)

-- a text that is no name leaves their grammar somewhere
pub name_leaves : (text : List ℕ) → name_of text ≡ None → (place : ℕ) × LeavesAt IsSite text place
name_leaves text none = name_leaves_from (length text) text 0 none (omega arith) (omega arith) (no_bytes text)
  where
    no_bytes : (text : List ℕ) → AreNameBytes (take 0 text)
    no_bytes [] = refl
    no_bytes (b ∷ text) = refl

-- ---- a name reads back

not_upper : (b : ℕ) → is_name_byte b ≡ true → fold_byte b ≡ b
not_upper b name = by_test (is_upper b) refl
  where
    by_test : (upper : Bool) → is_upper b ≡ upper → fold_byte b ≡ b
    by_test false e = rw e refl
    by_test true e =
        let both = and_parts (leb 65 b) (leb b 90) e in
        let low = leb-true 65 b both.0 in
        let high = leb-true b 90 both.1 in
        let no : is_name_byte b ≡ false = rw (lt-leb 97 b (omega (arith, high)), lt-leb b 57 (omega (arith, low)), le-leb 48 b (omega (arith, low)), ne_eqb b 45 (λ e'. omega (arith, low, e')), ne_eqb b 95 (λ e'. omega (arith, high, e')), ne_eqb b 46 (λ e'. omega (arith, low, e'))) refl in
        let clash : true ≡ false = sym name ∙ no in cc

all_same : (text : List ℕ) → list_all is_name_byte text ≡ true → map fold_byte text ≡ text
all_same [] all = refl
all_same (b ∷ text) all =
    let parts = and_parts (is_name_byte b) (list_all is_name_byte text) all in
    rw (not_upper b parts.0, all_same text parts.1) refl

pub folded_again : (name : List ℕ) → is_folded_name name ≡ true → IsSite name name
folded_again name folded =
    let all = (and_parts (leb 1 (length name) && leb (length name) 63) (list_all is_name_byte name) folded).1 in
    let same = all_same name all in
    rw (same, folded) refl
