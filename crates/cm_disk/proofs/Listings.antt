-- Two listings of the same files are equal.
use Rattle.std.proofs.Common.{◌≡◌, ℕ, Bool, true, false, List, [], ◌∷◌, refl, sym, ◌∙◌, ap, subst}
use Rattle.std.specs.Prelude.{◌||◌, Option, None, Some}
use Rattle.std.specs.List.{list_any}
use Rattle.std.specs.Ordering.{is_lt}
use Rattle.std.specs.Str.{bytes_eq}
use Rattle.std.proofs.lemmas.Bool.{false≢true, and_parts}
use Rattle.std.proofs.lemmas.Cmp.{nat_list_cmp_total, tied_itself}
use Rattle.std.proofs.lemmas.Slice.Eq.{bytes_eq-Decides}
use Rattle.cm_disk.specs.Disk.{Files, is_above}
use Rattle.cm_disk.specs.Walks.{rises, AreListed}
use Rattle.cm_disk.proofs.Rises.{above_above}

above_from : (after : Option (List ℕ)) (p q : List ℕ) → is_above after p ≡ true → is_above (Some p) q ≡ true → is_above after q ≡ true
above_from None p q one two = refl
above_from (Some a) p q one two = above_above a p q one two

-- an element is above where the list begins
listed_above : (after : Option (List ℕ)) (places : List (List ℕ)) (q : List ℕ) → rises after places ≡ true → list_any (bytes_eq q) places ≡ true → is_above after q ≡ true
listed_above after [] q rising among = absurd (false≢true among)
listed_above after (p ∷ places) q rising among =
    let parts = and_parts (is_above after p) (rises (Some p) places) rising in
    by parts.0 (λ behind. above_from after p q parts.0 (listed_above (Some p) places q parts.1 behind)) (bytes_eq q p) refl
  where
    by : is_above after p ≡ true → (list_any (bytes_eq q) places ≡ true → is_above after q ≡ true) → (b : Bool) → bytes_eq q p ≡ b → is_above after q ≡ true
    by above rest true same = subst (λ (x : List ℕ). is_above after x ≡ true) (sym ((bytes_eq-Decides q p).0 same)) above
    by above rest false other = rest (sym (ap (λ (b : Bool). b || list_any (bytes_eq q) places) other) ∙ among)

not_itself : (p q : List ℕ) → p ≡ q → is_above (Some p) q ≡ true → ⊥
not_itself p q same above = false≢true (sym (ap is_lt (tied_itself nat_list_cmp_total p)) ∙ subst (λ (x : List ℕ). is_above (Some p) x ≡ true) (sym same) above)

here : (p : List ℕ) (places : List (List ℕ)) → list_any (bytes_eq p) (p ∷ places) ≡ true
here p places = ap (λ (b : Bool). b || list_any (bytes_eq p) places) ((bytes_eq-Decides p p).1 refl)

same_test : (a b : Bool) → (a ≡ true → b ≡ true) → (b ≡ true → a ≡ true) → a ≡ b
same_test true b f g = sym (f refl)
same_test false true f g = absurd (false≢true (g refl))
same_test false false f g = refl

or_true : (a : Bool) → (a || true) ≡ true
or_true true = refl
or_true false = refl

-- the heads are equal
same_head : (x y : List ℕ) (a b : List (List ℕ)) → rises (Some x) a ≡ true → rises (Some y) b ≡ true → ((q : List ℕ) → list_any (bytes_eq q) (x ∷ a) ≡ list_any (bytes_eq q) (y ∷ b)) → x ≡ y
same_head x y a b rising_a rising_b all = by (bytes_eq x y) refl (bytes_eq y x) refl
  where
    by : (c : Bool) → bytes_eq x y ≡ c → (d : Bool) → bytes_eq y x ≡ d → x ≡ y
    by true same d is = (bytes_eq-Decides x y).0 same
    by false other true same = sym ((bytes_eq-Decides y x).0 same)
    by false other false also =
        let x_behind = listed_above (Some y) b x rising_b (sym (ap (λ (c : Bool). c || list_any (bytes_eq x) b) other) ∙ sym (all x) ∙ here x a) in
        let y_behind = listed_above (Some x) a y rising_a (sym (ap (λ (c : Bool). c || list_any (bytes_eq y) a) also) ∙ all y ∙ here y b) in
        absurd (not_itself x x refl (above_above x y x y_behind x_behind))

-- of what stands behind equal heads the same is told
behind : (x : List ℕ) (a b : List (List ℕ)) → rises (Some x) a ≡ true → ((q : List ℕ) → list_any (bytes_eq q) (x ∷ a) ≡ list_any (bytes_eq q) (x ∷ b)) → (q : List ℕ) → list_any (bytes_eq q) a ≡ true → list_any (bytes_eq q) b ≡ true
behind x a b rising all q among = by (bytes_eq q x) refl
  where
    by : (c : Bool) → bytes_eq q x ≡ c → list_any (bytes_eq q) b ≡ true
    by true same = absurd (not_itself x q (sym ((bytes_eq-Decides q x).0 same)) (listed_above (Some x) a q rising among))
    by false other = sym (ap (λ (c : Bool). c || list_any (bytes_eq q) b) other) ∙ sym (all q) ∙ ap (λ (c : Bool). bytes_eq q x || c) among ∙ or_true (bytes_eq q x)

same_listing : (after : Option (List ℕ)) (a b : List (List ℕ)) → rises after a ≡ true → rises after b ≡ true → ((q : List ℕ) → list_any (bytes_eq q) a ≡ list_any (bytes_eq q) b) → a ≡ b
same_listing after [] [] rising_a rising_b all = refl
same_listing after [] (y ∷ b) rising_a rising_b all = absurd (false≢true (all y ∙ here y b))
same_listing after (x ∷ a) [] rising_a rising_b all = absurd (false≢true (sym (all x) ∙ here x a))
same_listing after (x ∷ a) (y ∷ b) rising_a rising_b all =
    let one = and_parts (is_above after x) (rises (Some x) a) rising_a in
    let two = and_parts (is_above after y) (rises (Some y) b) rising_b in
    let head = same_head x y a b one.1 two.1 all in
    let rising = subst (λ (p : List ℕ). rises (Some p) b ≡ true) (sym head) two.1 in
    let as_one = subst (λ (p : List ℕ). (q : List ℕ) → list_any (bytes_eq q) (x ∷ a) ≡ list_any (bytes_eq q) (p ∷ b)) (sym head) all in
    let rest = same_listing (Some x) a b one.1 rising (λ q. same_test (list_any (bytes_eq q) a) (list_any (bytes_eq q) b) (behind x a b one.1 as_one q) (behind x b a rising (λ q. sym (as_one q)) q)) in
    ap (λ (l : List (List ℕ)). x ∷ l) rest ∙ ap (λ (p : List ℕ). p ∷ b) head

pub one_listing : (files : Files) (a b : List (List ℕ)) → AreListed files a → AreListed files b → a ≡ b
one_listing files a b one two = same_listing None a b one.rising two.rising (λ q. sym (one.all q) ∙ two.all q)
