-- What is an element of a list.
use Rattle.std.proofs.Common.{◌≡◌, ◌⊎◌, inl, inr, ℕ, zero, suc, ◌<◌, Bool, true, false, List, [], ◌∷◌, get_or, refl, sym, ◌∙◌, ap, subst, arith}
use Rattle.std.specs.Prelude.{map, Contains, ◌||◌}
use Rattle.std.specs.List.{AllByRecursion, flat_map, list_any}
use Rattle.std.proofs.lemmas.List.Elements.{Contains-append_left, Contains-append_right, Contains-append_cases}
use Rattle.std.proofs.lemmas.List.Folds.{list_any-from_Any}

pub first_member : {A : Type 0} (x : A) (xs : List A) → Contains (x ∷ xs) x
first_member x xs = (0, omega arith, refl)

pub later_member : {A : Type 0} (y : A) (xs : List A) (x : A) → Contains xs x → Contains (y ∷ xs) x
later_member y xs x c = Contains-append_right (y ∷ []) xs x c

only_member : {A : Type 0} (y x : A) (k : ℕ) → k < 1 → get_or (y ∷ []) k x ≡ x → y ≡ x
only_member y x zero lt is = is
only_member y x (suc k) lt is = absurd (omega arith)

-- the first or a later one
pub member_cases : {A : Type 0} (y : A) (ys : List A) (x : A) → Contains (y ∷ ys) x → (y ≡ x) ⊎ Contains ys x
member_cases y ys x c = elim (Contains-append_cases (y ∷ []) ys x c) [ inl d ↦ inl (only_member y x d.0 d.1 d.2) | inr d ↦ inr d ]

pub each_member : {A : Type 0} (P : A → Type 0) (xs : List A) → ((x : A) → Contains xs x → P x) → AllByRecursion P xs
each_member P [] f = tt
each_member P (x ∷ xs) f = (f x (first_member x xs), each_member P xs (λ y c. f y (later_member x xs y c)))

none_in : {A B : Type 0} (x : A) → Contains [] x → B
none_in x c = let lt : c.0 < 0 = c.1 in absurd (omega (arith, lt))

pub at_member : {A : Type 0} (P : A → Type 0) (xs : List A) → AllByRecursion P xs → (x : A) → Contains xs x → P x
at_member P [] all x c = none_in x c
at_member P (y ∷ ys) all x c = elim (member_cases y ys x c) [ inl e ↦ subst P e all.0 | inr d ↦ at_member P ys all.1 x d ]

pub map_member : {A B : Type 0} (f : A → B) (xs : List A) (x : A) → Contains xs x → Contains (map f xs) (f x)
map_member f [] x c = none_in x c
map_member f (y ∷ ys) x c = elim (member_cases y ys x c) [
  | inl e ↦ subst (λ z. Contains (f y ∷ map f ys) (f z)) e (first_member (f y) (map f ys))
  | inr d ↦ later_member (f y) (map f ys) (f x) (map_member f ys x d)
]

pub flat_member : {A B : Type 0} (f : A → List B) (xs : List A) (x : A) (b : B) → Contains xs x → Contains (f x) b → Contains (flat_map f xs) b
flat_member f [] x b c d = none_in x c
flat_member f (y ∷ ys) x b c d = elim (member_cases y ys x c) [
  | inl e ↦ Contains-append_left (f y) (flat_map f ys) b (subst (λ z. Contains (f z) b) (sym e) d)
  | inr later ↦ Contains-append_right (f y) (flat_map f ys) b (flat_member f ys x b later d)
]

pub any_member : {A : Type 0} (p : A → Bool) (xs : List A) (x : A) → Contains xs x → p x ≡ true → list_any p xs ≡ true
any_member p xs x c is = list_any-from_Any p xs (c.0, x, c.1, c.2, is)

-- an element that passes a test
pub record Passes {A : Type 0} (p : A → Bool) (xs : List A) : Type 0 where
  pub one : A
  pub among : Contains xs one
  pub is : p one ≡ true

pub passing : {A B : Type 0} (f : A → B) (p : B → Bool) (xs : List A) → list_any p (map f xs) ≡ true → Passes (λ x. p (f x)) xs
passing f p [] is = absurd (cc)
passing f p (x ∷ xs) is = by (p (f x)) refl (passing f p xs)
  where
    by : (b : Bool) → p (f x) ≡ b → (list_any p (map f xs) ≡ true → Passes (λ x. p (f x)) xs) → Passes (λ x. p (f x)) (x ∷ xs)
    by true e rest = record { one = x; among = first_member x xs; is = e }
    by false e rest =
        let later = rest (sym (ap (λ b. b || list_any p (map f xs)) e) ∙ is) in
        record { one = later.one; among = later_member x xs later.one later.among; is = later.is }
