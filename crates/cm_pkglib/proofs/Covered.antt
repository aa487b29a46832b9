-- The greatest version of each package, as versions are opened.
use Rattle.std.proofs.Common.{◌≡◌, inl, inr, ℕ, ◌≤◌, max, Bool, true, false, List, [], ◌∷◌, ◌++◌, refl, sym, ◌∙◌, ap, subst, arith, Option, None, Some, cond, option_map}
use Rattle.std.specs.List.{AllByRecursion, find}
use Rattle.std.specs.Str.{bytes_eq}
use Rattle.std.specs.Ordering.{nat_cmp}
use Rattle.std.specs.Cmp.Lexicographic.{slice_cmp}
use Rattle.std.proofs.lemmas.Cmp.{nat_list_cmp_total}
use Rattle.std.specs.declared.cmp.Ordering.TheVariants.{Less}
use Rattle.std.proofs.lemmas.Option.{same_Some, none-some}
use Rattle.std.proofs.lemmas.Slice.Eq.{bytes_eq-Decides}
use Rattle.cm_pkglib.specs.Rows.{last_of, with_last}
use Rattle.cm_pkglib.specs.Valid.{LastsRise}
use Rattle.cm_pkglib.proofs.Among.{All-map, find_none, find_middle}
use Rattle.cm_pkglib.proofs.Halves.{splits, none_between}
use Rattle.cm_pkglib.proofs.Changed.{of_package, with_last_new, with_last_old}

abbrev Last : Type 0
Last = List ℕ × ℕ

-- a package's greatest version is at least this
abbrev HasLast : List Last → List ℕ → ℕ → Type 0
HasLast lasts id version = (last : ℕ) × (last_of id lasts ≡ Some last) × (version ≤ last)

-- behind one more in front
past : (p : List ℕ) (version : ℕ) (x : Last) (xs ys : List Last) → (HasLast xs p version → HasLast ys p version) → HasLast (x ∷ xs) p version → HasLast (x ∷ ys) p version
past p version x xs ys rest h = by (bytes_eq x.0 p) refl
  where
    by : (b : Bool) → bytes_eq x.0 p ≡ b → HasLast (x ∷ ys) p version
    by true is = (
      h.0,
      ap (λ (b : Bool). option_map (λ (l : Last). l.1) (cond b (Some x) (find (λ (l : Last). bytes_eq l.0 p) ys))) is
          ∙ sym (ap (λ (b : Bool). option_map (λ (l : Last). l.1) (cond b (Some x) (find (λ (l : Last). bytes_eq l.0 p) xs))) is) ∙ h.1,
      h.2,
    )
    by false is =
        let r = rest (h.0, sym (ap (λ (b : Bool). option_map (λ (l : Last). l.1) (cond b (Some x) (find (λ (l : Last). bytes_eq l.0 p) xs))) is) ∙ h.1, h.2) in
        (r.0, ap (λ (b : Bool). option_map (λ (l : Last). l.1) (cond b (Some x) (find (λ (l : Last). bytes_eq l.0 p) ys))) is ∙ r.1, r.2)

-- a greater version in place of one
raised : (p : List ℕ) (version new : ℕ) (front : List Last) (old : Last) (back : List Last) → old.1 ≤ new → HasLast (front ++ old ∷ back) p version → HasLast (front ++ (old.0, new) ∷ back) p version
raised p version new [] old back le h = by (bytes_eq old.0 p) refl
  where
    by : (b : Bool) → bytes_eq old.0 p ≡ b → HasLast ((old.0, new) ∷ back) p version
    by true is =
        let there : Some old.1 ≡ Some h.0 = sym (ap (λ (b : Bool). option_map (λ (l : Last). l.1) (cond b (Some old) (find (λ (l : Last). bytes_eq l.0 p) back))) is) ∙ h.1 in
        let last : old.1 ≡ h.0 = same_Some old.1 h.0 there in
        let within : version ≤ h.0 = h.2 in
        (new, ap (λ (b : Bool). option_map (λ (l : Last). l.1) (cond b (let l : Last = (old.0, new) in Some l) (find (λ (l : Last). bytes_eq l.0 p) back))) is, omega arith)
    by false is = (
      h.0,
      ap (λ (b : Bool). option_map (λ (l : Last). l.1) (cond b (let l : Last = (old.0, new) in Some l) (find (λ (l : Last). bytes_eq l.0 p) back))) is
          ∙ sym (ap (λ (b : Bool). option_map (λ (l : Last). l.1) (cond b (Some old) (find (λ (l : Last). bytes_eq l.0 p) back))) is) ∙ h.1,
      h.2,
    )
raised p version new (x ∷ front) old back le h = past p version x (front ++ old ∷ back) (front ++ (old.0, new) ∷ back) (raised p version new front old back le) h

-- the first one of a package
joined : (p id : List ℕ) (version new : ℕ) (front back : List Last) → AllByRecursion (λ (l : Last). bytes_eq l.0 id ≡ false) (front ++ back) → HasLast (front ++ back) p version → HasLast (front ++ (id, new) ∷ back) p version
joined p id version new [] back others h = by (bytes_eq id p) refl
  where
    by : (b : Bool) → bytes_eq id p ≡ b → HasLast ((id, new) ∷ back) p version
    by true is =
        let same : id ≡ p = (bytes_eq-Decides id p).0 is in
        let none : last_of id back ≡ None = ap (λ (o : Option Last). option_map (λ (l : Last). l.1) o) (find_none (λ (l : Last). bytes_eq l.0 id) back others) in
        let there : last_of p back ≡ Some h.0 = h.1 in
        let moved : last_of id back ≡ last_of p back = ap (λ (q : List ℕ). last_of q back) same in
        let clash : None ≡ Some h.0 = sym none ∙ moved ∙ there in
        absurd (none-some h.0 clash)
    by false is = (h.0, ap (λ (b : Bool). option_map (λ (l : Last). l.1) (cond b (let l : Last = (id, new) in Some l) (find (λ (l : Last). bytes_eq l.0 p) back))) is ∙ h.1, h.2)
joined p id version new (x ∷ front) back others h = past p version x (front ++ back) (front ++ (id, new) ∷ back) (joined p id version new front back others.1) h

max_left : (a b : ℕ) → a ≤ max a b
max_left a b = omega arith

max_right : (a b : ℕ) → b ≤ max a b
max_right a b = omega arith

abbrev is_last : List ℕ → Last → Bool
is_last id l = bytes_eq l.0 id

-- once a further version was opened, each package has a last that is at least as great
pub covered_still : (id : List ℕ) (new : ℕ) (lasts : List Last) → LastsRise lasts → (p : List ℕ) (version : ℕ) → HasLast lasts p version → HasLast (with_last id new lasts) p version
covered_still id new lasts rise p version h =
    elim (splits (λ (l : Last). l.0) nat_list_cmp_total id lasts rise) [
      | inl s ↦
          let is : with_last id new lasts ≡ s.front ++ (id, new) ∷ s.back = ap (λ t. with_last id new t) s.is ∙ with_last_new id new s.front s.back s.between in
          subst (λ (l : List Last). HasLast l p version) (sym is)
          (joined p id version new s.front s.back (none_between (is_last id) (λ (l : Last). slice_cmp nat_cmp l.0 id) (of_package id) s.front s.back s.between) (subst (λ (l : List Last). HasLast l p version) s.is h))
      | inr s ↦
          let is : with_last id new lasts ≡ s.front ++ (s.row.0, max s.row.1 new) ∷ s.back = ap (λ t. with_last id new t) s.is ∙ with_last_old id new s.front s.row s.back s.between.before s.equal in
          subst (λ (l : List Last). HasLast l p version) (sym is)
          (raised p version (max s.row.1 new) s.front s.row s.back (max_left s.row.1 new) (subst (λ (l : List Last). HasLast l p version) s.is h))
    ]

-- the version that was opened
pub covered_now : (id : List ℕ) (new : ℕ) (lasts : List Last) → LastsRise lasts → HasLast (with_last id new lasts) id new
covered_now id new lasts rise =
    elim (splits (λ (l : Last). l.0) nat_list_cmp_total id lasts rise) [
      | inl s ↦
          let is : with_last id new lasts ≡ s.front ++ (id, new) ∷ s.back = ap (λ t. with_last id new t) s.is ∙ with_last_new id new s.front s.back s.between in
          let before = All-map (λ (l : Last). slice_cmp nat_cmp l.0 id ≡ Less) (λ (l : Last). is_last id l ≡ false) (λ l e. of_package id l ∙ rw e) s.front s.between.before in
          (new, ap (λ (l : List Last). last_of id l) is ∙ ap (λ (o : Option Last). option_map (λ (l : Last). l.1) o) (find_middle (is_last id) s.front (id, new) s.back before ((bytes_eq-Decides id id).1 refl)), omega arith)
      | inr s ↦
          let is : with_last id new lasts ≡ s.front ++ (s.row.0, max s.row.1 new) ∷ s.back = ap (λ t. with_last id new t) s.is ∙ with_last_old id new s.front s.row s.back s.between.before s.equal in
          let before = All-map (λ (l : Last). slice_cmp nat_cmp l.0 id ≡ Less) (λ (l : Last). is_last id l ≡ false) (λ l e. of_package id l ∙ rw e) s.front s.between.before in
          (max s.row.1 new, ap (λ (l : List Last). last_of id l) is ∙ ap (λ (o : Option Last). option_map (λ (l : Last). l.1) o) (find_middle (is_last id) s.front (s.row.0, max s.row.1 new) s.back before (of_package id s.row ∙ rw (s.equal))), max_right s.row.1 new)
    ]
