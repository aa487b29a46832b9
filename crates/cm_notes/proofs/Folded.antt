-- A folded name is read as itself, and no other text is.
use Rattle.std.proofs.Common.{◌≡◌, ℕ, ◌+◌, ◌<◌, ◌≤◌, Bool, true, false, cond, ◌&&◌, ◌||◌, leb, List, [], ◌∷◌, map, refl, ap, sym, ◌∙◌, subst, arith, Option, Some, None}
use Rattle.std.specs.List.{list_all}
use Rattle.std.proofs.lemmas.Bool.{and_parts, leb-true, cond_both}
use Rattle.cm_base.specs.Names.{fold_byte, is_upper, is_name_byte, is_folded_name, name_of, text_if}

no_upper : (b : ℕ) → is_upper b ≡ true → is_name_byte b ≡ true → ⊥
no_upper b u h =
    let parts = and_parts _ _ u in
    let low : 65 ≤ b = leb-true 65 b parts.0 in
    let high : b ≤ 90 = leb-true b 90 parts.1 in
    grind arith

folds_to_itself : (b : ℕ) → is_name_byte b ≡ true → fold_byte b ≡ b
folds_to_itself b h =
    elim (is_upper b) as (λ u. is_upper b ≡ u → cond u (b + 32) b ≡ b) [
      | true ↦ λ u. absurd (no_upper b u h)
      | false ↦ λ u. refl
    ] refl

name_folds : (text : List ℕ) → list_all is_name_byte text ≡ true → map fold_byte text ≡ text
name_folds [] h = refl
name_folds (b ∷ text) h =
    let parts = and_parts (is_name_byte b) (list_all is_name_byte text) h in
    let first = folds_to_itself b parts.0 in
    let rest = name_folds text parts.1 in
    rw (first, rest)

folded_read : (text : List ℕ) → is_folded_name text ≡ true → name_of text ≡ Some text
folded_read text h = let e = name_folds text (and_parts _ _ h).1 in rw (e, h)

text_of : (text : List ℕ) → is_folded_name text ≡ true → text_if (is_folded_name text) text ≡ Some text
text_of text h = rw h

pub none_read : (text : List ℕ) → None ≡ name_of text → None ≡ text_if (is_folded_name text) text
none_read text e =
    elim (is_folded_name text) as (λ b. is_folded_name text ≡ b → None ≡ text_if b text) [
      | true ↦ λ t. let s = folded_read text t in absurd (cc)
      | false ↦ λ f. refl
    ] refl

read_form : (text name : List ℕ) → name_of text ≡ Some name → name ≡ text → is_folded_name text ≡ true
read_form text name e s =
    cond_both (is_folded_name (map fold_byte text)) (Some (map fold_byte text)) None (λ o. o ≡ Some name → is_folded_name text ≡ true)
    (λ t q. let m : map fold_byte text ≡ name = cc in subst (λ x. is_folded_name x ≡ true) (m ∙ s) t)
    (λ f q. absurd (cc))
    e

pub same_read : (text name : List ℕ) → Some name ≡ name_of text → name ≡ text → Some name ≡ text_if (is_folded_name text) text
same_read text name e s = ap (λ n. Some n) s ∙ sym (text_of text (read_form text name (sym e) s))

pub other_read : (text name : List ℕ) → Some name ≡ name_of text → (name ≡ text → ⊥) → None ≡ text_if (is_folded_name text) text
other_read text name e s =
    elim (is_folded_name text) as (λ b. is_folded_name text ≡ b → None ≡ text_if b text) [
      | true ↦ λ t. let r : Some name ≡ Some text = e ∙ folded_read text t in absurd (s (cc))
      | false ↦ λ f. refl
    ] refl
