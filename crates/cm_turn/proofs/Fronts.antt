-- Beginnings of lists.
use Rattle.std.proofs.Common.{◌≡◌, ℕ, zero, suc, ◌≤◌, ◌<◌, List, [], ◌∷◌, ◌++◌, length, drop, refl, sym, ap, ◌∙◌, arith, append_assoc, append-nil, lt_of_not-le, le_of_lt}
use Rattle.std.proofs.lemmas.Bool.{lt-ltb, le-ltb}
use mathlib.Core.Option.{some, some-injective, some-ne-none}
use mathlib.Core.Logic.{dite}
use native.Mathlib.Decide.{dec_le}
use lib.ListN.{get_elem?}
use Rattle.atomic_table.proofs.Lists.{at_longer}
use Rattle.cm_turn.specs.Lists.{IsFront, longer_of}

module _ {E : Type 0} where
  pub front_self : (l : List E) → IsFront l l
  front_self l = ([], sym (append-nil l))

  pub front_further : (a b c : List E) → IsFront a b → IsFront b c → IsFront a c
  front_further a b c p q = (p.0 ++ q.0, q.1 ∙ ap (λ (l : List E). l ++ q.0) p.1 ∙ append_assoc a p.0 q.0)

  pub front_at : (a b : List E) (i : ℕ) (e : E) → IsFront a b → get_elem? a i ≡ some e → get_elem? b i ≡ some e
  front_at a b i e p h = ap (λ (l : List E). get_elem? l i) p.1 ∙ at_longer a p.0 i e h

  pub comparable : (a b log : List E) → IsFront a log → IsFront b log → length a ≤ length b → IsFront a b
  comparable [] b log p q h = (b, refl)
  comparable (x ∷ a) [] log p q h = absurd (omega (arith, h))
  comparable (x ∷ a) (y ∷ b) [] p q h = absurd (some-ne-none x (sym (ap (λ (l : List E). get_elem? l 0) p.1)))
  comparable (x ∷ a) (y ∷ b) (z ∷ log) p q h =
      let t = comparable a b log (p.0, ap (drop 1) p.1) (q.0, ap (drop 1) q.1) (omega (arith, h)) in
      let x_is = some-injective x y (sym (ap (λ (l : List E). get_elem? l 0) p.1) ∙ ap (λ (l : List E). get_elem? l 0) q.1) in
      (t.0, ap (λ (l : List E). y ∷ l) t.1 ∙ ap (λ (e : E). e ∷ a ++ t.0) (sym x_is))

  pub longer_is : (a b log : List E) → IsFront a log → IsFront b log → IsFront a (longer_of a b) × IsFront b (longer_of a b) × IsFront (longer_of a b) log
  longer_is a b log p q = dite (dec_le (length b) (length a))
      (λ h. rw (le-ltb (length a) (length b) h) (front_self a, comparable b a log q p h, p))
      (λ n. let lt : length a < length b = lt_of_not-le n in rw (lt-ltb (length a) (length b) lt) (comparable a b log p q (le_of_lt lt), front_self b, q))

  pub same_length : (a b : List E) → IsFront a b → length b ≤ length a → b ≡ a
  same_length [] [] p h = refl
  same_length [] (y ∷ b) p h = absurd (omega (arith, h))
  same_length (x ∷ a) [] p h = absurd (some-ne-none x (sym (ap (λ (l : List E). get_elem? l 0) p.1)))
  same_length (x ∷ a) (y ∷ b) p h =
      let t = same_length a b (p.0, ap (drop 1) p.1) (omega (arith, h)) in
      let e = some-injective y x (ap (λ (l : List E). get_elem? l 0) p.1) in
      ap (λ (l : List E). y ∷ l) t ∙ ap (λ (d : E). d ∷ a) e

  pub at_short : (l : List E) (i : ℕ) (e : E) → get_elem? l i ≡ some e → i < length l
  at_short [] i e h = absurd (some-ne-none e (sym h))
  at_short (x ∷ xs) zero e h = omega arith
  at_short (x ∷ xs) (suc i) e h = let t = at_short xs i e h in omega (arith, t)
