-- Texts without a separator.
use Rattle.std.proofs.Common.{◌≡◌, ℕ, ◌<◌, List, [], ◌∷◌, ◌++◌, length, take, drop, Option, Some, None, refl, sym, ap, ◌∙◌, subst, arith, take-append-drop, length-append, take_all, true, false, zero, suc}
use Rattle.std.proofs.lemmas.List.{take-append-le}
use Rattle.std.proofs.lemmas.Slice.Eq.{bytes_eq-Decides}
use Rattle.std.specs.Str.{bytes_eq}
use Rattle.cm_net.specs.Free.{IsFree}
use Rattle.cm_net.specs.Machines.{run}
use Rattle.cm_net.proofs.Machines.{run-none}

-- a front of such a text is one
pub free_take : (sep n : ℕ) (xs : List ℕ) → IsFree sep xs → IsFree sep (take n xs)
free_take sep zero [] free = tt
free_take sep zero (x ∷ xs) free = tt
free_take sep (suc n) [] free = tt
free_take sep (suc n) (x ∷ xs) free = (free.0, free_take sep n xs free.1)

pub free_push : (sep b : ℕ) (xs : List ℕ) → IsFree sep xs → (b ≡ sep → ⊥) → IsFree sep (xs ++ b ∷ [])
free_push sep b [] free other = (other, tt)
free_push sep b (x ∷ xs) free other = (free.0, free_push sep b xs free.1 other)

-- no separator stands in it
pub free_no : (sep : ℕ) (xs ys zs : List ℕ) → IsFree sep xs → xs ≡ ys ++ sep ∷ zs → ⊥
free_no sep [] [] zs free is = cc
free_no sep [] (y ∷ ys) zs free is = cc
free_no sep (x ∷ xs) [] zs free is = let same : x ≡ sep = cc in free.0 same
free_no sep (x ∷ xs) (y ∷ ys) zs free is = let rest : xs ≡ ys ++ sep ∷ zs = cc in free_no sep xs ys zs free.1 rest

-- two ways to cut at the first separator are one
pub free_first : (sep : ℕ) (a x b y : List ℕ) → IsFree sep a → IsFree sep b → a ++ sep ∷ x ≡ b ++ sep ∷ y → (a ≡ b) × (x ≡ y)
free_first sep [] x [] y p q is = (refl, cc)
free_first sep [] x (c ∷ b) y p q is = let same : c ≡ sep = cc in absurd (q.0 same)
free_first sep (c ∷ a) x [] y p q is = let same : c ≡ sep = cc in absurd (p.0 same)
free_first sep (c ∷ a) x (d ∷ b) y p q is =
    let rest : a ++ sep ∷ x ≡ b ++ sep ∷ y = cc in
    let heads : c ≡ d = cc in
    let tails = free_first sep a x b y p.1 q.1 rest in
    (subst (λ (e : ℕ). c ∷ a ≡ e ∷ b) heads (ap (λ (t : List ℕ). c ∷ t) tails.0), tails.1)

-- what begins before the first separator stays before it
pub free_begins : (sep : ℕ) (p rest f s : List ℕ) → IsFree sep p → p ++ rest ≡ f ++ sep ∷ s → (m : List ℕ) × (f ≡ p ++ m)
free_begins sep [] rest f s free is = (f, refl)
free_begins sep (c ∷ p) rest [] s free is = let same : c ≡ sep = cc in absurd (free.0 same)
free_begins sep (c ∷ p) rest (d ∷ f) s free is =
    let tails : p ++ rest ≡ f ++ sep ∷ s = cc in
    let heads : d ≡ c = cc in
    let more = free_begins sep p rest f s free.1 tails in
    (more.0, subst (λ (e : ℕ). d ∷ f ≡ e ∷ (p ++ more.0)) heads (ap (λ (t : List ℕ). d ∷ t) more.1))

module _ {S : Type 0} where
  -- what a machine reads has no byte that it never reads
  pub run_free : (step : S → ℕ → Option S) (sep : ℕ) → ((s : S) → step s sep ≡ None) → (text : List ℕ) (s t : S) → run step (Some s) text ≡ Some t → IsFree sep text
  run_free step sep never [] s t read = tt
  run_free step sep never (b ∷ text) s t read =
      (other, choose (step s b) refl (λ u e. run_free step sep never text u t e))
    where
      other : b ≡ sep → ⊥
      other same =
          let none : step s b ≡ None = rw same (never s) in
          let all : None ≡ Some t = sym (run-none step text) ∙ rw none at read in cc

      choose : (o : Option S) → step s b ≡ o → ((u : S) → run step (Some u) text ≡ Some t → IsFree sep text) → IsFree sep text
      choose None e next = let all : None ≡ Some t = sym (run-none step text) ∙ rw e at read in cc
      choose (Some u) e next = next u (rw e at read)

-- ---- a leading word

pub word_there : (text word front rest : List ℕ) → front ≡ take (length word) text → rest ≡ drop (length word) text → bytes_eq front word ≡ true → text ≡ word ++ rest
word_there text word front rest p q same =
    sym (take-append-drop (length word) text)
    ∙ (ap (λ (t : List ℕ). t ++ drop (length word) text) (sym p ∙ (bytes_eq-Decides front word).0 same)
    ∙ ap (λ (t : List ℕ). word ++ t) (sym q))

pub word_short : (text word rest : List ℕ) → length text < length word → text ≡ word ++ rest → ⊥
word_short text word rest short is = omega (arith, ap length is ∙ length-append word rest)

pub word_other : (text word front rest : List ℕ) → front ≡ take (length word) text → bytes_eq front word ≡ false → text ≡ word ++ rest → ⊥
word_other text word front rest p other is =
    let same : front ≡ word = p ∙ (ap (λ (t : List ℕ). take (length word) t) is ∙ (take-append-le (length word) word rest (omega arith) ∙ take_all (length word) word (omega arith))) in
    let yes : bytes_eq front word ≡ true = (bytes_eq-Decides front word).1 same in
    let no : true ≡ false = sym yes ∙ other in cc
