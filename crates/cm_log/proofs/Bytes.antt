-- What is known of a list by its bytes, and what a write makes of one.
use Rattle.std.proofs.Common.{◌≡◌, ◌⊎◌, inl, inr, ℕ, zero, suc, ◌+◌, ◌<◌, ◌≤◌, List, [], ◌∷◌, ◌++◌, length, take, drop, refl, sym, ◌∙◌, ap, arith, append_assoc, length-append}
use Rattle.std.specs.Prelude.{Some, slice_get}
use Rattle.std.proofs.lemmas.Option.{none-some, same_Some}
use Rattle.std.proofs.lemmas.List.{drop_at, take_at, drop-drop}
use Rattle.std.proofs.Math.Seq.{take-length}
use Rattle.cm_disk.specs.Disk.{overwritten}

abbrev Agree : (ℕ → Type 0) → List ℕ → List ℕ → Type 0
Agree kept xs ys = (i byte : ℕ) → kept i → slice_get xs i ≡ Some byte → slice_get ys i ≡ Some byte

-- a list with the first n bytes of another begins so
pub begins : (n : ℕ) (xs ys : List ℕ) → n ≤ length xs → ((i byte : ℕ) → i < n → slice_get xs i ≡ Some byte → slice_get ys i ≡ Some byte) → (rest : List ℕ) × (ys ≡ take n xs ++ rest)
begins zero xs ys le same = (ys, refl)
begins (suc n) [] ys le same = absurd (omega arith)
begins (suc n) (x ∷ xs) [] le same = absurd (none-some x (same 0 x (omega arith) refl))
begins (suc n) (x ∷ xs) (y ∷ ys) le same =
    let first : y ≡ x = same_Some y x (same 0 x (omega arith) refl) in
    let more : (rest : List ℕ) × (ys ≡ take n xs ++ rest) = begins n xs ys (omega arith) (λ i byte lt is. same (suc i) byte (omega arith) is) in
    (more.0, ap (λ (b : ℕ). b ∷ ys) first ∙ ap (λ (l : List ℕ). x ∷ l) more.1)

-- a list with all bytes of another but one, which isn't the last, is that one with another byte there, and perhaps more behind
pub all_but : (front : List ℕ) (gate : ℕ) (rest ys : List ℕ) → 0 < length rest → ((i byte : ℕ) → (i < length front) ⊎ (suc (length front) ≤ i) → slice_get (front ++ gate ∷ rest) i ≡ Some byte → slice_get ys i ≡ Some byte)
    → (g : ℕ) × (more : List ℕ) × (ys ≡ front ++ g ∷ (rest ++ more))
all_but [] gate [] ys some same = absurd (omega arith)
all_but [] gate (next ∷ rest) [] some same = absurd (none-some next (same 1 next (inr (omega arith)) refl))
all_but [] gate (next ∷ rest) (g ∷ ys) some same =
    let more : (m : List ℕ) × (ys ≡ take (length (next ∷ rest)) (next ∷ rest) ++ m) = begins (length (next ∷ rest)) (next ∷ rest) ys (omega arith) (λ i byte lt is. same (suc i) byte (inr (omega arith)) is) in
    (g, more.0, ap (λ (l : List ℕ). g ∷ l) (more.1 ∙ ap (λ (l : List ℕ). l ++ more.0) (take-length (next ∷ rest))))
all_but (x ∷ front) gate rest [] some same = absurd (none-some x (same 0 x (inl (omega arith)) refl))
all_but (x ∷ front) gate rest (y ∷ ys) some same =
    let first : y ≡ x = same_Some y x (same 0 x (inl (omega arith)) refl) in
    let more : (g : ℕ) × (m : List ℕ) × (ys ≡ front ++ g ∷ (rest ++ m)) = all_but front gate rest ys some (λ i byte which is. same (suc i) byte (shift i (length front) which) is) in
    (more.0, more.1, ap (λ (b : ℕ). b ∷ ys) first ∙ ap (λ (l : List ℕ). x ∷ l) more.2)
  where
    shift : (i n : ℕ) → (i < n) ⊎ (suc n ≤ i) → (suc i < suc n) ⊎ (suc (suc n) ≤ suc i)
    shift i n (inl lt) = inl (omega arith)
    shift i n (inr le) = inr (omega arith)

pub gate_at : (front : List ℕ) (gate : ℕ) (rest : List ℕ) → slice_get (front ++ gate ∷ rest) (length front) ≡ Some gate
gate_at [] gate rest = refl
gate_at (x ∷ front) gate rest = gate_at front gate rest

module _ (front : List ℕ) (gate : ℕ) (rest : List ℕ) (n : ℕ) (long : length front ≡ n) where
  one_more : length (front ++ gate ∷ []) ≡ n + 1
  one_more = omega (arith, length-append front (gate ∷ []))

  split : front ++ gate ∷ rest ≡ (front ++ gate ∷ []) ++ rest
  split = sym (append_assoc front (gate ∷ []) rest)

  pub up_to_gate : take (n + 1) (front ++ gate ∷ rest) ≡ front ++ gate ∷ []
  up_to_gate = ap (λ (l : List ℕ). take (n + 1) l) split ∙ take_at (front ++ gate ∷ []) rest (n + 1) one_more

  -- a write behind the gate
  pub written_behind : (bytes : List ℕ) → overwritten (front ++ gate ∷ rest) (n + 1) bytes ≡ front ++ gate ∷ (bytes ++ drop (length bytes) rest)
  written_behind bytes =
      let after : drop (n + 1 + length bytes) (front ++ gate ∷ rest) ≡ drop (length bytes) rest =
      sym (drop-drop (length bytes) (n + 1) (front ++ gate ∷ rest)) ∙ ap (λ (l : List ℕ). drop (length bytes) l) (ap (λ (l : List ℕ). drop (n + 1) l) split ∙ drop_at (front ++ gate ∷ []) rest (n + 1) one_more) in
      ap (λ (l : List ℕ). l ++ bytes ++ drop (n + 1 + length bytes) (front ++ gate ∷ rest)) up_to_gate
      ∙ ap (λ (l : List ℕ). (front ++ gate ∷ []) ++ bytes ++ l) after
      ∙ append_assoc (front ++ gate ∷ []) bytes (drop (length bytes) rest)
      ∙ append_assoc front (gate ∷ []) (bytes ++ drop (length bytes) rest)

  -- a write over the gate
  pub written_gate : (g : ℕ) → overwritten (front ++ gate ∷ rest) n (g ∷ []) ≡ front ++ g ∷ rest
  written_gate g =
      ap (λ (l : List ℕ). l ++ (g ∷ []) ++ drop (n + 1) (front ++ gate ∷ rest)) (take_at front (gate ∷ rest) n long)
      ∙ ap (λ (l : List ℕ). front ++ (g ∷ []) ++ l) (ap (λ (l : List ℕ). drop (n + 1) l) split ∙ drop_at (front ++ gate ∷ []) rest (n + 1) one_more)
      ∙ append_assoc front (g ∷ []) rest
