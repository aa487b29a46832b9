-- Items joined one by one.
use Rattle.std.proofs.Common.{◌≡◌, ℕ, ◌+◌, ◌*◌, List, [], ◌∷◌, ◌++◌, refl, sym, ap, ◌∙◌, subst, arith, append_assoc, zero, suc}
use Rattle.cm_net.specs.Addresses.{Joined}

-- whole items, each with the separator behind it
abbrev pub Whole : (List ℕ → ℕ → Type 0) → ℕ → ℕ → ℕ → List ℕ → ℕ → Type 0
Whole Item separator base zero text n = (text ≡ []) × (n ≡ 0)
Whole Item separator base (suc k) text n = (front : List ℕ) × Joined Item separator base (suc k) front n × (text ≡ front ++ separator ∷ [])

module _ (Item : List ℕ → ℕ → Type 0) (separator base : ℕ) where
  -- one item more
  pub join_more : (k : ℕ) (text : List ℕ) (n : ℕ) (last : List ℕ) (p : ℕ) → Whole Item separator base k text n → Item last p
      → Joined Item separator base (suc k) (text ++ last) (n * base + p)
  join_more zero text n last p whole item =
      let none : text ++ last ≡ last = ap (λ (t : List ℕ). t ++ last) whole.0 in
      let value : n * base + p ≡ p = grind (arith, whole.1) in
      subst (λ (t : List ℕ). Item t (n * base + p)) (sym none) (subst (λ (m : ℕ). Item last m) (sym value) item)
  join_more (suc k) text n last p whole item = (
    whole.0,
    last,
    n,
    p,
    whole.1,
    item,
    ap (λ (t : List ℕ). t ++ last) whole.2 ∙ append_assoc whole.0 (separator ∷ []) last,
    refl,
  )

  -- the separator behind them
  pub whole_again : (k : ℕ) (text : List ℕ) (n : ℕ) → Joined Item separator base (suc k) text n → Whole Item separator base (suc k) (text ++ separator ∷ []) n
  whole_again k text n joined = (text, joined, refl)
