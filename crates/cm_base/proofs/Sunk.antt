-- What a sink got after two writes.
use Rattle.std.proofs.Common.{◌≡◌, ℕ, ◌+◌, List, ◌∷◌, [], ◌++◌, length, zero, suc, take, drop, Option, None, Some, option_map, refl, sym, ◌∙◌, ap, append_assoc}
use Rattle.std.proofs.Math.Seq.{take-add, take-append-add}
use Rattle.cm_base.specs.Streams.{Gets, GetsFront}

added_twice : (old : Option (List ℕ)) (a b : List ℕ) → option_map (λ got. got ++ b) (option_map (λ got. got ++ a) old) ≡ option_map (λ got. got ++ (a ++ b)) old
added_twice None a b = refl
added_twice (Some got) a b = ap (λ (xs : List ℕ). Some xs) (append_assoc got a b)

-- a front, and then a front of the rest
pub gets_more : (old mid new : Option (List ℕ)) (text : List ℕ) (n k : ℕ) → Gets old mid (take n text) → Gets mid new (take k (drop n text)) → Gets old new (take (n + k) text)
gets_more old mid new text n k first then =
    then ∙ (ap (λ o. option_map (λ got. got ++ take k (drop n text)) o) first
    ∙ (added_twice old (take n text) (take k (drop n text))
    ∙ ap (λ (xs : List ℕ). option_map (λ got. got ++ xs) old) (sym (take-add n k text))))

pub gets_front_more : (old mid new : Option (List ℕ)) (text : List ℕ) (n : ℕ) → Gets old mid (take n text) → GetsFront mid new (drop n text) → GetsFront old new text
gets_front_more old mid new text n first then = (n + then.0, gets_more old mid new text n then.0 first then.1)

-- one text after another
pub gets_both : (old mid new : Option (List ℕ)) (a b : List ℕ) → Gets old mid a → Gets mid new b → Gets old new (a ++ b)
gets_both old mid new a b first then = then ∙ (ap (λ o. option_map (λ got. got ++ b) o) first ∙ added_twice old a b)

-- the whole of the first, and a front of the second
pub front_of_both : (old mid new : Option (List ℕ)) (a b : List ℕ) → Gets old mid a → GetsFront mid new b → GetsFront old new (a ++ b)
front_of_both old mid new a b first then =
    (length a + then.0, gets_both old mid new a (take then.0 b) first then.1 ∙ ap (λ (xs : List ℕ). option_map (λ got. got ++ xs) old) (sym (take-append-add a b then.0)))

short_front : (a b : List ℕ) (n : ℕ) → (m : ℕ) × (take n a ≡ take m (a ++ b))
short_front [] b zero = (0, refl)
short_front [] b (suc n) = (0, refl)
short_front (x ∷ a) b zero = (0, refl)
short_front (x ∷ a) b (suc n) = let rest = short_front a b n in (suc rest.0, ap (λ (xs : List ℕ). x ∷ xs) rest.1)

-- a front of the first
pub front_of_first : (old new : Option (List ℕ)) (a b : List ℕ) → GetsFront old new a → GetsFront old new (a ++ b)
front_of_first old new a b front =
    let short = short_front a b front.0 in (short.0, front.1 ∙ ap (λ (xs : List ℕ). option_map (λ got. got ++ xs) old) short.1)
