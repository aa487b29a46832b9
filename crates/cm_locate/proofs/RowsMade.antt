-- The rows of points and peers, one after another.
use Rattle.std.proofs.Common.{◌≡◌, ℕ, ◌+◌, ◌<◌, List, [], ◌∷◌, ◌++◌, length, take, get_or, refl, sym, ap, ◌∙◌, Option, None, Some}
use Rattle.std.specs.List.{cons_option, filter_map}
use Rattle.std.specs.Option.{option_to_list}
use Rattle.std.proofs.lemmas.List.{take_more}
use Rattle.std.proofs.lemmas.List.Elements.{filter_map-append}

one_made : {Y : Type 0} (found : Option Y) → cons_option found [] ≡ option_to_list found
one_made None = refl
one_made (Some y) = refl

-- one element more
pub made_more : {X Y : Type 0} (f : X → Option Y) (xs : List X) (index : ℕ) (x : X) (row : Option Y) (rows new : List Y)
    → index < length xs → x ≡ get_or xs index x → row ≡ f x → new ≡ rows ++ option_to_list row
    → rows ≡ filter_map f (take index xs) → new ≡ filter_map f (take (index + 1) xs)
made_more f xs index x row rows new lt at is added before =
    added
    ∙ ap (λ ys. ys ++ option_to_list row) before
    ∙ ap (λ o. filter_map f (take index xs) ++ option_to_list o) is
    ∙ ap (λ ys. filter_map f (take index xs) ++ ys) (sym (one_made (f x)))
    ∙ ap (λ z. filter_map f (take index xs) ++ filter_map f (z ∷ [])) at
    ∙ sym (filter_map-append f (take index xs) (get_or xs index x ∷ []))
    ∙ ap (filter_map f) (sym (take_more xs index x lt))
