-- Fewer than two arguments have no words.
use Rattle.std.proofs.Common.{◌≡◌, ℕ, ◌<◌, List, [], ◌∷◌, length, refl, arith}
use Rattle.cmsite.specs.Arguments.{texts, words_in, names_in}
use Rattle.std.specs.Prelude.{String}

pub no_words : {A : Type 0} (arguments : List (String A)) → length arguments < 2 → names_in (texts (words_in arguments)) ≡ []
no_words [] few = refl
no_words (only ∷ []) few = refl
no_words (base ∷ folder ∷ words) few = absurd (omega (arith, few))
