-- The table of ranks, for points and for peers.
use Rattle.std.proofs.Common.{◌≡◌, ℕ, ◌&&◌, ◌||◌, Bool, true, false, cond, List, [], ◌∷◌, refl, sym, ◌∙◌, None, Some, option_map}
use Rattle.cm_locate.specs.Ranks.{exchanged, first_fit, rank_of_current}

-- the table for a point: whether it is of a current group, asks, is near, is of the site, is of a neighbour, is of the default group
abbrev pub point_table : Bool → Bool → Bool → Bool → Bool → Bool → List (Bool × ℕ)
point_table c a n s b d = (c && a, 1) ∷ (false, 2) ∷ (c && n, 3) ∷ (false, 4) ∷ (c && s, 5) ∷ (false, 6) ∷ (c, 7) ∷ (b, 8) ∷ (d, 9) ∷ []

pub point_fits : (c a n s b d prefers : Bool) → option_map (exchanged prefers) (first_fit (point_table c a n s b d)) ≡ cond c (Some (rank_of_current a n s prefers)) (cond b (Some 8) (cond d (Some 9) None))
point_fits true true n s b d true = refl
point_fits true true n s b d false = refl
point_fits true false true s b d true = refl
point_fits true false true s b d false = refl
point_fits true false false true b d true = refl
point_fits true false false true b d false = refl
point_fits true false false false b d true = refl
point_fits true false false false b d false = refl
point_fits false a n s true d true = refl
point_fits false a n s true d false = refl
point_fits false a n s false true true = refl
point_fits false a n s false true false = refl
point_fits false a n s false false true = refl
point_fits false a n s false false false = refl

some_in : (c b d : Bool) (first rank : ℕ) → cond c (Some first) (cond b (Some 8) (cond d (Some 9) None)) ≡ Some rank → (c || (b || d)) ≡ true
some_in true b d first rank e = refl
some_in false true d first rank e = refl
some_in false false true first rank e = refl
some_in false false false first rank e = absurd (cc)

-- a point with a rank is in one of these groups
pub ranked_in : (c a n s b d prefers : Bool) (rank : ℕ) → option_map (exchanged prefers) (first_fit (point_table c a n s b d)) ≡ Some rank → (c || (b || d)) ≡ true
ranked_in c a n s b d prefers rank e = some_in c b d (rank_of_current a n s prefers) rank (sym (point_fits c a n s b d prefers) ∙ e)
