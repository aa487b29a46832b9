-- Bays that are opened one after another.
use Rattle.std.proofs.Common.{◌≡◌, ℕ, ◌<◌, List, [], ◌∷◌, ◌++◌, length, slice_index_or, refl, sym, ◌∙◌, ap, subst, arith}
use Rattle.std.specs.Prelude.{drop}
use Rattle.std.specs.List.{AllByRecursion}
use Rattle.cm_site.specs.Opened.{bay_from, bays_from}
use Rattle.cm_site.specs.declared.bay.Bay.{Bay}
use Rattle.cm_site.specs.declared.member.Member.{Member}

pub front : {X : Type 0} (xs : List X) (d : X) → 0 < length xs → d ≡ slice_index_or xs 0 d → xs ≡ d ∷ drop 1 xs
front [] d some is = absurd (omega arith)
front (x ∷ xs) d some is = ap (λ y. y ∷ xs) (sym is)

pub each_more : {X : Type 0} (P : X → Type 0) (xs : List X) (x : X) → AllByRecursion P xs → P x → AllByRecursion P (xs ++ x ∷ [])
each_more P [] x all p = (p, tt)
each_more P (y ∷ ys) x all p = (all.0, each_more P ys x all.1 p)

pub bays_more : {D : Type 0} (members : List (Member D)) (member : Member D) (rest : List (Bay D)) → bays_from (members ++ member ∷ []) ++ rest ≡ bays_from members ++ bay_from member ∷ rest
bays_more [] member rest = refl
bays_more {D = D} (m ∷ ms) member rest = ap (λ (bays : List (Bay D)). bay_from m ∷ bays) (bays_more ms member rest)

pub joined : {X : Type 0} (xs : List X) (x : X) (ys : List X) → (xs ++ x ∷ []) ++ ys ≡ xs ++ x ∷ ys
joined [] x ys = refl
joined (y ∷ xs) x ys = ap (λ zs. y ∷ zs) (joined xs x ys)
