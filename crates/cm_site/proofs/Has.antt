-- A library that stands among the members is that of its bay.
use Rattle.std.proofs.Common.{◌≡◌, ℕ, zero, suc, false, true, Bool, List, [], ◌∷◌, Option, None, Some, refl, sym, ◌∙◌, ap, subst}
use Rattle.std.specs.Prelude.{cond, is_some, IfSome}
use Rattle.std.specs.Option.{option_and_then}
use Rattle.std.specs.Str.{bytes_eq}
use Rattle.std.proofs.lemmas.Slice.Eq.{bytes_eq-Decides}
use Rattle.cm_state.specs.State.{State}
use Rattle.cm_site.specs.Found.{IsLibraryAt}
use Rattle.cm_site.specs.Opened.{content_of, part_of, world_of}
use Rattle.cm_site.specs.Worlds.{Part, library_at, has_library, part_at, state_in}
use Rattle.cm_site.specs.declared.member.Hold.{Hold}
use Rattle.cm_site.specs.declared.member.Member.{Member}

has_at : {D : Type 0} (bay : List ℕ) (n : ℕ) (members : List (Member D)) → IsLibraryAt bay n members → has_library bay (world_of members) ≡ true
has_at bay n [] there = absurd there
has_at {D = D} bay zero (m ∷ ms) there =
    ap (λ (b : Bool). is_some (option_and_then (λ (p : Part). state_in p.content) (cond b (Some (part_of m)) (part_at bay (world_of ms))))) ((bytes_eq-Decides m.name bay).1 there.0)
    ∙ ap (λ (h : Hold D). is_some (state_in (content_of h))) there.1.1
has_at bay (suc n) (m ∷ ms) there =
    ap (λ (b : Bool). is_some (option_and_then (λ (p : Part). state_in p.content) (cond b (Some (part_of m)) (part_at bay (world_of ms))))) there.0
    ∙ has_at bay n ms there.1

-- what was looked for tells whether it is there
pub has_found : {D : Type 0} (bay : List ℕ) (members : List (Member D)) (found : Option ℕ) → IfSome found (λ n. IsLibraryAt bay n members) → (found ≡ None → library_at bay (world_of members) ≡ None) → is_some found ≡ has_library bay (world_of members)
has_found bay members None at none = sym (ap (λ (o : Option State). is_some o) (none refl))
has_found bay members (Some n) at none = sym (has_at bay n members at)
