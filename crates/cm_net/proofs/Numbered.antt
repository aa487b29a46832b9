-- Entries of sites, to one of which a number is added.
use Rattle.std.proofs.Common.{◌≡◌, ℕ, zero, suc, ◌<◌, ◌==◌, ◌&&◌, ◌||◌, Bool, true, false, List, [], ◌∷◌, ◌++◌, Some, Option, Vec, length, get_or, refl, sym, ap, ◌∙◌, option_map}
use Rattle.std.specs.List.{list_any, slice_set}
use Rattle.std.specs.Str.{bytes_eq}
use Rattle.std.specs.declared.alloc.Global.{Global}
use Rattle.std.proofs.lemmas.List.Folds.{list_any-append}
use Rattle.std.proofs.lemmas.Option.{none-some, same_Some, slice_get-get_or}
use Rattle.cm_net.specs.Sites.{IsNamedAt, is_numbered}

-- a name at a place stands there
pub named_there : (entries : List (List ℕ × Vec ℕ Global)) (place : ℕ) (name : List ℕ) (entry : List ℕ × Vec ℕ Global)
    → place < length entries → entry ≡ get_or entries place entry → entry.0 ≡ name → IsNamedAt entries place name
named_there entries place name entry inside is same =
    ap (λ (o : Option (List ℕ × Vec ℕ Global)). option_map (λ (e : List ℕ × Vec ℕ Global). e.0) o) (slice_get-get_or entries place entry inside)
    ∙ ap Some (ap (λ (e : List ℕ × Vec ℕ Global). e.0) (sym is) ∙ same)

-- one number more at the entry of a site
one_more : (same old more rest : Bool) → ((same && (old || (more || false))) || rest) ≡ (((same && old) || rest) || (same && more))
one_more true true more rest = refl
one_more true false true true = refl
one_more true false true false = refl
one_more true false false true = refl
one_more true false false false = refl
one_more false old more true = refl
one_more false old more false = refl

behind : (a b c : Bool) → (a || (b || c)) ≡ ((a || b) || c)
behind true b c = refl
behind false b c = refl

pub numbered_more : (entries : List (List ℕ × Vec ℕ Global)) (place : ℕ) (name site : List ℕ) (entry : List ℕ × Vec ℕ Global) (list : Vec ℕ Global) (group number : ℕ)
    → IsNamedAt entries place name → entry ≡ get_or entries place entry → list.items ≡ entry.1.items ++ group ∷ []
    → is_numbered (slice_set entries place (entry.0, list)) site number ≡ (is_numbered entries site number || (bytes_eq name site && group == number))
numbered_more [] place name site entry list group number there is items = absurd (none-some name there)
numbered_more (first ∷ entries) zero name site entry list group number there is items =
    let has : List ℕ → Bool = λ numbers. list_any (λ other. other == number) numbers in
    let here : entry.0 ≡ name = ap (λ (e : List ℕ × Vec ℕ Global). e.0) is ∙ same_Some first.0 name there in
    let grown : has list.items ≡ (has entry.1.items || (group == number || false)) = ap has items ∙ list_any-append (λ other. other == number) entry.1.items (group ∷ []) in
    ap (λ (b : Bool). (bytes_eq entry.0 site && b) || is_numbered entries site number) grown
    ∙ one_more (bytes_eq entry.0 site) (has entry.1.items) (group == number) (is_numbered entries site number)
    ∙ ap (λ (e : List ℕ × Vec ℕ Global). ((bytes_eq e.0 site && has e.1.items) || is_numbered entries site number) || (bytes_eq entry.0 site && group == number)) is
    ∙ ap (λ (given : List ℕ). ((bytes_eq first.0 site && has first.1.items) || is_numbered entries site number) || (bytes_eq given site && group == number)) here
numbered_more (first ∷ entries) (suc place) name site entry list group number there is items =
    let has : List ℕ → Bool = λ numbers. list_any (λ other. other == number) numbers in
    ap (λ (b : Bool). (bytes_eq first.0 site && has first.1.items) || b) (numbered_more entries place name site entry list group number there is items)
    ∙ behind (bytes_eq first.0 site && has first.1.items) (is_numbered entries site number) (bytes_eq name site && group == number)
