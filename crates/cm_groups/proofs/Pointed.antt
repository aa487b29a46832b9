-- The groups that have a point, one more at a time.
use Rattle.std.proofs.Common.{◌≡◌, ℕ, ◌≤◌, ◌==◌, ◌&&◌, ◌||◌, Bool, true, false, cond, List, [], ◌∷◌, ◌++◌, Option, Some, Vec, length, drop, refl, sym, ap, ◌∙◌, arith}
use Rattle.std.specs.declared.alloc.Global.{Global}
use Rattle.std.specs.Cmp.Lexicographic.{slice_cmp}
use Rattle.std.specs.Ordering.{is_eq, nat_cmp}
use Rattle.std.specs.Str.{bytes_eq}
use Rattle.std.proofs.Math.Bool.{or-false}
use Rattle.std.proofs.Math.ListN.{drop_of_length-le}
use Rattle.std.proofs.lemmas.List.Folds.{list_any-append}
use Rattle.std.proofs.lemmas.Map.Text.{is_eq-slice_cmp}
use Rattle.std.proofs.lemmas.Slice.Eq.{bytes_eq-Decides}
use Rattle.cm_net.specs.Sites.{numbers_there}
use Rattle.cm_groups.specs.declared.group.Group.{Group}
use Rattle.cm_groups.specs.Having.{has_point}
use Rattle.cm_groups.specs.Current.{passes}
use Rattle.cm_groups.proofs.CurrentRows.{one_at, passes_from}
use Rattle.cm_groups.proofs.Has.{has}

pub pushed : (numbers new : List ℕ) (number other : ℕ) → new ≡ numbers ++ number ∷ [] → has new other ≡ (has numbers other || number == other)
pushed numbers new number other is =
    ap (λ (xs : List ℕ). has xs other) is
    ∙ (list_any-append (λ each. each == other) numbers (number ∷ []) ∙ ap (λ (b : Bool). has numbers other || b) (or-false (number == other)))

added_if : (old new : Option (Vec ℕ Global)) (list : Vec ℕ Global) (before : List ℕ) (number other : ℕ) (here : Bool)
    → new ≡ cond here (Some list) old → has list.items other ≡ (has before other || number == other) → (here ≡ true → numbers_there old ≡ before)
    → has (numbers_there new) other ≡ (has (numbers_there old) other || (here && number == other))
added_if old new list before number other true is items was =
    ap (λ (o : Option (Vec ℕ Global)). has (numbers_there o) other) is ∙ (items ∙ ap (λ (xs : List ℕ). has xs other || number == other) (sym (was refl)))
added_if old new list before number other false is items was =
    ap (λ (o : Option (Vec ℕ Global)). has (numbers_there o) other) is ∙ sym (or-false (has (numbers_there old) other))

-- a group more for one point
pub group_added : (old new : Option (Vec ℕ Global)) (list : Vec ℕ Global) (point name before : List ℕ) (number other : ℕ)
    → new ≡ cond (is_eq (slice_cmp nat_cmp point name)) (Some list) old → has list.items other ≡ (has before other || number == other) → (point ≡ name → numbers_there old ≡ before)
    → has (numbers_there new) other ≡ (has (numbers_there old) other || (bytes_eq point name && number == other))
group_added old new list point name before number other is items was =
    added_if old new list before number other (bytes_eq point name) (rw (is_eq-slice_cmp point name) at is) items (λ here. was ((bytes_eq-Decides point name).0 here))

-- all groups
pub all_pointed : (groups : List Group) (count number : ℕ) (name : List ℕ) (found : Bool) → length groups ≤ count
    → passes_from (has_point name) 0 groups number ≡ (found || passes_from (has_point name) count (drop count groups) number) → found ≡ passes (has_point name) groups number
all_pointed groups count number name found end all =
    sym (or-false found)
    ∙ (ap (λ (gs : List Group). found || passes_from (has_point name) count gs number) (sym (drop_of_length-le groups end))
    ∙ (sym all ∙ one_at (has_point name) 0 number number groups (omega arith)))
