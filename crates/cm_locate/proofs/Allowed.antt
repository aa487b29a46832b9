-- Marked groups that have a point, or hold a peer.
use Rattle.std.proofs.Common.{◌≡◌, ℕ, ◌==◌, ◌&&◌, ◌||◌, ◌↔◌, Bool, true, false, cond, List, [], ◌∷◌, IsTrue, filter, refl, sym, ap, ◌∙◌, subst, Option, None, Some}
use Rattle.std.specs.List.{list_any, slice_get}
use Rattle.std.specs.Option.{option_map_or}
use Rattle.std.proofs.lemmas.List.Folds.{Any-from_list_any, list_any-from_Any}
use Rattle.cm_groups.specs.declared.group.Group.{Group}
use Rattle.cm_groups.specs.Current.{holds_client, is_current, passes}
use Rattle.cm_groups.specs.Marked.{SomeMarked, is_marked}
use Rattle.cm_groups.specs.Reach.{some_current}
use Rattle.cm_peer.specs.declared.peer.Peer.{Peer}
use Rattle.cm_locate.specs.declared.ask.Ask.{Ask}
use Rattle.cm_locate.specs.Asks.{is_near}
use Rattle.cm_locate.specs.Clients.{AreMarksOf, allowed}
use Rattle.cm_locate.specs.Eligible.{allows, current_of, has_point, is_in, lets}
use Rattle.cm_locate.proofs.Has.{both_bools, has, has-from_Contains, Contains-from_has}

-- a marked number passes a test exactly where one of these numbers does
pub some_of : (numbers : List ℕ) (marks : List Bool) (test : ℕ → Bool) (answer : Bool) → AreMarksOf numbers marks → (IsTrue answer ↔ SomeMarked marks test) → answer ≡ list_any test numbers
some_of numbers marks test answer are holds =
    both_bools answer (list_any test numbers)
    (λ h.
    let some = holds.0 h in
    let there = Contains-from_has numbers some.number (sym (are some.number) ∙ some.marked) in
    list_any-from_Any test numbers (there.0, some.number, there.1, there.2, some.passes))
    (λ h.
    let found = Any-from_list_any test numbers h in
    holds.1 (record { number = found.1; marked = are found.1 ∙ has-from_Contains numbers found.1 (found.0, found.2, found.3); passes = found.4 }))

-- one of the numbers that have the point is marked exactly where one of these groups has it
pub has_marked : (groups : List Group) (name : List ℕ) (having numbers : List ℕ) (marks : List Bool) (answer : Bool) → answer ≡ list_any (is_marked marks) having
    → ((number : ℕ) → has having number ≡ passes (has_point name) groups number) → AreMarksOf numbers marks → answer ≡ is_in groups name numbers
has_marked groups name having numbers marks answer is all are =
    both_bools answer (is_in groups name numbers)
    (λ h.
    let found = Any-from_list_any (is_marked marks) having (sym is ∙ h) in
    let there = Contains-from_has numbers found.1 (sym (are found.1) ∙ found.4) in
    list_any-from_Any (passes (has_point name) groups) numbers (there.0, found.1, there.1, there.2, sym (all found.1) ∙ has-from_Contains having found.1 (found.0, found.2, found.3)))
    (λ h.
    let found = Any-from_list_any (passes (has_point name) groups) numbers h in
    let there = Contains-from_has having found.1 (all found.1 ∙ found.4) in
    is ∙ list_any-from_Any (is_marked marks) having (there.0, found.1, there.1, there.2, are found.1 ∙ has-from_Contains numbers found.1 (found.0, found.2, found.3)))

kept_any : (p : ℕ → Bool) (b : Bool) (x : ℕ) (kept : List ℕ) → list_any p (cond b (x ∷ kept) kept) ≡ ((p x && b) || list_any p kept)
kept_any p true x kept = ap (λ (a : Bool). a || list_any p kept) (sym (whole (p x)))
  where
    whole : (a : Bool) → (a && true) ≡ a
    whole true = refl
    whole false = refl
kept_any p false x kept = ap (λ (a : Bool). a || list_any p kept) (sym (none (p x)))
  where
    none : (a : Bool) → (a && false) ≡ false
    none true = refl
    none false = refl

any_kept : (p t q : ℕ → Bool) → ((x : ℕ) → (p x && t x) ≡ q x) → (xs : List ℕ) → list_any p (filter t xs) ≡ list_any q xs
any_kept p t q same [] = refl
any_kept p t q same (x ∷ xs) = kept_any p (t x) x (filter t xs) ∙ (ap (λ (b : Bool). b || list_any p (filter t xs)) (same x) ∙ ap (λ (b : Bool). q x || b) (any_kept p t q same xs))

both : (f g : Group → Bool) (found : Option Group) → (option_map_or f found false && option_map_or g found false) ≡ option_map_or (λ group. f group && g group) found false
both f g None = refl
both f g (Some group) = refl

-- a marked group holds the peer exactly where a current one does that lets it serve
pub some_lets : (groups : List Group) (ask : Ask) (peer : Peer) (site : Option (List ℕ)) (near answer : Bool) (marks : List Bool) → near ≡ is_near ask peer.address → site ≡ peer.site
    → AreMarksOf (allowed groups near (current_of groups ask)) marks → (IsTrue answer ↔ SomeMarked marks (is_current groups peer.address site)) → answer ≡ some_current (lets ask peer) groups (current_of groups ask)
some_lets groups ask peer site near answer marks near_is site_is are holds =
    let current : List ℕ = current_of groups ask in
    some_of (allowed groups near current) marks (is_current groups peer.address site) answer are holds
    ∙ (ap (λ (s : Option (List ℕ)). list_any (is_current groups peer.address s) (allowed groups near current)) site_is
    ∙ (ap (λ (b : Bool). list_any (is_current groups peer.address peer.site) (allowed groups b current)) near_is
    ∙ any_kept (is_current groups peer.address peer.site) (λ number. passes (λ group. allows (is_near ask peer.address) group.options) groups number) (λ number. passes (lets ask peer) groups number)
    (λ number. both (holds_client peer.address peer.site) (λ group. allows (is_near ask peer.address) group.options) (slice_get groups number)) current))
