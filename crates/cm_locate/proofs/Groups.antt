-- The current and the reached groups.
use Rattle.std.proofs.Common.{◌≡◌, ℕ, ◌<◌, Bool, List, All, filter, length, ap, ◌∙◌, subst, Option}
use Rattle.std.proofs.lemmas.List.Elements.{All-filter, All-same, All-weaker}
use Rattle.cm_groups.specs.declared.group.Group.{Group}
use Rattle.cm_groups.specs.Current.{AreThose, IsThere, is_current}
use Rattle.cm_groups.specs.Reach.{is_reached}
use Rattle.cm_locate.specs.declared.ask.Ask.{Ask}
use Rattle.cm_locate.specs.Clients.{AreMarksOf}
use Rattle.cm_locate.specs.Eligible.{current_of, numbers_that, reached_of}
use Rattle.cm_locate.proofs.Numbers.{numbers_are}

pub below : (groups : List Group) (numbers : List ℕ) → All (IsThere groups) numbers → All (λ number. number < length groups) numbers
below groups numbers there = All-weaker (IsThere groups) (λ number. number < length groups) (λ number h. h.1) numbers there

pub current_is : (groups : List Group) (ask : Ask) (site : Option (List ℕ)) (numbers : List ℕ) → site ≡ ask.site
    → AreThose (is_current groups ask.address site) numbers → All (IsThere groups) numbers → numbers ≡ current_of groups ask
unfolding current_of
current_is groups ask site numbers same are there =
    numbers_are (is_current groups ask.address site) groups numbers are (below groups numbers there)
    ∙ ap (λ (s : Option (List ℕ)). numbers_that (is_current groups ask.address s) groups) same

pub reached_is : (groups : List Group) (ask : Ask) (current numbers : List ℕ) → current ≡ current_of groups ask
    → AreThose (is_reached groups current ask.elapsed ask.neighbours ask.default_group) numbers → All (λ number. number < length groups) numbers → numbers ≡ reached_of groups ask
unfolding reached_of
reached_is groups ask current numbers same are there =
    numbers_are (is_reached groups current ask.elapsed ask.neighbours ask.default_group) groups numbers are there
    ∙ ap (λ (c : List ℕ). numbers_that (is_reached groups c ask.elapsed ask.neighbours ask.default_group) groups) same

-- some of these groups are there where all are
pub kept_below : (test : ℕ → Bool) (groups : List Group) (numbers kept near far : List ℕ) → near ≡ kept → kept ≡ filter test far → far ≡ numbers
    → All (λ number. number < length groups) numbers → All (λ number. number < length groups) near
kept_below test groups numbers kept near far first second third there =
    let P : ℕ → Type 0 = λ number. number < length groups in
    All-same P near (filter test numbers) (first ∙ second ∙ ap (filter test) third) (All-filter test P numbers there)

-- marks of numbers that are others
pub marks_same : (numbers others : List ℕ) (marks : List Bool) → numbers ≡ others → AreMarksOf numbers marks → AreMarksOf others marks
marks_same numbers others marks same are = subst (λ (ns : List ℕ). AreMarksOf ns marks) same are
