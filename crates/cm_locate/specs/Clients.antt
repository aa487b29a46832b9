-- What is looked up once for a client.
use Rattle.std.specs.Prelude.{◌≡◌, ◌==◌, ℕ, Bool, true, false, List, filter}
use Rattle.std.specs.List.{list_any}
use Rattle.cm_groups.specs.declared.group.Group.{Group}
use Rattle.cm_groups.specs.Current.{passes}
use Rattle.cm_groups.specs.Marked.{is_marked}
use Rattle.cm_locate.specs.declared.ask.Ask.{Ask}
use Rattle.cm_locate.specs.declared.client.Client.{Client}
use Rattle.cm_locate.specs.Asks.{IsPrefix}
use Rattle.cm_locate.specs.Eligible.{allows, current_of, reached_of}
use Rattle.cm_locate.specs.Ranks.{default_of, neighbours_of, prefers_points}

-- exactly these numbers are marked
abbrev pub AreMarksOf : List ℕ → List Bool → Type 0
AreMarksOf numbers marks = (number : ℕ) → is_marked marks number ≡ list_any (λ other. other == number) numbers

-- those of the groups that let a peer serve which is in the client's subnet, or is not
abbrev pub allowed : List Group → Bool → List ℕ → List ℕ
allowed groups near numbers = filter (λ number. passes (λ group. allows near group.options) groups number) numbers

-- what is kept is that of the client that asks so, among these groups
pub record IsClient (groups : List Group) (ask : Ask) (client : Client) : Type 0 where
  pub groups_are : client.groups.now ≡ groups
  pub ask_is : client.ask.now ≡ ask
  pub prefix : IsPrefix ask.address ask.prefix
  pub current : AreMarksOf (current_of groups ask) client.current
  pub near : AreMarksOf (allowed groups true (current_of groups ask)) client.near
  pub far : AreMarksOf (allowed groups false (current_of groups ask)) client.far
  pub neighbours : AreMarksOf (neighbours_of (reached_of groups ask)) client.neighbours
  pub default_group : AreMarksOf (default_of (reached_of groups ask)) client.default_group
  pub prefers : client.prefers_points ≡ prefers_points groups ask
