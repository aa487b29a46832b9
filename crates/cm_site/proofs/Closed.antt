-- Why the bays of a world are not opened: the first one behind the opened ones, or a point of the topology without a library.
use Rattle.std.proofs.Common.{◌≡◌, ℕ, Bool, true, false, List, [], ◌∷◌, ◌++◌, Option, None, Some, refl, sym, ◌∙◌, ap}
use Rattle.std.specs.Prelude.{cond, option_map}
use Rattle.cm_register.specs.Look.{Register, Missing as NoRecords, Unreadable as UnreadableRecords}
use Rattle.cm_state.specs.Look.{Library, Missing, Unreadable}
use Rattle.cm_site.specs.Contents.{Content, OfLibrary, OfRecords, is_records}
use Rattle.cm_site.specs.Opened.{content_of, world_of}
use Rattle.cm_site.specs.Opening.{Closed, NoLibrary, NotReadable, NoBayFor, closed_as, closed_in, first_closed, or_else, point_without_bay}
use Rattle.cm_site.specs.Runs.{HasKind}
use Rattle.cm_site.specs.Unopened.{none_in, unreadable_in}
use Rattle.cm_site.specs.Worlds.{World, Part, records_of}
use Rattle.cm_site.specs.declared.member.Hold.{Hold}
use Rattle.cm_site.specs.declared.member.Hold.TheVariants as hold
use Rattle.cm_site.specs.declared.member.Member.{Member}

-- what a bay holds by its kind

abbrev by_kind : Bool → Register → Library → Content
by_kind b register library = cond b (OfRecords register) (OfLibrary library)

pub kind_is : (name : List ℕ) (register : Register) (library : Library) → HasKind name (by_kind (is_records name) register library)
kind_is name register library = by (is_records name) refl
  where
    by : (b : Bool) → is_records name ≡ b → HasKind name (by_kind b register library)
    by true is = is
    by false is = is

pub none_closed : (name : List ℕ) → closed_as name (none_in name) ≡ Some (NoLibrary name)
none_closed name = by (is_records name)
  where
    by : (b : Bool) → closed_as name (by_kind b NoRecords Missing) ≡ Some (NoLibrary name)
    by true = refl
    by false = refl

pub unreadable_closed : (name place : List ℕ) (at : ℕ) → closed_as name (unreadable_in name place at) ≡ Some (NotReadable name place at)
unreadable_closed name place at = by (is_records name)
  where
    by : (b : Bool) → closed_as name (by_kind b (UnreadableRecords place at) (Unreadable place at)) ≡ Some (NotReadable name place at)
    by true = refl
    by false = refl

module _ {D : Type 0} where
  open_is_none : (name : List ℕ) (held : Hold D) → closed_as name (content_of held) ≡ None
  open_is_none name (hold.Library library) = refl
  open_is_none name (hold.Records records) = refl

  first_behind : (members : List (Member D)) (parts : World) → first_closed (world_of members ++ parts) ≡ first_closed parts
  first_behind [] parts = refl
  first_behind (member ∷ members) parts = ap (λ (closed : Option Closed). or_else closed (first_closed (world_of members ++ parts))) (open_is_none member.name member.hold) ∙ first_behind members parts

  none_first : (members : List (Member D)) → first_closed (world_of members) ≡ None
  none_first [] = refl
  none_first (member ∷ members) = ap (λ (closed : Option Closed). or_else closed (first_closed (world_of members))) (open_is_none member.name member.hold) ∙ none_first members

  -- the first one behind the opened ones
  pub closed_behind : (members : List (Member D)) (part : Part) (parts : World) (closed : Closed) → closed_as part.name part.content ≡ Some closed → closed_in (world_of members ++ part ∷ parts) ≡ Some closed
  closed_behind members part parts closed is =
      let world : World = world_of members ++ part ∷ parts in
      ap (λ (first : Option Closed). or_else first (option_map NoBayFor (point_without_bay (records_of world) world)))
      (first_behind members (part ∷ parts) ∙ ap (λ (first : Option Closed). or_else first (first_closed parts)) is)

  -- where all are open
  pub closed_open : (members : List (Member D)) (point : Option (List ℕ)) → point ≡ point_without_bay (records_of (world_of members)) (world_of members) → closed_in (world_of members) ≡ option_map NoBayFor point
  closed_open members point is =
      let world : World = world_of members in
      ap (λ (first : Option Closed). or_else first (option_map NoBayFor (point_without_bay (records_of world) world))) (none_first members)
      ∙ ap (λ (p : Option (List ℕ)). option_map NoBayFor p) (sym is)
