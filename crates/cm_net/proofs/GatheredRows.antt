-- A row more for what is gathered of rows.
use Rattle.std.proofs.Common.{◌≡◌, ℕ, All, ◌+◌, ◌<◌, ◌≤◌, ◌==◌, ◌&&◌, ◌||◌, Bool, true, false, List, [], ◌∷◌, ◌++◌, Some, Option, Vec, MatchOption, length, get_or, map, take, refl, sym, ap, ◌∙◌, cond, arith, is_some, append_assoc, length-append}
use Rattle.std.proofs.Math.Bool.{or-false}
use Rattle.std.specs.List.{list_any}
use Rattle.std.specs.Str.{bytes_eq}
use Rattle.std.specs.declared.alloc.Global.{Global}
use Rattle.std.proofs.lemmas.Cmp.{nat_list_eq_equiv}
use Rattle.std.proofs.lemmas.Grind.{flat_map-append}
use Rattle.std.proofs.lemmas.List.{append-nil, map-append, take_more}
use Rattle.std.proofs.lemmas.List.Elements.{All-cons, All-map, All-nil}
use Rattle.std.proofs.lemmas.List.Folds.{list_any-append}
use Rattle.cm_net.specs.declared.address.Address.{Address}
use Rattle.cm_net.specs.declared.boundary.Boundary.{Boundary}
use Rattle.cm_net.specs.declared.boundary.Boundary.TheVariants.{Site}
use Rattle.cm_net.specs.declared.entry.Entry.{Entry}
use Rattle.cm_net.specs.declared.span.Span.{Span}
use Rattle.cm_net.specs.Boundaries.{IsSound, holds_address, holds_site, is_between, is_site, rows_of}
use Rattle.cm_net.specs.Groups.{numbers_of, rows_in, IsRisingOf}
use Rattle.cm_net.specs.Indexed.{AreSpansOf}
use Rattle.cm_net.specs.Sites.{AreSitesIn, AreSitesOf, HaveNumbersOf, groups_of_site, is_numbered, numbers_for}
use Rattle.cm_net.specs.Spans.{is_held, spans_of}
use Rattle.cm_net.proofs.Added.{ends_say, number_if, numbers_of-push, row_added, row_counted}
use Rattle.cm_net.proofs.Gapless.{Contains-from_has, has-from_Contains, held_behind}

-- the spans of rows of one family, and one row more
pub spans_added : (end : ℕ) (address_of : ℕ → Address) (is_family : Boundary → Bool) (rows : List (Boundary × ℕ)) (row : Boundary × ℕ) (old new : List Span) (ends : Option (ℕ × ℕ))
    → is_some ends ≡ is_family row.0
    → MatchOption ends ((address : ℕ) → address < end → holds_address row.0 (address_of address) ≡ false) (λ e. (address : ℕ) → address < end → holds_address row.0 (address_of address) ≡ is_between e.0 e.1 address)
    → ((address number : ℕ) → is_held new address number ≡ is_held (old ++ spans_of ends row.1) address number)
    → length new ≤ length old + length (spans_of ends row.1)
    → AreSpansOf end address_of is_family rows old → AreSpansOf end address_of is_family (rows ++ row ∷ []) new
spans_added end address_of is_family rows row old new ends kind ends_are same few was =
    let more = spans_of ends row.1 in
    record {
      each = was.each ++ more;
      counted = row_counted is_family was.each _ rows row ends refl kind was.counted;
      right = λ address small.
          row_added (λ (b : Boundary). holds_address b (address_of address)) was.each _ rows row ends address refl
          (ends_say end ends (λ (n : ℕ). holds_address row.0 (address_of n)) ends_are address small) (was.right address small);
      same = λ address group. held_behind old was.each new more address group (same address group) (was.same address group);
      few = omega (arith, few, was.few, length-append was.each more);
    }

-- whether a number is among these
abbrev pub has : ℕ → List ℕ → Bool
has number numbers = list_any (λ other. other == number) numbers

has_if : (b : Bool) (group number : ℕ) → has number (number_if b group) ≡ (b && group == number)
has_if true group number = or-false (group == number)
has_if false group number = refl

-- a row more, of a site and of none
row_has : (f : Boundary → Bool) (rows : List (Boundary × ℕ)) (row : Boundary × ℕ) (number : ℕ)
    → has number (numbers_of f (rows ++ row ∷ [])) ≡ (has number (numbers_of f rows) || (f row.0 && row.1 == number))
row_has f rows row number =
    ap (has number) (numbers_of-push f rows row)
    ∙ list_any-append (λ other. other == number) (numbers_of f rows) (number_if (f row.0) row.1)
    ∙ ap (λ (b : Bool). has number (numbers_of f rows) || b) (has_if (f row.0) row.1 number)

pub site_row : (rows : List (Boundary × ℕ)) (boundary : Boundary) (group : ℕ) (site name : List ℕ) (number : ℕ) (old new : Bool)
    → boundary ≡ Site site → new ≡ (old || (bytes_eq site name && group == number))
    → old ≡ has number (numbers_of (λ boundary. holds_site boundary (Some name)) rows)
    → new ≡ has number (numbers_of (λ boundary. holds_site boundary (Some name)) (rows ++ (boundary, group) ∷ []))
site_row rows boundary group site name number old new from is was =
    let f : Boundary → Bool = λ b. holds_site b (Some name) in
    let same : bytes_eq site name ≡ f boundary = nat_list_eq_equiv.symm site name ∙ ap f (sym from) in
    is ∙ ap (λ (b : Bool). b || (bytes_eq site name && group == number)) was
    ∙ ap (λ (b : Bool). has number (numbers_of f rows) || (b && group == number)) same
    ∙ sym (row_has f rows (boundary, group) number)

-- the rows of lists, one row and one list more
pub rows_more : (rows : List (Boundary × ℕ)) (boundaries : List Boundary) (place : ℕ) (boundary : Boundary) (group : ℕ)
    → place < length boundaries → boundary ≡ get_or boundaries place boundary
    → (rows ++ map (λ each. (each, group)) (take place boundaries)) ++ (boundary, group) ∷ [] ≡ rows ++ map (λ each. (each, group)) (take (place + 1) boundaries)
rows_more rows boundaries place boundary group inside is =
    let numbered : Boundary → Boundary × ℕ = λ each. (each, group) in
    append_assoc rows (map numbered (take place boundaries)) ((boundary, group) ∷ [])
    ∙ ap (λ (ys : List (Boundary × ℕ)). rows ++ ys)
    (sym (map-append numbered (take place boundaries) (boundary ∷ []))
    ∙ ap (map numbered) (ap (λ (b : Boundary). take place boundaries ++ b ∷ []) is ∙ sym (take_more boundaries place boundary inside)))

pub list_more : (lists : List (List Boundary × ℕ)) (place : ℕ) (list : List Boundary × ℕ)
    → place < length lists → list ≡ get_or lists place list
    → rows_in (take place lists) ++ map (λ boundary. (boundary, list.1)) list.0 ≡ rows_in (take (place + 1) lists)
list_more lists place list inside is =
    let rows : List Boundary × ℕ → List (Boundary × ℕ) = λ each. map (λ (boundary : Boundary). (boundary, each.1)) each.0 in
    ap (λ (ys : List (Boundary × ℕ)). rows_in (take place lists) ++ ys) (sym (append-nil (rows list)))
    ∙ sym (flat_map-append rows (take place lists) (list ∷ []))
    ∙ ap rows_in (ap (λ (each : List Boundary × ℕ). take place lists ++ each ∷ []) is ∙ sym (take_more lists place list inside))

-- each row as a list of its own
pub single_lists : (rows : List (Boundary × ℕ)) → rows_in (map (λ row. (row.0 ∷ [], row.1)) rows) ≡ rows
single_lists [] = refl
single_lists (row ∷ rows) = ap (λ (rest : List (Boundary × ℕ)). row ∷ rest) (single_lists rows)

-- the numbers of an entry that is or is not of the site
some_has : (same : Bool) (numbers : List ℕ) (number : ℕ) → has number (cond same numbers []) ≡ (same && has number numbers)
some_has true numbers number = refl
some_has false numbers number = refl

entries_have : (entries : List (List ℕ × Vec ℕ Global)) (site : List ℕ) (number : ℕ) → has number (numbers_for entries site) ≡ is_numbered entries site number
entries_have [] site number = refl
entries_have (entry ∷ entries) site number =
    list_any-append (λ other. other == number) (cond (bytes_eq site entry.0) entry.1.items []) (numbers_for entries site)
    ∙ ap (λ (b : Bool). b || has number (numbers_for entries site)) (some_has (bytes_eq site entry.0) entry.1.items number)
    ∙ ap (λ (b : Bool). (b && has number entry.1.items) || has number (numbers_for entries site)) (nat_list_eq_equiv.symm site entry.0)
    ∙ ap (λ (b : Bool). (bytes_eq entry.0 site && has number entry.1.items) || b) (entries_have entries site number)

rising_alike : (xs ys groups : List ℕ) → ((number : ℕ) → has number xs ≡ has number ys) → IsRisingOf xs groups → IsRisingOf ys groups
rising_alike xs ys groups alike is = record {
  rising = is.rising;
  same = λ number. (
    (λ h. Contains-from_has ys number (sym (alike number) ∙ has-from_Contains xs number ((is.same number).0 h))),
    (λ h. (is.same number).1 (Contains-from_has xs number (alike number ∙ has-from_Contains ys number h))),
  );
}

-- sites that are made of entries, as those of rows
pub sites_in : (rows : List (Boundary × ℕ)) (entries : List (List ℕ × Vec ℕ Global)) (sites : List (Entry (List ℕ)))
    → HaveNumbersOf rows entries → length entries ≤ rows_of is_site rows → AreSitesIn entries sites → AreSitesOf rows sites
sites_in rows entries sites have few are = record {
  right = λ name.
      rising_alike (numbers_for entries name) (numbers_of (λ boundary. holds_site boundary (Some name)) rows) (groups_of_site sites name)
      (λ number. entries_have entries name number ∙ have name number) (are.right name);
  order = are.order;
  few = omega (arith, are.few, few);
}

pub single_sound : (rows : List (Boundary × ℕ)) → All (λ row. IsSound row.0) rows
    → All {X = List Boundary × ℕ} (λ list. All IsSound list.0) (map (λ row. (row.0 ∷ [], row.1)) rows)
single_sound rows sound =
    let P : List Boundary × ℕ → Type 0 = λ list. All IsSound list.0 in
    let single : Boundary × ℕ → List Boundary × ℕ = λ row. (row.0 ∷ [], row.1) in
    All-map P single rows (λ k d inside. All-cons IsSound (get_or rows k d).0 [] (sound k d inside) (All-nil IsSound))
