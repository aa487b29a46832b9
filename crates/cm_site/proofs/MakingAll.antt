-- What `init` does to all bays, one after another.
use Rattle.std.proofs.Common.{◌≡◌, ◌⊎◌, ℕ, ◌+◌, ◌<◌, suc, Bool, true, false, List, [], ◌∷◌, ◌++◌, length, take, drop, slice_index_or, slice_set, Option, inl, refl, sym, ◌∙◌, ap, subst, arith, add-one, drop-cons}
use Rattle.std.specs.Prelude.{◌||◌, ◌&&◌, cond, find, not}
use Rattle.std.specs.Str.{bytes_eq}
use Rattle.std.proofs.lemmas.List.{take_more, take_more_set, drop-set-lt, take-append-drop, set_split}
use Rattle.cm_disk.specs.Disk.{File, Files, IsImage}
use Rattle.cm_disk.proofs.Moments.{started, weaker}
use Rattle.cm_groups.specs.Names.{is_among}
use Rattle.cm_register.specs.Look.{Missing as NoRecords}
use Rattle.cm_state.specs.Look.{Missing}
use Rattle.cm_site.specs.Bays.{names_of}
use Rattle.cm_site.specs.Contents.{Content, OfLibrary, OfRecords, ReadsAs, is_records}
use Rattle.cm_site.specs.Machine.{is_empty, is_made, is_meant, no_bay}
use Rattle.cm_site.specs.Making.{IsAsPart, OpensEither, Makes, MakesWhole, MakesOrNot, HasMade, HasMadeMeant, HasMadeAll, StopsMaking, StopsMakingMeant, StopsMakingAt}
use Rattle.cm_site.specs.Runs.{AllBays, HasKind}
use Rattle.cm_site.specs.Unopened.{none_in}
use Rattle.cm_site.specs.Worlds.{World, Part, is_handed_in}
use Rattle.cm_site.specs.declared.bay.Bay.{Bay}
use Rattle.cm_site.proofs.Left.{keeps_same, reads_as_in}
use Rattle.cm_site.proofs.Makings.{names_in, count_more, find-same}
use Rattle.cm_site.proofs.MakingOne.{some_part, part_or}

-- what holds of bays and of bays behind them holds of all
pub bays_append : {D : Type 0} (P : Part → D → D → Type 0) (world others : World) (olds news more new_more : List (Bay D)) → AllBays P world olds news → AllBays P others more new_more → AllBays P (world ++ others) (olds ++ more) (news ++ new_more)
bays_append P [] others [] [] more new_more all behind = behind
bays_append P [] others [] (new ∷ news) more new_more all behind = absurd all
bays_append P [] others (old ∷ olds) news more new_more all behind = absurd all
bays_append P (part ∷ world) others [] news more new_more all behind = absurd all
bays_append P (part ∷ world) others (old ∷ olds) [] more new_more all behind = absurd all
bays_append P (part ∷ world) others (old ∷ olds) (new ∷ news) more new_more all behind = (all.0, all.1, all.2, bays_append P world others olds news more new_more all.3 behind)

-- the bays have the names of the world
pub names_are : {D : Type 0} (P : Part → D → D → Type 0) (world : World) (olds news : List (Bay D)) → AllBays P world olds news → names_in world ≡ names_of olds
names_are P [] [] [] all = refl
names_are P [] [] (new ∷ news) all = absurd all
names_are P [] (old ∷ olds) news all = absurd all
names_are P (part ∷ world) [] news all = absurd all
names_are P (part ∷ world) (old ∷ olds) [] all = absurd all
names_are P (part ∷ world) (old ∷ olds) (new ∷ news) all = ap (λ (name : List ℕ). name ∷ names_in world) (sym all.0) ∙ ap (λ (names : List (List ℕ)). old.name ∷ names) (names_are P world olds news all.3)

handed_by_name : (name : List ℕ) (world : World) → is_handed_in name world ≡ is_among (names_in world) name
handed_by_name name [] = refl
handed_by_name name (part ∷ world) = ap (λ (b : Bool). bytes_eq part.name name || b) (handed_by_name name world)

-- the first name that is no bay
pub no_bay_is : (names : List (List ℕ)) (world : World) (bays : List (List ℕ)) → names_in world ≡ bays → no_bay names world ≡ find (λ (name : List ℕ). not (is_among bays name)) names
no_bay_is names world bays are =
    find-same (λ (name : List ℕ). not (is_handed_in name world)) (λ (name : List ℕ). not (is_among bays name)) names
    (λ name. ap not (handed_by_name name world ∙ ap (λ (all : List (List ℕ)). is_among all name) are))

-- a bay of that name is of that kind where it has nothing
none_kind : (name : List ℕ) → HasKind name (none_in name)
none_kind name = by (is_records name) refl
  where
    by : (b : Bool) → is_records name ≡ b → HasKind name (cond b (OfRecords NoRecords) (OfLibrary Missing))
    by true is = is
    by false is = is

module _ {D : Type 0} (reads : D → Option Files) (may_leave : D → List ℕ → File → Type 0) (moment : D → ℕ) (left_since : D → ℕ → Files → Type 0) where
  -- a bay as it is
  pub is_part_now : (name : List ℕ) (disk : D) → IsAsPart reads (part_or reads (none_in name) name disk) disk
  is_part_now name disk = some_part reads (none_in name) name disk (none_kind name)

  module _ (only_now : (disk : D) (files : Files) → left_since disk (moment disk) files → IsImage (may_leave disk) files) where
    -- a bay of which nothing is done
    pub makes_none : (made : Bool) (part : Part) (disk : D) → IsAsPart reads part disk → Makes reads may_leave moment left_since made part disk disk
    makes_none made part disk is = record {
      is = is;
      places = λ files told. (files, told, keeps_same false part.content files);
      same = λ not. refl;
      moments = λ files told. weaker moment left_since disk disk (IsImage (may_leave disk)) (λ (image : Files). IsImage (may_leave disk) image ⊎ OpensEither made part.content image)
          (started moment left_since disk (IsImage (may_leave disk)) (only_now disk)) (λ image was. inl was);
    }

    -- a bay that is not meant
    pub not_meant : (names : List (List ℕ)) (name : List ℕ) (disk : D) → is_meant names name ≡ false → HasMadeMeant reads may_leave moment left_since names false name disk disk
    not_meant names name disk other = record {
      part = part_or reads (none_in name) name disk;
      named = refl;
      is_so = ap (λ (b : Bool). b && is_empty (part_or reads (none_in name) name disk).content) other;
      whole = record {
        makes = makes_none false (part_or reads (none_in name) name disk) disk (is_part_now name disk);
        becomes = λ files told. (files, told, subst (λ (c : Content). ReadsAs c files) ((is_part_now name disk).content files told) (reads_as_in name files));
        leaves = λ files told image left. left;
      };
    }

  -- a bay that is meant is made where it has nothing
  meant_is : (names : List (List ℕ)) (name : List ℕ) (part : Part) → is_meant names name ≡ true → name ≡ part.name → is_made names part ≡ is_empty part.content
  meant_is names name part meant named = ap (λ (b : Bool). b && is_empty part.content) (ap (is_meant names) (sym named) ∙ meant)

  pub meant_made : (names : List (List ℕ)) (made : Bool) (name : List ℕ) (old new : D) → is_meant names name ≡ true → HasMade reads may_leave moment left_since made name old new → HasMadeMeant reads may_leave moment left_since names made name old new
  meant_made names made name old new meant has = record { part = has.part; named = has.named; is_so = meant_is names name has.part meant has.named ∙ has.is_so; whole = has.whole }

  pub meant_stops : (faults : D → ℕ) (names : List (List ℕ)) (told name : List ℕ) (old new : D) → is_meant names name ≡ true → StopsMaking reads may_leave moment left_since faults told name old new
      → StopsMakingMeant reads may_leave moment left_since faults names told name old new
  meant_stops faults names told name old new meant stops = record {
    part = stops.part;
    named = stops.named;
    told_is = stops.told_is;
    rose = stops.rose;
    stopped = subst (λ (b : Bool). MakesOrNot reads may_leave moment left_since b stops.part old new) (sym (meant_is names name stops.part meant stops.named)) stops.stopped;
  }

  -- one bay more
  made_more : (names : List (List ℕ)) (count : ℕ) (olds news : List (Bay D)) (made : Bool) (old new : Bay D) → HasMadeAll reads may_leave moment left_since names count olds news
      → new.name ≡ old.name → HasMadeMeant reads may_leave moment left_since names made old.name old.disk new.disk → HasMadeAll reads may_leave moment left_since names (cond made (count + 1) count) (olds ++ old ∷ []) (news ++ new ∷ [])
  made_more names count olds news made old new so_far named one = record {
    world = so_far.world ++ one.part ∷ [];
    each = bays_append (λ part. MakesWhole reads may_leave moment left_since (is_made names part) part) so_far.world (one.part ∷ []) olds news (old ∷ []) (new ∷ []) so_far.each
        (one.named, named ∙ one.named, subst (λ (b : Bool). MakesWhole reads may_leave moment left_since b one.part old.disk new.disk) (sym one.is_so) one.whole, tt);
    count_is = count_more names so_far.world one.part made one.is_so ∙ ap (λ (n : ℕ). cond made (n + 1) n) so_far.count_is;
  }

  module _ (olds items : List (Bay D)) (at : ℕ) (old new : Bay D) (within : at < length items) (size : length items ≡ length olds) (rest : drop at items ≡ drop at olds) (there : old ≡ slice_index_or items at old) where
    within_olds : at < length olds
    within_olds = omega (arith, within, size)

    cut : drop at items ≡ old ∷ drop (suc at) items
    cut = drop-cons items at old within ∙ ap (λ (bay : Bay D). bay ∷ drop (suc at) items) (sym there)

    cut_olds : old ∷ drop (suc at) items ≡ slice_index_or olds at old ∷ drop (suc at) olds
    cut_olds = sym cut ∙ (rest ∙ drop-cons olds at old within_olds)

    same_old : old ≡ slice_index_or olds at old
    same_old = first cut_olds
      where
        first : {x y : Bay D} {xs ys : List (Bay D)} → x ∷ xs ≡ y ∷ ys → x ≡ y
        first e = cc

    same_rest : drop (suc at) items ≡ drop (suc at) olds
    same_rest = behind cut_olds
      where
        behind : {x y : Bay D} {xs ys : List (Bay D)} → x ∷ xs ≡ y ∷ ys → xs ≡ ys
        behind e = cc

    -- one more in front of those that are left
    front_olds : take (at + 1) olds ≡ take at olds ++ old ∷ []
    front_olds = take_more olds at old within_olds ∙ ap (λ (bay : Bay D). take at olds ++ bay ∷ []) (sym same_old)

    front_news : take (at + 1) (slice_set items at new) ≡ take at items ++ new ∷ []
    front_news = take_more_set items at new within

    pub rest_more : drop (at + 1) (slice_set items at new) ≡ drop (at + 1) olds
    rest_more = drop-set-lt (at + 1) items at new (omega arith) ∙ subst (λ (n : ℕ). drop n items ≡ drop n olds) (sym (add-one at)) same_rest

    -- one bay in the middle
    split_olds : olds ≡ take at olds ++ old ∷ drop (suc at) olds
    split_olds = sym (take-append-drop at olds) ∙ (ap (λ (bays : List (Bay D)). take at olds ++ bays) (drop-cons olds at old within_olds)
        ∙ ap (λ (bay : Bay D). take at olds ++ bay ∷ drop (suc at) olds) (sym same_old))

    split_news : slice_set items at new ≡ take at items ++ new ∷ drop (suc at) olds
    split_news = set_split items at new within ∙ ap (λ (bays : List (Bay D)). take at items ++ new ∷ bays) same_rest

    pub all_more : (names : List (List ℕ)) (count : ℕ) (made : Bool) → HasMadeAll reads may_leave moment left_since names count (take at olds) (take at items)
        → new.name ≡ old.name → HasMadeMeant reads may_leave moment left_since names made old.name old.disk new.disk
        → HasMadeAll reads may_leave moment left_since names (cond made (count + 1) count) (take (at + 1) olds) (take (at + 1) (slice_set items at new))
    all_more names count made so_far named one =
        subst (λ (bays : List (Bay D)). HasMadeAll reads may_leave moment left_since names (cond made (count + 1) count) bays (take (at + 1) (slice_set items at new))) (sym front_olds)
        (subst (λ (bays : List (Bay D)). HasMadeAll reads may_leave moment left_since names (cond made (count + 1) count) (take at olds ++ old ∷ []) bays) (sym front_news)
        (made_more names count (take at olds) (take at items) made old new so_far named one))

    pub stops_at : (faults : D → ℕ) (names : List (List ℕ)) (count : ℕ) (told : List ℕ) → HasMadeAll reads may_leave moment left_since names count (take at olds) (take at items)
        → new.name ≡ old.name → StopsMakingMeant reads may_leave moment left_since faults names told old.name old.disk new.disk → StopsMakingAt reads may_leave moment left_since faults names told olds (slice_set items at new)
    stops_at faults names count told so_far named stopped = record {
      olds = take at olds;
      news = take at items;
      count = count;
      made = so_far;
      bay = old;
      now = new;
      named = named;
      stopped = stopped;
      rest = drop (suc at) olds;
      before = split_olds;
      after = split_news;
    }
