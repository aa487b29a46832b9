-- The ends of `init`.
use Rattle.std.proofs.Common.{◌≡◌, ◌⊎◌, ℕ, ◌+◌, ◌≤◌, Bool, true, false, List, [], ◌∷◌, ◌++◌, Option, None, Some, inl, inr, refl, sym, ◌∙◌, ap, subst, arith}
use Rattle.std.specs.Prelude.{length, take, find, not}
use Rattle.std.specs.List.{AllByRecursion}
use Rattle.std.specs.Option.{ForSome}
use Rattle.std.proofs.Math.Seq.{take-length}
use Rattle.std.proofs.lemmas.List.{length-append}
use Rattle.cm_base.specs.Causes.{Rose}
use Rattle.cm_disk.specs.Disk.{File, Files, IsImage}
use Rattle.cm_disk.proofs.Moments.{started, weaker}
use Rattle.cm_groups.specs.Names.{is_among}
use Rattle.cm_site.specs.Bays.{AreDistinct, names_of}
use Rattle.cm_site.specs.Contents.{Content, Change, Made, after_all, ReadsAs, OpensTo}
use Rattle.cm_site.specs.Machine.{Given, Step, replied, init_or, is_made, makings, no_bay, step_init}
use Rattle.cm_site.specs.Making.{IsAsPart, OpensEither, OpensMade, made_of, Makes, MakesWhole, MakesOrNot, HasMadeAll, StopsMakingAt}
use Rattle.cm_site.specs.Runs.{Outside, AllBays, RoseAt, AreLoose, Becomes, Moves, OpensAmong, Leaves, BayDone, IsAfter, BayStops, Steps, Stops, after}
use Rattle.cm_site.specs.Unopened.{none_in}
use Rattle.cm_site.specs.Worlds.{World, Part, Placed, own}
use Rattle.cm_site.specs.declared.bay.Bay.{Bay}
use Rattle.cm_site.specs.declared.reply.Refusal.TheVariants.{NoBay}
use Rattle.cm_site.specs.declared.reply.Reply.{Reply}
use Rattle.cm_site.specs.declared.reply.Reply.TheVariants as reply
use Rattle.cm_site.proofs.Left.{IsAs, IsLeftAs, given_for_bays, left_steps, map_bays, reads_as_in, starts_as}
use Rattle.cm_site.proofs.MakingAll.{bays_append, is_part_now, makes_none, names_are, no_bay_is}
use Rattle.cm_site.proofs.MakingOne.{part_or}
use Rattle.cm_site.proofs.Makings.{Marks, behind_front, distinct_front, first_makings, made_once, makings-append, marks, names_in, own_next, own_of_none}

-- a step of `init` with these changes
abbrev making : Reply → List Placed → Step
making answer changes = record (replied answer) { changes = changes }

not_made : (made : Bool) → made_once made ≡ [] → made ≡ false
not_made true some = absurd (cc)
not_made false none = refl

-- what a bay holds after its change, or without one
made_is : (made : Bool) (content : Content) → after_all (made_once made) content ≡ made_of made content
made_is true content = refl
made_is false content = refl

-- what holds of each bay and of each part
both_bays : {D : Type 0} (P : Part → D → D → Type 0) (Q : Part → Type 0) (world : World) (olds news : List (Bay D)) → AllBays P world olds news → AllByRecursion Q world → AllBays (λ part old new. P part old new × Q part) world olds news
both_bays P Q [] [] [] all each = tt
both_bays P Q [] [] (new ∷ news) all each = absurd all
both_bays P Q [] (old ∷ olds) news all each = absurd all
both_bays P Q (part ∷ world) [] news all each = absurd all
both_bays P Q (part ∷ world) (old ∷ olds) [] all each = absurd all
both_bays P Q (part ∷ world) (old ∷ olds) (new ∷ news) all each = (all.0, all.1, (all.2, each.0), both_bays P Q world olds news all.3 each.1)

both_each : {X : Type 0} (P Q : X → Type 0) (xs : List X) → AllByRecursion P xs → AllByRecursion Q xs → AllByRecursion (λ x. P x × Q x) xs
both_each P Q [] one two = tt
both_each P Q (x ∷ xs) one two = ((one.0, two.0), both_each P Q xs one.1 two.1)

front_each : {X : Type 0} (P : X → Type 0) (xs ys : List X) → AllByRecursion P (xs ++ ys) → AllByRecursion P xs
front_each P [] ys all = tt
front_each P (x ∷ xs) ys all = (all.0, front_each P xs ys all.1)

back_each : {X : Type 0} (P : X → Type 0) (xs ys : List X) → AllByRecursion P (xs ++ ys) → AllByRecursion P ys
back_each P [] ys all = all
back_each P (x ∷ xs) ys all = back_each P xs ys all.1

module _ {D : Type 0} (reads : D → Option Files) (may_leave : D → List ℕ → File → Type 0) (moment : D → ℕ) (left_since : D → ℕ → Files → Type 0) where
  module _ (answer : Reply) (changes : List Placed) (part : Part) where
    abbrev step : Step
    step = making answer changes

    -- what it holds after the first n changes
    after_n : (n : ℕ) (made : Bool) → own part.name (take n changes) ≡ made_once made → after n step part ≡ made_of made part.content
    after_n n made is = ap (λ (changes : List Change). after_all changes part.content) is ∙ made_is made part.content

    after_whole : (made : Bool) → own part.name changes ≡ made_once made → after (length changes) step part ≡ made_of made part.content
    after_whole made is = after_n (length changes) made (ap (own part.name) (take-length changes) ∙ is)

    among : (made : Bool) (image : Files) → own part.name changes ≡ made_once made → OpensEither made part.content image → OpensAmong step part image
    among true image is (inl before) = (0, omega arith, before)
    among true image is (inr later) = (length changes, omega arith, subst (λ (c : Content). OpensTo c image) (sym (after_whole true is)) later)
    among false image is none = absurd none

    module _ (made : Bool) (old new : D) (is : own part.name changes ≡ made_once made) where
      moves_made : Makes reads may_leave moment left_since made part old new → Moves reads may_leave moment left_since step part old new
      moves_made makes = record {
        places = makes.places;
        same = λ none kept. makes.same (not_made made (sym is ∙ none));
        moments = λ good files told. weaker moment left_since old new (λ (image : Files). IsImage (may_leave old) image ⊎ OpensEither made part.content image)
            (λ (image : Files). IsImage (may_leave old) image ⊎ OpensAmong step part image) (makes.moments files told)
            (λ image was. elim was [ inl left ↦ inl left | inr either ↦ inr (among made image is either) ]);
      }

      -- the bay after the whole step
      done_made : MakesWhole reads may_leave moment left_since made part old new → BayDone reads may_leave moment left_since step part old new
      done_made whole = record {
        moves = moves_made whole.makes;
        becomes = subst (λ (c : Content). Becomes (reads old) (reads new) c) (sym (after_whole made is)) whole.becomes;
        leaves = subst (λ (changes : List Change). Leaves reads may_leave false part.content changes old new) (sym is) (by made whole.leaves);
        removed = tt;
      }
        where
          by : (b : Bool) → ForSome (reads old) (λ _. (image : Files) → IsImage (may_leave new) image → OpensMade b part.content (may_leave old) image) → Leaves reads may_leave false part.content (made_once b) old new
          by true leaves = λ good. leaves
          by false leaves = leaves

      -- the bay after the first n changes, of which its own is one
      stops_made : (n : ℕ) → own part.name (take n changes) ≡ made_once made → MakesWhole reads may_leave moment left_since made part old new → BayStops reads may_leave moment left_since n step part old new
      stops_made n first whole = record {
        moves = moves_made whole.makes;
        becomes = inl (subst (λ (c : Content). Becomes (reads old) (reads new) c) (sym (after_n n made first)) whole.becomes);
        images = λ good files told image left. inl (by made first image (whole.leaves files told image left));
      }
        where
          by : (b : Bool) → own part.name (take n changes) ≡ made_once b → (image : Files) → OpensMade b part.content (may_leave old) image → IsAfter (may_leave old) n step part image
          by true first image opens = inl (subst (λ (c : Content). OpensTo c image) (sym (after_n n true first)) opens)
          by false first image was = inr (first, was)

      module _ (n : ℕ) (none : own part.name (take n changes) ≡ []) where
        before_n : after n step part ≡ part.content
        before_n = ap (λ (changes : List Change). after_all changes part.content) none

        -- its own is the next one
        stops_or_not : (made ≡ true → own part.name (take (n + 1) changes) ≡ Made ∷ []) → MakesOrNot reads may_leave moment left_since made part old new → BayStops reads may_leave moment left_since n step part old new
        stops_or_not next failed = record {
          moves = moves_made failed.makes;
          becomes = elim failed.becomes [
            | inl before ↦ inl (subst (λ (c : Content). Becomes (reads old) (reads new) c) (sym before_n) before)
            | inr later ↦ inr (subst (λ (c : Content). Becomes (reads old) (reads new) c) (sym (after_n (n + 1) true (next later.0))) later.1)
          ];
          images = λ good files told image left. elim (failed.images files told image left) [ inl was ↦ inl (inr (none, was)) | inr either ↦ by made next image either ];
        }
          where
            by : (b : Bool) → (b ≡ true → own part.name (take (n + 1) changes) ≡ Made ∷ []) → (image : Files) → OpensEither b part.content image → IsAfter (may_leave old) n step part image ⊎ OpensTo (after (n + 1) step part) image
            by true next image (inl before) = inl (inl (subst (λ (c : Content). OpensTo c image) (sym before_n) before))
            by true next image (inr later) = inr (subst (λ (c : Content). OpensTo c image) (sym (after_n (n + 1) true (next refl))) later)
            by false next image none_here = absurd none_here

        -- its own is behind, and nothing is done
        stops_behind : Makes reads may_leave moment left_since made part old new → reads new ≡ reads old → ((image : Files) → IsImage (may_leave new) image → IsImage (may_leave old) image) → BayStops reads may_leave moment left_since n step part old new
        stops_behind makes same images = record {
          moves = moves_made makes;
          becomes = inl (subst (λ (c : Content). Becomes (reads old) (reads new) c) (sym before_n)
              (λ files told. (files, same ∙ told, subst (λ (c : Content). ReadsAs c files) (makes.is.content files told) (reads_as_in part.name files))));
          images = λ good files told image left. inl (inr (none, images image left));
        }

  -- what a step starts from
  as_part : (part : Part) (old new : D) → IsAsPart reads part old → IsAs reads may_leave moment left_since part old new
  as_part part old new is = record { kind = is.kind; content = is.content; gate = is.gate }

  -- bays as they are
  world_now : List (Bay D) → World
  world_now [] = []
  world_now (bay ∷ bays) = part_or reads (none_in bay.name) bay.name bay.disk ∷ world_now bays

  bays_now : (bays : List (Bay D)) → AllBays (λ part old new. IsAsPart reads part old × (new ≡ old)) (world_now bays) bays bays
  unfolding world_now
  bays_now [] = tt
  bays_now (bay ∷ bays) = (refl, refl, (is_part_now reads may_leave moment left_since bay.name bay.disk, refl), bays_now bays)

  module _ (names : List (List ℕ)) (from to : Outside) (minute : ℕ) where
    abbrev step_names : Given → World → Step
    step_names given = step_init names

    -- the changes of a world whose bays have all names
    step_is : (world : World) → no_bay names world ≡ None → making (reply.Made (length (makings names world))) (makings names world) ≡ step_init names world
    step_is world none = ap (λ (o : Option (List ℕ)). init_or o names world) (sym none)

    world_distinct : (P : Part → D → D → Type 0) (world : World) (olds news : List (Bay D)) → AllBays P world olds news → AreDistinct (names_of olds) → AreDistinct (names_in world)
    world_distinct P world olds news all distinct = subst (λ (all : List (List ℕ)). AreDistinct all) (sym (names_are P world olds news all)) distinct

    no_bay_there : (P : Part → D → D → Type 0) (world : World) (olds news : List (Bay D)) → AllBays P world olds news → None ≡ find (λ (name : List ℕ). not (is_among (names_of olds) name)) names → no_bay names world ≡ None
    no_bay_there P world olds news all none = no_bay_is names world (names_of olds) (names_are P world olds news all) ∙ sym none

    module _ (olds news : List (Bay D)) (distinct : AreDistinct (names_of olds)) where
      -- all bays that are meant were made
      module _ (count : ℕ) (none : None ≡ find (λ (name : List ℕ). not (is_among (names_of olds) name)) names) (made : HasMadeAll reads may_leave moment left_since names count olds news) where
        abbrev IsWhole : Part → D → D → Type 0
        IsWhole part = MakesWhole reads may_leave moment left_since (is_made names part) part

        whole_step : making (reply.Made (length (makings names made.world))) (makings names made.world) ≡ step_init names made.world
        whole_step = step_is made.world (no_bay_there IsWhole made.world olds news made.each none)

        whole_bays : AllBays (BayDone reads may_leave moment left_since (making (reply.Made (length (makings names made.world))) (makings names made.world))) made.world olds news
        whole_bays =
            map_bays (λ part old new. IsWhole part old new × Marks names made.world part) (BayDone reads may_leave moment left_since (making (reply.Made (length (makings names made.world))) (makings names made.world)))
            (λ part old new is. done_made (reply.Made (length (makings names made.world))) (makings names made.world) part (is_made names part) old new is.1 is.0) made.world olds news
            (both_bays IsWhole (Marks names made.world) made.world olds news made.each (marks names made.world (world_distinct IsWhole made.world olds news made.each distinct)))

        pub init_steps : Steps reads may_leave moment left_since step_names from to minute olds news (reply.Made count)
        init_steps = record {
          given = given_for_bays reads may_leave moment left_since from minute olds;
          world = made.world;
          starts = starts_as reads may_leave moment left_since from to minute olds made.world news distinct
              (map_bays IsWhole (IsAs reads may_leave moment left_since) (λ part old new whole. as_part part old new whole.makes.is) made.world olds news made.each);
          asked = subst (λ (s : Step). AllBays (λ part disk _. ForSome (reads disk) (λ files. AreLoose s.asks part files [])) made.world olds news) whole_step
              (map_bays IsWhole (λ part disk _. ForSome (reads disk) (λ files. Unit {0})) (λ part old new whole files told. tt) made.world olds news made.each);
          replies = ap reply.Made (sym made.count_is) ∙ ap (λ (s : Step). s.reply) whole_step;
          bays = subst (λ (s : Step). AllBays (BayDone reads may_leave moment left_since s) made.world olds news) whole_step whole_bays;
        }

    -- the disk of a bay failed
    module _ (only_now : (disk : D) (files : Files) → left_since disk (moment disk) files → IsImage (may_leave disk) files)
        (faults : D → ℕ) (told : List ℕ) (bays : List (Bay D)) (distinct : AreDistinct (names_of bays)) (none : None ≡ find (λ (name : List ℕ). not (is_among (names_of bays) name)) names) where
      module _ (olds news : List (Bay D)) (count : ℕ) (made : HasMadeAll reads may_leave moment left_since names count olds news) (bay now : Bay D) (part : Part) (rest : List (Bay D)) where
        abbrev behind : World
        behind = world_now rest

        abbrev world : World
        world = made.world ++ part ∷ behind

        abbrev n : ℕ
        n = length (makings names made.world)

        abbrev changes : List Placed
        changes = makings names world

        abbrev answer : Reply
        answer = reply.Made (length changes)

        module _ (named : bay.name ≡ part.name) (stays : now.name ≡ bay.name) (failed : MakesOrNot reads may_leave moment left_since (is_made names part) part bay.disk now.disk) where
          abbrev P : Part → D → D → Type 0
          P part old new = IsAsPart reads part old

          abbrev IsMadeWhole : Part → D → D → Type 0
          IsMadeWhole part = MakesWhole reads may_leave moment left_since (is_made names part) part

          world_is : AllBays P world (olds ++ bay ∷ rest) (news ++ now ∷ rest)
          world_is = bays_append P made.world (part ∷ behind) olds news (bay ∷ rest) (now ∷ rest)
              (map_bays IsMadeWhole P (λ part old new whole. whole.makes.is) made.world olds news made.each)
              (named, stays ∙ named, failed.makes.is, map_bays (λ part old new. IsAsPart reads part old × (new ≡ old)) P (λ part old new is. is.0) behind rest rest (bays_now rest))

          module _ (apart : AreDistinct (names_in world)) where
            each_marks : AllByRecursion (Marks names world) world
            each_marks = marks names world apart

            each_behind : AllByRecursion (λ (other : Part). is_among (names_in made.world) other.name ≡ false) (part ∷ behind)
            each_behind = behind_front made.world (part ∷ behind) apart

            first_n : (other : Part) → own other.name (take n changes) ≡ own other.name (makings names made.world)
            first_n other = ap (own other.name) (first_makings names made.world (part ∷ behind))

            first_none : (other : Part) → is_among (names_in made.world) other.name ≡ false → own other.name (take n changes) ≡ []
            first_none other apart_from = first_n other ∙ own_of_none names other.name made.world apart_from

            abbrev Stands : Part → D → D → Type 0
            Stands = BayStops reads may_leave moment left_since n (making answer changes)

            front_stands : AllBays Stands made.world olds news
            front_stands =
                map_bays (λ other old new. IsMadeWhole other old new × (Marks names world other × Marks names made.world other)) Stands
                (λ other old new is. stops_made answer changes other (is_made names other) old new is.1.0 n (first_n other ∙ is.1.1) is.0) made.world olds news
                (both_bays IsMadeWhole (λ other. Marks names world other × Marks names made.world other) made.world olds news made.each
                (both_each (Marks names world) (Marks names made.world) made.world (front_each (Marks names world) made.world (part ∷ behind) each_marks) (marks names made.world (distinct_front made.world (part ∷ behind) apart))))

            back_marks : AllByRecursion (Marks names world) (part ∷ behind)
            back_marks = back_each (Marks names world) made.world (part ∷ behind) each_marks

            failed_stands : Stands part bay.disk now.disk
            failed_stands =
                stops_or_not answer changes part (is_made names part) bay.disk now.disk back_marks.0 n (first_none part each_behind.0) (λ is. own_next names made.world part behind is each_behind.0) failed

            rest_stands : AllBays Stands behind rest rest
            rest_stands =
                map_bays (λ other old new. (IsAsPart reads other old × (new ≡ old)) × (Marks names world other × (is_among (names_in made.world) other.name ≡ false))) Stands
                (λ other old new is. subst (λ (disk : D). Stands other old disk) (sym is.0.1)
                (stops_behind answer changes other (is_made names other) old old is.1.0 n (first_none other is.1.1)
                (makes_none reads may_leave moment left_since only_now (is_made names other) other old is.0.0) refl (λ image left. left))) behind rest rest
                (both_bays (λ other old new. IsAsPart reads other old × (new ≡ old)) (λ other. Marks names world other × (is_among (names_in made.world) other.name ≡ false)) behind rest rest (bays_now rest)
                (both_each (Marks names world) (λ (other : Part). is_among (names_in made.world) other.name ≡ false) behind back_marks.1 each_behind.1))

            all_stand : AllBays Stands world (olds ++ bay ∷ rest) (news ++ now ∷ rest)
            all_stand = bays_append Stands made.world (part ∷ behind) olds news (bay ∷ rest) (now ∷ rest) front_stands (named, stays ∙ named, failed_stands, rest_stands)

          within_all : n ≤ length changes
          within_all = subst (λ (all : List Placed). n ≤ length all) (sym (makings-append names made.world (part ∷ behind)))
              (let sum = length-append (makings names made.world) (makings names (part ∷ behind)) in omega (arith, sum))

          stops_there : (is : bays ≡ olds ++ bay ∷ rest) → Stops reads may_leave moment left_since step_names from to minute (olds ++ bay ∷ rest) (news ++ now ∷ rest)
          stops_there is =
              let distinct_here : AreDistinct (names_of (olds ++ bay ∷ rest)) = subst (λ (all : List (Bay D)). AreDistinct (names_of all)) is distinct in
              let none_here : None ≡ find (λ (name : List ℕ). not (is_among (names_of (olds ++ bay ∷ rest)) name)) names = subst (λ (all : List (Bay D)). None ≡ find (λ (name : List ℕ). not (is_among (names_of all) name)) names) is none in
              let the_step : making answer changes ≡ step_init names world = step_is world (no_bay_there P world (olds ++ bay ∷ rest) (news ++ now ∷ rest) world_is none_here) in
              record {
                given = given_for_bays reads may_leave moment left_since from minute (olds ++ bay ∷ rest);
                world = world;
                starts = starts_as reads may_leave moment left_since from to minute (olds ++ bay ∷ rest) world (news ++ now ∷ rest) distinct_here
                    (map_bays P (IsAs reads may_leave moment left_since) (λ part old new is. as_part part old new is) world (olds ++ bay ∷ rest) (news ++ now ∷ rest) world_is);
                n = n;
                within = subst (λ (s : Step). n ≤ length s.changes) the_step within_all;
                bays = subst (λ (s : Step). AllBays (BayStops reads may_leave moment left_since n s) world (olds ++ bay ∷ rest) (news ++ now ∷ rest)) the_step
                    (all_stand (world_distinct P world (olds ++ bay ∷ rest) (news ++ now ∷ rest) world_is distinct_here));
              }

      rose_behind : (Q : Part → D → D → Type 0) (front : World) (olds news : List (Bay D)) (bay now : Bay D) (rest : List (Bay D)) → AllBays Q front olds news → bay.name ≡ told → Rose (faults bay.disk) (faults now.disk)
          → RoseAt faults told (olds ++ bay ∷ rest) (news ++ now ∷ rest)
      rose_behind Q [] [] [] bay now rest all named rose = inl (named, rose)
      rose_behind Q [] [] (new ∷ news) bay now rest all named rose = absurd all
      rose_behind Q [] (old ∷ olds) news bay now rest all named rose = absurd all
      rose_behind Q (part ∷ front) [] news bay now rest all named rose = absurd all
      rose_behind Q (part ∷ front) (old ∷ olds) [] bay now rest all named rose = absurd all
      rose_behind Q (part ∷ front) (old ∷ olds) (new ∷ news) bay now rest all named rose = inr (rose_behind Q front olds news bay now rest all.3 named rose)

      pub init_stops : (after : List (Bay D)) → StopsMakingAt reads may_leave moment left_since faults names told bays after
          → RoseAt faults told bays after × Stops reads may_leave moment left_since step_names from to minute bays after
      init_stops after ends =
          subst (λ (olds : List (Bay D)). RoseAt faults told olds after × Stops reads may_leave moment left_since step_names from to minute olds after) (sym ends.before)
          (subst (λ (news : List (Bay D)). RoseAt faults told (ends.olds ++ ends.bay ∷ ends.rest) news × Stops reads may_leave moment left_since step_names from to minute (ends.olds ++ ends.bay ∷ ends.rest) news) (sym ends.after) (
            rose_behind (λ part. MakesWhole reads may_leave moment left_since (is_made names part) part) ends.made.world ends.olds ends.news ends.bay ends.now ends.rest ends.made.each (sym ends.stopped.told_is) ends.stopped.rose,
            stops_there ends.olds ends.news ends.count ends.made ends.bay ends.now ends.stopped.part ends.rest ends.stopped.named ends.named ends.stopped.stopped ends.before,
          ))

    -- a name is no bay
    module _ (only_now : (disk : D) (files : Files) → left_since disk (moment disk) files → IsImage (may_leave disk) files)
        (counts : (disk : D) (t : ℕ) (files : Files) → t ≤ moment disk → IsImage (may_leave disk) files → left_since disk t files) where
      left_as : (part : Part) (old new : D) → IsAsPart reads part old × (new ≡ old) → IsLeftAs reads may_leave moment left_since part old new
      left_as part old new is = subst (λ (disk : D). IsLeftAs reads may_leave moment left_since part old disk) (sym is.1) (record {
        left = record { same = refl; run = started moment left_since old (IsImage (may_leave old)) (only_now old) };
        kind = is.0.kind;
        content = is.0.content;
        gate = is.0.gate;
      })

      pub init_refused : (bays : List (Bay D)) (name : List ℕ) → AreDistinct (names_of bays) → Some name ≡ find (λ (name : List ℕ). not (is_among (names_of bays) name)) names
          → Steps reads may_leave moment left_since step_names from to minute bays bays (reply.Refused (NoBay name))
      init_refused bays name distinct first =
          let Q = λ (part : Part) (old new : D). IsAsPart reads part old × (new ≡ old) in
          let missing : no_bay names (world_now bays) ≡ Some name = no_bay_is names (world_now bays) (names_of bays) (names_are Q (world_now bays) bays bays (bays_now bays)) ∙ sym first in
          left_steps reads may_leave moment left_since from to minute bays counts step_names (world_now bays) bays distinct
          (map_bays Q (IsLeftAs reads may_leave moment left_since) left_as (world_now bays) bays bays (bays_now bays)) (reply.Refused (NoBay name))
          (ap (λ (o : Option (List ℕ)). init_or o names (world_now bays)) missing)
