-- The ends of a step of which nothing was done: each disk reads as before, and a crash leaves at each moment what it might have left before.
use Rattle.std.proofs.Common.{◌≡◌, ◌⊎◌, ℕ, ◌≤◌, Bool, true, false, List, [], ◌∷◌, ◌++◌, Option, None, Some, inl, inr, refl, sym, ◌∙◌, ap, subst, arith}
use Rattle.std.specs.Prelude.{cond, length, take}
use Rattle.std.specs.List.{AllByRecursion}
use Rattle.std.specs.Option.{ForSome}
use Rattle.std.specs.Str.{bytes_eq}
use Rattle.std.proofs.lemmas.Option.{none-some, same_Some}
use Rattle.cm_base.specs.Causes.{Rose}
use Rattle.cm_check.specs.declared.finding.Finding.{Finding}
use Rattle.cm_check.specs.Findings.{findings}
use Rattle.cm_disk.specs.Disk.{File, Files, IsImage, LeavesOnly}
use Rattle.cm_disk.proofs.Moments.{started, weaker}
use Rattle.cm_groups.specs.Names.{is_among}
use Rattle.cm_register.specs.Look.{look as look_records, gate_in as gate_of_records, Missing as NoRecords, Unreadable as UnreadableRecords}
use Rattle.cm_state.specs.Look.{Missing, Opened, Unreadable, look, gate_in}
use Rattle.cm_state.specs.Adding.{Told}
use Rattle.cm_tree.specs.declared.entry.Entry.{Entry}
use Rattle.cm_site.specs.Bays.{AreBays, AreDistinct, names_of}
use Rattle.cm_site.specs.Contents.{Content, OfLibrary, OfRecords, content_in, gate_of, is_records, ReadsAs, IsGood}
use Rattle.cm_site.specs.Machine.{Given, Step, replied}
use Rattle.cm_site.specs.Runs.{Outside, KeepsBy, Moves, Becomes, OpensAmong, BayDone, BayGivesUp, BayStops, AllBays, IsPart, HasKind, Starts, Steps, GivesUp, Stops, AreLoose, is_purged, after}
use Rattle.cm_site.specs.Unopened.{IsLeft}
use Rattle.cm_site.specs.Worlds.{World, Part}
use Rattle.cm_site.specs.declared.bay.Bay.{Bay}
use Rattle.cm_site.specs.declared.reply.Reply.{Reply}
use Rattle.cm_site.proofs.Lifted.{same_name, text_or, text_told}
use Rattle.cm_site.proofs.SomeFiles.{amiss_or, amiss_told, some_are, some_readings}

-- nothing has changed
pub keeps_same : (purges : Bool) (content : Content) (files : Files) → KeepsBy purges content files files
keeps_same true (OfLibrary Missing) files = λ q. refl
keeps_same true (OfLibrary (Opened state)) files = record { kept = λ q needed. refl; gone_or = λ q loose. record { bytes = λ i. inl refl; there = inl refl } }
keeps_same true (OfLibrary (Unreadable place at)) files = λ q. refl
keeps_same false (OfLibrary library) files = record { others = λ q elsewhere. refl; kept = λ q there. there }
keeps_same true (OfRecords register) files = record { others = λ q elsewhere. refl; there = λ q there. there }
keeps_same false (OfRecords register) files = record { others = λ q elsewhere. refl; there = λ q there. there }

-- files read as what they are in a bay
pub reads_as_in : (name : List ℕ) (files : Files) → ReadsAs (content_in name files) files
reads_as_in name files = by (is_records name)
  where
    by : (b : Bool) → ReadsAs (cond b (OfRecords (look_records files)) (OfLibrary (look files))) files
    by true = refl
    by false = refl

-- what holds of each bay
pub map_bays : {D : Type 0} (P Q : Part → D → D → Type 0) → ((part : Part) (old new : D) → P part old new → Q part old new) → (world : World) (olds news : List (Bay D)) → AllBays P world olds news → AllBays Q world olds news
map_bays P Q f [] [] [] all = tt
map_bays P Q f [] [] (new ∷ news) all = absurd all
map_bays P Q f [] (old ∷ olds) news all = absurd all
map_bays P Q f (part ∷ world) [] news all = absurd all
map_bays P Q f (part ∷ world) (old ∷ olds) [] all = absurd all
map_bays P Q f (part ∷ world) (old ∷ olds) (new ∷ news) all = (all.0, all.1, f part old.disk new.disk all.2, map_bays P Q f world olds news all.3)

module _ {D : Type 0} (reads : D → Option Files) (may_leave : D → List ℕ → File → Type 0) (moment : D → ℕ) (left_since : D → ℕ → Files → Type 0) where
  -- a bay was left as it was, and it was this part
  pub record IsLeftAs (part : Part) (old new : D) : Type 0 where
    pub left : IsLeft reads may_leave moment left_since old new
    pub kind : HasKind part.name part.content
    pub content : ForSome (reads old) (λ files. content_in part.name files ≡ part.content)
    pub gate : ForSome (reads old) (λ files. gate_of part.name files ≡ part.gate)

  module _ (part : Part) (old new : D) (is : IsLeftAs part old new) where
    moves_left : (step : Step) → Moves reads may_leave moment left_since step part old new
    moves_left step = record {
      places = λ files told. (files, is.left.same ∙ told, keeps_same (is_purged step part.name) part.content files);
      same = λ none kept. is.left.same;
      moments = λ good files told. weaker moment left_since old new (IsImage (may_leave old)) (λ (image : Files). IsImage (may_leave old) image ⊎ OpensAmong step part image) is.left.run (λ image was. inl was);
    }

    becomes_left : Becomes (reads old) (reads new) part.content
    becomes_left = λ files told. (files, is.left.same ∙ told, subst (λ (c : Content). ReadsAs c files) (is.content files told) (reads_as_in part.name files))

    module _ (counts : (disk : D) (t : ℕ) (files : Files) → t ≤ moment disk → IsImage (may_leave disk) files → left_since disk t files) where
      was_image : (image : Files) → IsImage (may_leave new) image → IsImage (may_leave old) image
      was_image image now = is.left.run.each image (counts new (moment old) image is.left.run.later now)

      done_left : (reply : Reply) → BayDone reads may_leave moment left_since (replied reply) part old new
      done_left reply = record {
        moves = moves_left (replied reply);
        becomes = becomes_left;
        leaves = λ files told image now. was_image image now;
        removed = tt;
      }

      gives_up_left : (step : Step) → BayGivesUp reads may_leave moment left_since 0 step part old new
      gives_up_left step = record {
        moves = moves_left step;
        becomes = becomes_left;
        images = λ good files told image now. inr (refl, was_image image now);
      }

      stops_left : (step : Step) → BayStops reads may_leave moment left_since 0 step part old new
      stops_left step = record {
        moves = moves_left step;
        becomes = inl becomes_left;
        images = λ good files told image now. inl (inr (refl, was_image image now));
      }

  -- what is amiss in the first bay of a name
  abbrev pub amiss_in : List (Bay D) → List ℕ → List Entry → List Finding
  amiss_in [] name manifest = []
  amiss_in (bay ∷ bays) name manifest = cond (bytes_eq name bay.name) (amiss_or (reads bay.disk) manifest) (amiss_in bays name manifest)

  abbrev IsAmissIn : List (Bay D) → Bay D → Type 0
  IsAmissIn bays bay = (manifest : List Entry) → amiss_in bays bay.name manifest ≡ amiss_or (reads bay.disk) manifest

  behind : (first : Bay D) (bays rest : List (Bay D)) → is_among (names_of rest) first.name ≡ false → AllByRecursion (IsAmissIn bays) rest → AllByRecursion (IsAmissIn (first ∷ bays)) rest
  behind first bays [] none each = tt
  behind first bays (bay ∷ rest) none each = by (bytes_eq bay.name first.name) refl none (behind first bays rest)
    where
      by : (b : Bool) → bytes_eq bay.name first.name ≡ b → is_among (names_of (bay ∷ rest)) first.name ≡ false
          → (is_among (names_of rest) first.name ≡ false → AllByRecursion (IsAmissIn bays) rest → AllByRecursion (IsAmissIn (first ∷ bays)) rest) → AllByRecursion (IsAmissIn (first ∷ bays)) (bay ∷ rest)
      by true is none more = absurd (cc)
      by false is none more = (λ manifest. ap (λ b. cond b (amiss_or (reads first.disk) manifest) (amiss_in bays bay.name manifest)) is ∙ each.0 manifest, more (cc) each.1)

  amiss_each : (bays : List (Bay D)) → AreDistinct (names_of bays) → AllByRecursion (IsAmissIn bays) bays
  amiss_each [] distinct = tt
  amiss_each (bay ∷ bays) distinct = (
    λ manifest. ap (λ b. cond b (amiss_or (reads bay.disk) manifest) (amiss_in bays bay.name manifest)) (same_name bay.name),
    behind bay bays bays distinct.0 (amiss_each bays distinct.1),
  )

  -- what a step may be given that asks for nothing
  abbrev pub given_for_bays : Outside → ℕ → List (Bay D) → Given
  given_for_bays from minute bays = record { readings = some_readings from.folder.shown; amiss = amiss_in bays; loose = []; text = Some (text_or from.input.left); minute = minute }

  kinds_left : (world : World) (olds news : List (Bay D)) → AllBays (λ part _ _. HasKind part.name part.content) world olds news → AllByRecursion (λ (part : Part). HasKind part.name part.content) world
  kinds_left [] [] [] all = tt
  kinds_left [] [] (new ∷ news) all = absurd all
  kinds_left [] (old ∷ olds) news all = absurd all
  kinds_left (part ∷ world) [] news all = absurd all
  kinds_left (part ∷ world) (old ∷ olds) [] all = absurd all
  kinds_left (part ∷ world) (old ∷ olds) (new ∷ news) all = (all.2, kinds_left world olds news all.3)

  -- what bays are, by their disks at the entry
  pub record IsAs (part : Part) (old new : D) : Type 0 where
    pub kind : HasKind part.name part.content
    pub content : ForSome (reads old) (λ files. content_in part.name files ≡ part.content)
    pub gate : ForSome (reads old) (λ files. gate_of part.name files ≡ part.gate)

  module _ (from to : Outside) (minute : ℕ) (bays : List (Bay D)) where
    abbrev given : Given
    given = given_for_bays from minute bays

    parts_left : (world : World) (olds news : List (Bay D)) → AllByRecursion (IsAmissIn bays) olds → AllBays IsAs world olds news → AllBays (λ part disk _. ForSome (reads disk) (IsPart given part)) world olds news
    parts_left [] [] [] amiss all = tt
    parts_left [] [] (new ∷ news) amiss all = absurd all
    parts_left [] (old ∷ olds) news amiss all = absurd all
    parts_left (part ∷ world) [] news amiss all = absurd all
    parts_left (part ∷ world) (old ∷ olds) [] amiss all = absurd all
    parts_left (part ∷ world) (old ∷ olds) (new ∷ news) amiss all = (
      all.0,
      all.1,
      λ files told. record {
        content = all.2.content files told;
        gate = all.2.gate files told;
        amiss = λ manifest. subst (λ (name : List ℕ). amiss_in bays name manifest ≡ findings files manifest) all.0 (amiss.0 manifest ∙ amiss_told (reads old.disk) files told manifest);
      },
      parts_left world olds news amiss.1 all.3,
    )

    -- a step may start from it
    pub starts_as : (world : World) (news : List (Bay D)) → AreDistinct (names_of bays) → AllBays IsAs world bays news → Starts reads from to minute given world bays news
    starts_as world news distinct all = record {
      readings = some_are from.folder.shown from.folder.faults to.folder.faults;
      text = text_told from.input.left;
      minute_is = refl;
      kinds = kinds_left world bays news (map_bays IsAs (λ part _ _. HasKind part.name part.content) (λ part old new is. is.kind) world bays news all);
      parts = parts_left world bays news (amiss_each bays distinct) all;
    }

    module _ (counts : (disk : D) (t : ℕ) (files : Files) → t ≤ moment disk → IsImage (may_leave disk) files → left_since disk t files)
        (step : Given → World → Step) (world : World) (news : List (Bay D)) (distinct : AreDistinct (names_of bays)) (all : AllBays IsLeftAs world bays news) where
      starts : Starts reads from to minute given world bays news
      starts = starts_as world news distinct (map_bays IsLeftAs IsAs (λ part old new is. record { kind = is.kind; content = is.content; gate = is.gate }) world bays news all)

      -- the step is a reply without a change
      pub left_steps : (reply : Reply) → step given world ≡ replied reply → Steps reads may_leave moment left_since step from to minute bays news reply
      left_steps reply is = let back : replied reply ≡ step given world = sym is in record {
        given = given;
        world = world;
        starts = starts;
        asked = subst (λ (s : Step). AllBays (λ part disk _. ForSome (reads disk) (λ files. AreLoose s.asks part files given.loose)) world bays news) back
            (map_bays IsLeftAs (λ part disk _. ForSome (reads disk) (λ files. Unit {0})) (λ part old new was files told. tt) world bays news all);
        replies = ap (λ (s : Step). s.reply) back;
        bays = subst (λ (s : Step). AllBays (BayDone reads may_leave moment left_since s) world bays news) back
            (map_bays IsLeftAs (BayDone reads may_leave moment left_since (replied reply)) (λ part old new was. done_left part old new was counts reply) world bays news all);
      }

      -- there was no memory before the first change
      pub left_gives_up : GivesUp reads may_leave moment left_since step from to minute bays news
      left_gives_up = record {
        given = given;
        world = world;
        starts = starts;
        n = 0;
        within = omega arith;
        bays = map_bays IsLeftAs (BayGivesUp reads may_leave moment left_since 0 (step given world)) (λ part old new was. gives_up_left part old new was counts (step given world)) world bays news all;
      }

      -- a disk failed before the first change
      pub left_stops : Stops reads may_leave moment left_since step from to minute bays news
      left_stops = record {
        given = given;
        world = world;
        starts = starts;
        n = 0;
        within = omega arith;
        bays = map_bays IsLeftAs (BayStops reads may_leave moment left_since 0 (step given world)) (λ part old new was. stops_left part old new was counts (step given world)) world bays news all;
      }
