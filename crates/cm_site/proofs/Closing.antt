-- The ends of a step on an opened library, at what the library then tells of its disk.
use Rattle.std.proofs.Common.{◌≡◌, ◌⊎◌, ℕ, ◌+◌, ◌≤◌, ◌<◌, zero, suc, inl, inr, List, [], ◌∷◌, length, take, Option, None, Some, refl, sym, ◌∙◌, ap, subst, arith}
use Rattle.std.specs.Prelude.{slice_get, map, cond, filter, Bool, true, false, if◌then◌else◌}
use Rattle.std.specs.Option.{ForSome, option_map_or}
use Rattle.std.specs.Str.{bytes_eq}
use Rattle.std.proofs.lemmas.Bool.{false≢true}
use Rattle.std.proofs.lemmas.List.{length-map}
use Rattle.std.proofs.Math.Seq.{take-length}
use Rattle.std.proofs.lemmas.Option.{none-some}
use Rattle.std.proofs.lemmas.Slice.Eq.{bytes_eq-Decides}
use Rattle.cm_base.specs.Causes.{Rose}
use Rattle.cm_disk.specs.Disk.{File, Files, IsImage, LeavesOnly}
use Rattle.cm_disk.specs.Walks.{AreListed}
use Rattle.cm_disk.proofs.Moments.{started, joins, weaker}
use Rattle.cm_intake.specs.Intake.{Goes, Rests, Stops as RunStops, OpensAmong as RunOpens}
use Rattle.cm_library.specs.Kept.{Seen}
use Rattle.cm_library.specs.Placing.{KeepsPlaces}
use Rattle.cm_state.specs.Adding.{Told}
use Rattle.cm_state.specs.Changes.{StateChange, after_change, changed, replayed}
use Rattle.cm_state.specs.Look.{Opened, look}
use Rattle.cm_state.specs.Opens.{Opens, OpensOr, StandsOr, EachOpensSome}
use Rattle.cm_state.specs.Purged.{loose}
use Rattle.cm_state.specs.State.{State}
use Rattle.cm_site.specs.Contents.{Content, OfLibrary, Change, InLibrary, after_all, OpensTo}
use Rattle.cm_site.specs.Machine.{lifted}
use Rattle.cm_site.specs.Machine.{Step as SiteStep}
use Rattle.cm_site.specs.OneEnds.{part_with, StartsOne, OneSteps, OneGivesUp, OneStops, OneEndsOn}
use Rattle.cm_site.specs.OneLibrary.{Given, Step}
use Rattle.cm_site.specs.Opened.{IsOpened}
use Rattle.cm_site.specs.Runs.{Sourced, KeepsBy, OpensAmong, Moves, Becomes, HasRemoved, BayDone, BayGivesUp, BayStops, IsAfter, after, is_purged}
use Rattle.cm_site.specs.Worlds.{Part, Placed, at, own}
use Rattle.cm_site.specs.declared.reply.Reply.{Reply}
use Rattle.cm_site.specs.declared.reply.Reply.TheVariants.{Made, Added, Dropped, Changed, Topology, Versions, Findings, Loose, Purged, Refused, Source, Disk, Memory, NoLibrary, NoBayFor, Unreadable}

-- a reply of the opened library, and changes that are committed, by a step that asks for places or doesn't
abbrev pub asking : Bool → Reply → List StateChange → Step
asking asks reply changes = record { reply = reply; changes = changes; purges = false; asks = asks }

-- What a library tells of what a crash leaves now.
pub record Leaves {D : Type 0} (reads : D → Option Files) (may_leave : D → List ℕ → File → Type 0) (library : Seen D) : Type 0 where
  pub files : ForSome (reads library.disk) (λ files. library.pending ≡ None → look files ≡ Opened library.state)
  pub stands : ForSome (reads library.disk) (λ _. (image : Files) → IsImage (may_leave library.disk) image → StandsOr library.state library.pending image)
  pub opens : EachOpensSome (may_leave library.start) → ForSome (reads library.disk) (λ _. (image : Files) → IsImage (may_leave library.disk) image → OpensOr library.state library.pending image)

-- a reply that is neither for a fault of the disk nor for want of memory
abbrev pub IsTold : Reply → Type 0
IsTold (Disk bay) = ⊥
IsTold Memory = ⊥
IsTold reply = Unit {0}

-- a count that rose from later on rose from before
pub rose_before : (a b c : ℕ) → a ≤ b → Rose b c → Rose a c
rose_before a b c le rose = omega arith

-- the next change of a list leads from the state before it to the state after it
next_state : (n : ℕ) (changes : List StateChange) (state : State) → n < length changes → after_change (slice_get changes n) (replayed (take n changes) state) ≡ replayed (take (suc n) changes) state
next_state n [] state lt = absurd (omega arith)
next_state zero (first ∷ changes) state lt = refl
next_state (suc n) (first ∷ changes) state lt = next_state n changes (changed first state) (omega arith)

-- opened to one state in both cases
pub one_state : (image : Files) (state : State) → OpensOr state None image → Opens image state
one_state image state (inl opens) = opens
one_state image state (inr opens) = opens

-- no place is written
pub places_stay : (reads : Option Files) → Told KeepsPlaces reads reads
places_stay reads files told = (files, told, record { others = λ q elsewhere. refl; kept = λ q there. there })

-- the changes of a library as changes of its bay

abbrev in_bay : List ℕ → StateChange → Placed
in_bay bay change = at bay (InLibrary change)

own_all : (bay : List ℕ) (changes : List StateChange) → own bay (map (in_bay bay) changes) ≡ map InLibrary changes
own_all bay [] = refl
own_all bay (change ∷ changes) =
    ap (λ (b : Bool). map (λ (placed : Placed). placed.change) (cond b (in_bay bay change ∷ filter (λ (placed : Placed). bytes_eq placed.bay bay) (map (in_bay bay) changes)) (filter (λ (placed : Placed). bytes_eq placed.bay bay) (map (in_bay bay) changes)))) ((bytes_eq-Decides bay bay).1 refl)
    ∙ ap (λ (rest : List Change). InLibrary change ∷ rest) (own_all bay changes)

first_in_bay : (bay : List ℕ) (n : ℕ) (changes : List StateChange) → take n (map (in_bay bay) changes) ≡ map (in_bay bay) (take n changes)
first_in_bay bay zero changes = refl
first_in_bay bay (suc n) [] = refl
first_in_bay bay (suc n) (change ∷ changes) = ap (λ (rest : List Placed). in_bay bay change ∷ rest) (first_in_bay bay n changes)

states_after : (changes : List StateChange) (state : State) → after_all (map InLibrary changes) (OfLibrary (Opened state)) ≡ OfLibrary (Opened (replayed changes state))
states_after [] state = refl
states_after (change ∷ changes) state = states_after changes (changed change state)

-- what the bay holds after the first n changes
pub after_first : (bay : List ℕ) (state : State) (gate n : ℕ) (step : Step) → after n (lifted bay step) (part_with bay state gate) ≡ OfLibrary (Opened (replayed (take n step.changes) state))
after_first bay state gate n step =
    ap (λ (changes : List Placed). after_all (own bay changes) (OfLibrary (Opened state))) (first_in_bay bay n step.changes)
    ∙ (ap (λ (changes : List Change). after_all changes (OfLibrary (Opened state))) (own_all bay (take n step.changes)) ∙ states_after (take n step.changes) state)

none_of_all : {X : Type 0} (xs : List X) → xs ≡ [] → length xs ≡ 0
none_of_all xs is = ap length is

-- a bay without a change has a step without one
none_without : (bay : List ℕ) (changes : List StateChange) → own bay (map (in_bay bay) changes) ≡ [] → length changes ≡ 0
none_without bay changes none = sym (length-map changes InLibrary) ∙ ap (λ (cs : List Change). length cs) (sym (own_all bay changes) ∙ none)

purges_by : (bay : List ℕ) (b : Bool) → b ≡ false → option_map_or (λ name. bytes_eq name bay) (if b then Some bay else None) false ≡ false
purges_by bay true is = absurd (false≢true (sym is))
purges_by bay false is = refl

module _ {D : Type 0} (reads : D → Option Files) (may_leave : D → List ℕ → File → Type 0) (moment : D → ℕ) (left_since : D → ℕ → Files → Type 0) (faults : D → ℕ) (bay : List ℕ) where
  -- A library of which nothing is done rests.
  pub rests_none : (was : Seen D) (changes : List StateChange) → was.pending ≡ None → Leaves reads may_leave was → ((files : Files) → left_since was.disk (moment was.disk) files → IsImage (may_leave was.disk) files)
      → Rests reads may_leave moment left_since 0 changes was was
  rests_none was changes idle leaves only_now = record {
    goes = record {
      within = omega arith;
      state = refl;
      start = refl;
      moments = λ whole files told. started moment left_since was.disk (RunOpens changes was.state)
          (λ image left. (0, omega arith, one_state image was.state (subst (λ (o : Option StateChange). OpensOr was.state o image) idle (leaves.opens whole files told image (only_now image left)))));
    };
    idle = idle;
    same = λ none. refl;
  }

  module _ (was now : Seen D) (open_is : IsOpened reads may_leave moment left_since faults was) (places : Told KeepsPlaces (reads was.disk) (reads now.disk)) (leaves : Leaves reads may_leave now) where
    from_start : Told KeepsPlaces (reads was.start) (reads now.disk)
    from_start = subst (λ (o : Option Files). Told KeepsPlaces o (reads now.disk)) open_is.same places

    abbrev part : Part
    part = part_with bay was.state was.end

    module _ (done : Step) (no_purge : done.purges ≡ false) where
      abbrev s : SiteStep
      s = lifted bay done

      not_purged : is_purged s bay ≡ false
      not_purged = purges_by bay done.purges no_purge

      opens_after : (n : ℕ) (image : Files) → Opens image (replayed (take n done.changes) was.state) → OpensTo (after n s part) image
      opens_after n image opens = subst (λ (c : Content). OpensTo c image) (sym (after_first bay was.state was.end n done)) opens

      becomes_after : (n : ℕ) (old : Option Files) → ForSome old (λ _. (files : Files) × (reads now.disk ≡ Some files) × (look files ≡ Opened (replayed (take n done.changes) was.state))) → Becomes old (reads now.disk) (after n s part)
      becomes_after n old is = subst (λ (c : Content). Becomes old (reads now.disk) c) (sym (after_first bay was.state was.end n done)) is

      within_all : (n : ℕ) → n ≤ length done.changes → n ≤ length s.changes
      within_all n le = subst (λ (m : ℕ). n ≤ m) (sym (length-map done.changes (in_bay bay))) le

      module _ (n : ℕ) (goes : Goes reads may_leave moment left_since n done.changes was now) where
        moments : EachOpensSome (may_leave was.start)
            → ForSome (reads was.start) (λ _. LeavesOnly moment left_since was.start now.disk (λ (image : Files). IsImage (may_leave was.start) image ⊎ OpensAmong s part image))
        moments whole files told =
            joins moment left_since was.start was.disk now.disk (λ (image : Files). IsImage (may_leave was.start) image ⊎ OpensAmong s part image) (RunOpens done.changes was.state)
            (weaker moment left_since was.start was.disk (IsImage (may_leave was.start)) (λ (image : Files). IsImage (may_leave was.start) image ⊎ OpensAmong s part image) open_is.moments (λ image is. inl is))
            (goes.moments whole files (open_is.same ∙ told))
            (λ image among. inr (among.0, within_all among.0 among.1, opens_after among.0 image among.2))

        becomes_idle : now.pending ≡ None → Becomes (reads was.start) (reads now.disk) (after n s part)
        becomes_idle idle = becomes_after n (reads was.start) (λ files told.
            let t = from_start files told in
            (t.0, t.1, leaves.files t.0 t.1 idle ∙ ap Opened goes.state))

        left_now : EachOpensSome (may_leave was.start) → ForSome (reads was.start) (λ _. (image : Files) → IsImage (may_leave now.disk) image → OpensOr now.state now.pending image)
        left_now whole files told image left =
            let t = from_start files told in
            leaves.opens (subst (λ (d : D). EachOpensSome (may_leave d)) (sym goes.start) whole) t.0 t.1 image left

        opens_idle : now.pending ≡ None → EachOpensSome (may_leave was.start) → ForSome (reads was.start) (λ _. (image : Files) → IsImage (may_leave now.disk) image → OpensTo (after n s part) image)
        opens_idle idle whole files told image left = opens_after n image
            (subst (λ (st : State). Opens image st) goes.state (one_state image now.state (subst (λ (o : Option StateChange). OpensOr now.state o image) idle (left_now whole files told image left))))

        moves : (length done.changes ≡ 0 → reads now.disk ≡ reads was.disk) → Moves reads may_leave moment left_since s part was.start now.disk
        moves same = record {
          places = subst (λ (b : Bool). Told (KeepsBy b part.content) (reads was.start) (reads now.disk)) (sym not_purged) from_start;
          same = λ none kept. same (none_without bay done.changes none) ∙ open_is.same;
          moments = moments;
        }

        -- the state after the next change, which is in flight
        state_then : n < length done.changes → now.pending ≡ slice_get done.changes n → after_change now.pending now.state ≡ replayed (take (n + 1) done.changes) was.state
        state_then lt flight =
            let more : suc n ≡ n + 1 = omega arith in
            ap (λ (o : Option StateChange). after_change o now.state) flight
            ∙ (ap (λ (st : State). after_change (slice_get done.changes n) st) goes.state
            ∙ subst (λ (m : ℕ). after_change (slice_get done.changes n) (replayed (take n done.changes) was.state) ≡ replayed (take m done.changes) was.state) more (next_state n done.changes was.state lt))

        -- reads give the state before the change in flight, or after it
        becomes_either : ((files : Files) → reads now.disk ≡ Some files → IsImage (may_leave now.disk) files) → n < length done.changes → now.pending ≡ slice_get done.changes n
            → Becomes (reads was.start) (reads now.disk) (after n s part) ⊎ Becomes (reads was.start) (reads now.disk) (after (n + 1) s part)
        becomes_either as_it_reads lt flight = by (reads was.start) refl
          where
            by : (o : Option Files) → reads was.start ≡ o → Becomes o (reads now.disk) (after n s part) ⊎ Becomes o (reads now.disk) (after (n + 1) s part)
            by None none = inl (λ files told. absurd (none-some files told))
            by (Some files) is =
                let t = from_start files is in
                elim (leaves.stands t.0 t.1 t.0 (as_it_reads t.0 t.1)) [
                  | inl before ↦ inl (becomes_after n (Some files) (λ other told. (t.0, t.1, before ∙ ap Opened goes.state)))
                  | inr later ↦ inr (becomes_after (n + 1) (Some files) (λ other told. (t.0, t.1, later ∙ ap Opened (state_then lt flight))))
                ]

        -- each image opens to one of the two
        images_either : n < length done.changes → now.pending ≡ slice_get done.changes n → EachOpensSome (may_leave was.start) → ForSome (reads was.start) (λ _. (image : Files) → IsImage (may_leave now.disk) image
            → IsAfter (may_leave was.start) n s part image ⊎ OpensTo (after (n + 1) s part) image)
        images_either lt flight whole files told image left =
            elim (left_now whole files told image left) [
              | inl before ↦ inl (inl (opens_after n image (subst (λ (st : State). Opens image st) goes.state before)))
              | inr later ↦ inr (opens_after (n + 1) image (subst (λ (st : State). Opens image st) (state_then lt flight) later))
            ]

      -- the bay behind the whole step, behind n changes for want of memory, and behind n changes of a disk that failed
      pub closed_done : Rests reads may_leave moment left_since (length done.changes) done.changes was now → BayDone reads may_leave moment left_since s part was.start now.disk
      closed_done rests = let all : length s.changes ≡ length done.changes = length-map done.changes (in_bay bay) in record {
        moves = moves (length done.changes) rests.goes rests.same;
        becomes = subst (λ (n : ℕ). Becomes (reads was.start) (reads now.disk) (after n s part)) (sym all) (becomes_idle (length done.changes) rests.goes rests.idle);
        leaves = λ whole files told image left. subst (λ (c : Content). OpensTo c image) (whole_after (length done.changes) (take_all done.changes))
            (opens_idle (length done.changes) rests.goes rests.idle whole files told image left);
        removed = subst (λ (b : Bool). HasRemoved reads may_leave b part.content was.start now.disk) (sym not_purged) tt;
      }
        where
          whole_after : (n : ℕ) → take n done.changes ≡ done.changes → after n s part ≡ after_all (own bay s.changes) part.content
          whole_after n is = ap (λ (changes : List Placed). after_all (own bay changes) part.content) (first_in_bay bay n done.changes ∙ ap (map (in_bay bay)) is)

          take_all : {X : Type 0} (xs : List X) → take (length xs) xs ≡ xs
          take_all xs = take-length xs

      pub closed_given_up : (n : ℕ) → Rests reads may_leave moment left_since n done.changes was now → BayGivesUp reads may_leave moment left_since n s part was.start now.disk
      closed_given_up n rests = record {
        moves = moves n rests.goes (λ none. rests.same (omega (arith, rests.goes.within, none)));
        becomes = becomes_idle n rests.goes rests.idle;
        images = λ whole files told image left. inl (opens_idle n rests.goes rests.idle whole files told image left);
      }

      pub closed_stopped : ((files : Files) → reads now.disk ≡ Some files → IsImage (may_leave now.disk) files) → (n : ℕ) → RunStops reads may_leave moment left_since n done.changes was now → BayStops reads may_leave moment left_since n s part was.start now.disk
      closed_stopped as_it_reads n stops = by stops.flight
        where
          by : (now.pending ≡ None) ⊎ ((n < length done.changes) × (now.pending ≡ slice_get done.changes n)) → BayStops reads may_leave moment left_since n s part was.start now.disk
          by (inl idle) = record { moves = moves n stops.goes stops.same; becomes = inl (becomes_idle n stops.goes idle); images = λ whole files told image left. inl (inl (opens_idle n stops.goes idle whole files told image left)) }
          by (inr flight) = record { moves = moves n stops.goes stops.same; becomes = becomes_either n stops.goes as_it_reads flight.0 flight.1; images = images_either n stops.goes flight.0 flight.1 }

    module _ (step : Given → State → Step) (from to : Sourced) (given : Given) (starts : StartsOne from to (reads was.start) given) (gate : given.gate ≡ was.end) where
      abbrev EndsSo : Reply → Type 0
      EndsSo reply = OneEndsOn reads may_leave moment left_since faults bay was.state was.end step from to reply was.start now.disk

      -- the step was done whole, and asked for the places that the library does not need, or did not
      pub steps_asked : (reply : Reply) (asks : Bool) (changes : List StateChange) → (asks ≡ true → ForSome (reads was.start) (λ files. AreListed (loose was.state files) given.loose))
          → step given was.state ≡ asking asks reply changes → Rests reads may_leave moment left_since (length changes) changes was now
          → OneSteps reads may_leave moment left_since faults bay was.state was.end step from to was.start now.disk reply
      steps_asked reply asks changes listed gives rests =
          let back : asking asks reply changes ≡ step given was.state = sym gives in
          record {
            given = given;
            starts = starts;
            gate_is = gate;
            asked = λ is. listed (ap (λ (st : Step). st.asks) back ∙ is);
            replies = ap (λ (st : Step). st.reply) back;
            done = subst (λ (st : Step). BayDone reads may_leave moment left_since (lifted bay st) part was.start now.disk) back (closed_done (asking asks reply changes) refl rests);
          }

      -- a step that was done whole ends so
      pub ends_told : (reply : Reply) → IsTold reply → OneSteps reads may_leave moment left_since faults bay was.state was.end step from to was.start now.disk reply → EndsSo reply
      ends_told (Made count) told steps = steps
      ends_told (Added id version files bytes) told steps = steps
      ends_told Dropped told steps = steps
      ends_told (Changed path first first_size second second_size) told steps = steps
      ends_told (Topology boundaries groups points peers joined) told steps = steps
      ends_told (Versions versions jobs) told steps = steps
      ends_told (Findings files list) told steps = steps
      ends_told (Loose places) told steps = steps
      ends_told (Purged files manifests) told steps = steps
      ends_told (Refused refusal) told steps = steps
      ends_told Source told steps = steps
      ends_told (Disk name) told steps = absurd told
      ends_told Memory told steps = absurd told
      ends_told (NoLibrary name) told steps = steps
      ends_told (NoBayFor name) told steps = steps
      ends_told (Unreadable name place at) told steps = steps

      -- there was no memory behind n of its changes
      pub gives_up_closed : (done : Step) → step given was.state ≡ done → done.purges ≡ false → (n : ℕ) → Rests reads may_leave moment left_since n done.changes was now → EndsSo Memory
      gives_up_closed done is no_purge n rests = record {
        given = given;
        starts = starts;
        gate_is = gate;
        n = n;
        within = subst (λ (st : Step). n ≤ length st.changes) (sym is) rests.goes.within;
        stands = subst (λ (st : Step). BayGivesUp reads may_leave moment left_since n (lifted bay st) part was.start now.disk) (sym is) (closed_given_up done no_purge n rests);
      }

      -- the disk failed behind n of its changes
      pub ends_disk : ((files : Files) → reads now.disk ≡ Some files → IsImage (may_leave now.disk) files) → (done : Step) → step given was.state ≡ done → done.purges ≡ false → (n : ℕ) → RunStops reads may_leave moment left_since n done.changes was now
          → Rose (faults was.disk) (faults now.disk) → EndsSo (Disk bay)
      ends_disk as_it_reads done is no_purge n stops rose = (
        refl,
        rose_before (faults was.start) (faults was.disk) (faults now.disk) open_is.later rose,
        record {
          given = given;
          starts = starts;
          gate_is = gate;
          n = n;
          within = subst (λ (st : Step). n ≤ length st.changes) (sym is) stops.goes.within;
          stands = subst (λ (st : Step). BayStops reads may_leave moment left_since n (lifted bay st) part was.start now.disk) (sym is) (closed_stopped done no_purge as_it_reads n stops);
        },
      )
