-- How the command `topology` ends on an open site.
use Rattle.std.proofs.Common.{◌≡◌, ◌⊎◌, ℕ, ◌≤◌, zero, suc, List, [], ◌∷◌, Option, None, Some, Result, Ok, Err, slice_index_or, slice_set, refl, sym, ◌∙◌, ap, subst, inl}
use Rattle.std.specs.Prelude.{take, length, unwrap_or, IfOk}
use Rattle.std.specs.Option.{ForSome}
use Rattle.std.proofs.lemmas.Option.{none-some, same_Some}
use Rattle.cm_base.specs.Causes.{Rose}
use Rattle.cm_disk.specs.Disk.{File, Files, IsImage, LeavesOnly}
use Rattle.cm_library.specs.Kept.{Seen as SeenLibrary}
use Rattle.cm_records.specs.Calls.{Commits, FailsWith}
use Rattle.cm_records.specs.Placing.{KeepsPlaces}
use Rattle.cm_records.specs.Seen.{Seen, next_topology}
use Rattle.cm_register.specs.Opens.{OpensOr, noted}
use Rattle.cm_state.specs.Adding.{Told}
use Rattle.cm_topo.specs.Outcomes.{topology_in}
use Rattle.cm_topo.specs.declared.topology.Topology.{Topology}
use Rattle.cm_site.specs.Contents.{records_bay}
use Rattle.cm_site.specs.Found.{IsRecordsAt}
use Rattle.cm_site.specs.Machine.{Step, told, refused, unless, said_step, input_step, topology_in_records, topology_reply, opened_or, step_topology}
use Rattle.cm_site.specs.Opened.{IsOpenSite, AreOpened, world_of, bays_from, bays_now}
use Rattle.cm_site.specs.Refusals.{topology_refusals}
use Rattle.cm_site.specs.Runs.{Fed, Outside, IsInput, EndsOn}
use Rattle.cm_site.specs.Worlds.{Kept, records_of}
use Rattle.cm_site.specs.declared.member.Hold.TheVariants as hold
use Rattle.cm_site.specs.declared.member.Member.{Member}
use Rattle.cm_site.specs.declared.reply.Refusal.{Refusal}
use Rattle.cm_site.specs.declared.reply.Refusal.TheVariants.{NoBay}
use Rattle.cm_site.specs.declared.reply.Reply.{Reply}
use Rattle.cm_site.specs.declared.reply.Reply.TheVariants.{Disk, Memory, Refused, Source}
use Rattle.cm_site.proofs.OneRecords.{IsPutIn, kept_of, records_are, records_opened, purges_none, ends_done, ends_failed}
use Rattle.cm_site.proofs.OtherRecords.{put_at}
use Rattle.cm_site.proofs.Resting.{given_of, steps_rest, gives_up_rest}

-- what an input may give that was not read
abbrev any_text : Option (List ℕ) → List ℕ
any_text left = take 4194305 (unwrap_or left [])

any_input : (from to : Fed) → IsInput from to (Some (any_text from.left))
any_input from to = by from.left
  where
    by : (o : Option (List ℕ)) → ForSome o (λ left. any_text o ≡ take 4194305 left)
    by None = λ left told. absurd (none-some left told)
    by (Some bytes) = λ left told. ap (take 4194305) (same_Some bytes left told)

-- the records that stand there
held_at : {D : Type 0} (bay : List ℕ) (n : ℕ) (members : List (Member D)) → IsRecordsAt bay n members → (was : Seen D) × ((d : Member D) → (slice_index_or members n d).hold ≡ hold.Records was)
held_at bay n [] there = absurd there
held_at bay zero (m ∷ ms) there = (there.1.0, λ d. there.1.1)
held_at bay (suc n) (m ∷ ms) there = held_at bay n ms there.1

-- no library stands there
pub not_library : {D : Type 0} (bay : List ℕ) (n : ℕ) (members : List (Member D)) (d : Member D) (library : SeenLibrary D) → IsRecordsAt bay n members → (slice_index_or members n d).hold ≡ hold.Library library → ⊥
not_library bay n [] d library there held = there
not_library bay zero (m ∷ ms) d library there held = cc (sym held ∙ there.1.1)
not_library bay (suc n) (m ∷ ms) d library there held = not_library bay n ms d library there.1 held

-- the records that stand there are those of the site
pub kept_there : {D : Type 0} (n : ℕ) (members : List (Member D)) (was : Seen D) (d : Member D) → IsRecordsAt records_bay n members → (slice_index_or members n d).hold ≡ hold.Records was → records_of (world_of members) ≡ Some (kept_of was)
kept_there {D = D} n members was d there held =
    let made : Member D = record { name = (slice_index_or members n d).name; hold = hold.Records was } in
    records_are was was members (slice_set members n made) (put_at n members was was d d there held)

-- there are some, so a member to stand in its place is at hand
kept_at : {D : Type 0} (n : ℕ) (members : List (Member D)) (was : Seen D) → ((d : Member D) → (slice_index_or members n d).hold ≡ hold.Records was) → IsRecordsAt records_bay n members
    → records_of (world_of members) ≡ Some (kept_of was)
kept_at n [] was held there = absurd there
kept_at n (m ∷ ms) was held there = kept_there n (m ∷ ms) was m there (held m)

-- the records of the site
pub kept_of_site : {D : Type 0} (n : ℕ) (members : List (Member D)) → IsRecordsAt records_bay n members → (kept : Kept) × (records_of (world_of members) ≡ Some kept)
kept_of_site n members there = let held = held_at records_bay n members there in (kept_of held.0, kept_at n members held.0 held.1 there)

same_kept : {a b : Kept} → Some a ≡ Some b → a ≡ b
same_kept e = cc

-- what holds of the records that are there
pub of_kept : (P : Kept → Type 0) (there : Option Kept) (was : Kept) → there ≡ Some was → P was → (kept : Kept) → there ≡ Some kept → P kept
of_kept P there was is holds = λ kept also. subst P (same_kept (sym is ∙ also)) holds

pub ok_of_kept : {T E : Type 0} (ended : Result T E) (P : Kept → Type 0) (there : Option Kept) (was : Kept) → there ≡ Some was → IfOk ended (λ _. P was) → IfOk ended (λ _. (kept : Kept) → there ≡ Some kept → P kept)
ok_of_kept (Ok value) P there was is holds = of_kept P there was is holds
ok_of_kept (Err error) P there was is holds = tt

module _ {D : Type 0} (reads : D → Option Files) (may_leave : D → List ℕ → File → Type 0) (moment : D → ℕ) (left_since : D → ℕ → Files → Type 0) (faults : D → ℕ)
    (members : List (Member D)) (opened : IsOpenSite reads may_leave moment left_since faults members) where
  -- they were opened
  pub opened_there : (n : ℕ) (was : Seen D) (d : Member D) → IsRecordsAt records_bay n members → (slice_index_or members n d).hold ≡ hold.Records was → AreOpened reads may_leave moment left_since faults was
  opened_there n was d there held =
      let made : Member D = record { name = (slice_index_or members n d).name; hold = hold.Records was } in
      records_opened reads may_leave moment left_since faults was was members (slice_set members n made) (put_at n members was was d d there held) opened.each

  module _ (from to : Outside) (minute : ℕ) where
    abbrev Ends : Reply → Type 0
    Ends reply = EndsOn reads may_leave moment left_since faults step_topology from to minute reply (bays_from members) (bays_now members)

    step_is : (text : Option (List ℕ)) (kept : Option Kept) → records_of (world_of members) ≡ kept
        → step_topology (given_of reads may_leave moment left_since faults members opened from to minute text) (world_of members) ≡ topology_in_records (given_of reads may_leave moment left_since faults members opened from to minute text) kept (world_of members)
    step_is text kept is =
        let given = given_of reads may_leave moment left_since faults members opened from to minute text in
        ap (λ closed. opened_or closed (topology_in_records given (records_of (world_of members)) (world_of members))) opened.none_closed
        ∙ ap (λ (o : Option Kept). topology_in_records given o (world_of members)) is

    -- the site has no records
    pub ends_without : records_of (world_of members) ≡ None → Ends (Refused (NoBay records_bay))
    ends_without none =
        steps_rest reads may_leave moment left_since faults members opened from to minute step_topology (Some (any_text from.input.left)) (any_input from.input to.input) (Refused (NoBay records_bay))
        (step_is (Some (any_text from.input.left)) None none)

    -- the input failed
    pub ends_source : (n : ℕ) → IsRecordsAt records_bay n members → IsInput from.input to.input None → Ends Source
    ends_source n there input =
        let held = held_at records_bay n members there in
        let kept : Kept = kept_of held.0 in
        steps_rest reads may_leave moment left_since faults members opened from to minute step_topology None input Source
        (step_is None (Some kept) (kept_at n members held.0 held.1 there))

    -- there was no memory
    pub ends_memory : Ends Memory
    ends_memory =
        let text : Option (List ℕ) = Some (any_text from.input.left) in
        gives_up_rest reads may_leave moment left_since faults members opened from to minute step_topology text (any_input from.input to.input)
        (ap (λ (s : Step). s.purges) (step_is text (records_of (world_of members)) refl) ∙ purges_none (given_of reads may_leave moment left_since faults members opened from to minute text) (records_of (world_of members)) (world_of members))

    module _ (text : List ℕ) (input : IsInput from.input to.input (Some text)) where
      -- the text is refused
      pub ends_refused : (kept : Kept) → records_of (world_of members) ≡ Some kept → (refusal : Refusal) → topology_refusals (length text) (topology_in text) kept (world_of members) ≡ Some refusal → Ends (Refused refusal)
      ends_refused kept is refusal refuses =
          steps_rest reads may_leave moment left_since faults members opened from to minute step_topology (Some text) input (Refused refusal)
          (step_is (Some text) (Some kept) is ∙ ap (λ (o : Option Refusal). unless o (said_step text (topology_in text) minute kept.records)) refuses)

      module _ (n : ℕ) (was now : Seen D) (d : Member D) (there : IsRecordsAt records_bay n members) (is : d ≡ slice_index_or members n d) (held : d.hold ≡ hold.Records was)
          (topology : Topology) (said : topology_in text ≡ Ok topology) (allowed : topology_refusals (length text) (topology_in text) (kept_of was) (world_of members) ≡ None)
          (start : now.start ≡ was.start) (places : Told KeepsPlaces (reads was.disk) (reads now.disk))
          (any_moment : ForSome (reads was.disk) (λ _. LeavesOnly moment left_since was.disk now.disk (OpensOr was.kept (Some (next_topology text topology minute was.kept)))))
          (opens : ForSome (reads now.disk) (λ _. (image : Files) → IsImage (may_leave now.disk) image → OpensOr now.kept now.pending image)) where
        abbrev news : List (Member D)
        news = slice_set members n (record { name = d.name; hold = hold.Records now })

        put : IsPutIn was now members news
        put = subst (λ (name : List ℕ). IsPutIn was now members (slice_set members n (record { name = name; hold = hold.Records now }))) (ap (λ (m : Member D). m.name) (sym is))
            (put_at n members was now d d there (ap (λ (m : Member D). m.hold) (sym is) ∙ held))

        -- the record was committed
        pub ends_taken : Commits reads (next_topology text topology minute was.kept) was now
            → EndsOn reads may_leave moment left_since faults step_topology from to minute (topology_reply topology was.kept (noted (next_topology text topology minute was.kept) was.kept)) (bays_from members) (bays_now news)
        ends_taken done =
            ends_done reads may_leave moment left_since faults members opened from to minute was now news put text input topology said allowed start places any_moment opens done

        -- the disk failed
        pub ends_disk : FailsWith (next_topology text topology minute was.kept) was now
            → ForSome (reads was.disk) (λ _. (then : Files) × (reads now.disk ≡ Some then) × OpensOr was.kept (Some (next_topology text topology minute was.kept)) then)
            → Rose (faults was.disk) (faults now.disk)
            → EndsOn reads may_leave moment left_since faults step_topology from to minute (Disk records_bay) (bays_from members) (bays_now news)
        ends_disk fails either rose =
            ends_failed reads may_leave moment left_since faults members opened from to minute was now news put text input topology said allowed start places any_moment opens fails either rose
