-- A member of a site is worked on in its place.
use Rattle.std.proofs.Common.{◌≡◌, ℕ, zero, suc, false, true, List, [], ◌∷◌, slice_index_or, slice_set, Option, None, inl, inr, refl, sym, ◌∙◌, ap, subst}
use Rattle.std.specs.List.{AllByRecursion}
use Rattle.std.proofs.lemmas.Bool.{false≢true}
use Rattle.cm_disk.specs.Disk.{File, Files}
use Rattle.cm_library.specs.Kept.{Seen}
use Rattle.cm_records.specs.Seen.{Seen as SeenRecords}
use Rattle.cm_state.specs.State.{State}
use Rattle.cm_site.specs.Bays.{AreInOrder, names_of}
use Rattle.cm_site.specs.Contents.{is_records, site}
use Rattle.cm_site.specs.Found.{IsLibraryAt}
use Rattle.cm_site.specs.Machine.{on_library}
use Rattle.cm_site.specs.OneEnds.{OneEndsOn}
use Rattle.cm_site.specs.OneLibrary as one
use Rattle.cm_site.specs.Opened.{IsOpened, IsOpenAs, IsOpenSite, bays_from, bays_now, world_of}
use Rattle.cm_site.specs.Runs.{Outside, EndsOn}
use Rattle.cm_site.specs.Worlds.{library_at}
use Rattle.cm_site.specs.declared.member.Hold.{Hold}
use Rattle.cm_site.specs.declared.member.Hold.TheVariants as hold
use Rattle.cm_site.specs.declared.member.Member.{Member}
use Rattle.cm_site.specs.declared.reply.Reply.{Reply}
use Rattle.cm_site.specs.declared.reply.Reply.TheVariants.{Refused}
use Rattle.cm_site.specs.declared.reply.Refusal.TheVariants.{NoBay}
use Rattle.cm_site.proofs.Lifted.{IsPut, library_of, lifted_ends}
use Rattle.cm_site.proofs.Told.{ends_refused}

-- the members differ in that library alone
put_at : {D : Type 0} (bay : List ℕ) (n : ℕ) (members : List (Member D)) (was now : Seen D) (d e : Member D) → IsLibraryAt bay n members → (slice_index_or members n d).hold ≡ hold.Library was
    → (slice_index_or members n e).name ≡ e.name → IsPut bay was now members (slice_set members n (record { name = e.name; hold = hold.Library now }))
put_at bay n [] was now d e there held named = absurd there
put_at {D = D} bay zero (m ∷ ms) was now d e there held named = inl (
  ap (λ (h : Hold D). let made : Member D = record { name = m.name; hold = h } in made) held ∙ ap (λ (name : List ℕ). library_of name was) there.0,
  ap (λ (name : List ℕ). library_of name now) (sym named ∙ there.0),
  refl,
)
put_at bay (suc n) (m ∷ ms) was now d e there held named = inr (refl, there.0, put_at bay n ms was now d e there.1 held named)

-- no records stand there
pub not_records : {D : Type 0} (bay : List ℕ) (n : ℕ) (members : List (Member D)) (d : Member D) (records : SeenRecords D) → IsLibraryAt bay n members → (slice_index_or members n d).hold ≡ hold.Records records → ⊥
not_records bay n [] d records there held = there
not_records bay zero (m ∷ ms) d records there held = cc (sym held ∙ there.1.1)
not_records bay (suc n) (m ∷ ms) d records there held = not_records bay n ms d records there.1 held

module _ {D : Type 0} (reads : D → Option Files) (may_leave : D → List ℕ → File → Type 0) (moment : D → ℕ) (left_since : D → ℕ → Files → Type 0) (faults : D → ℕ) (bay : List ℕ) where
  -- the library there was just opened, and its name is none of the records
  pub opened_at : (n : ℕ) (members : List (Member D)) (was : Seen D) (d : Member D) → AllByRecursion (λ (m : Member D). IsOpenAs reads may_leave moment left_since faults m.name m.hold) members
      → IsLibraryAt bay n members → (slice_index_or members n d).hold ≡ hold.Library was → (is_records bay ≡ false) × IsOpened reads may_leave moment left_since faults was
  opened_at n [] was d each there held = absurd there
  opened_at zero (m ∷ ms) was d each there held =
      subst (λ (name : List ℕ). IsOpenAs reads may_leave moment left_since faults name (hold.Library was)) there.0 (subst (λ (h : Hold D). IsOpenAs reads may_leave moment left_since faults m.name h) held each.0)
  opened_at (suc n) (m ∷ ms) was d each there held = opened_at n ms was d each.1 there.1 held

  module _ (seen items : List (Member D)) (view : items ≡ seen) (opened : IsOpenSite reads may_leave moment left_since faults seen) where
    here : IsOpenSite reads may_leave moment left_since faults items
    here = subst (λ (ms : List (Member D)). IsOpenSite reads may_leave moment left_since faults ms) (sym view) opened

    -- the library that a call may work on
    pub opened_there : (n : ℕ) (was : Seen D) (d : Member D) → IsLibraryAt bay n items → (slice_index_or items n d).hold ≡ hold.Library was → IsOpened reads may_leave moment left_since faults was
    opened_there n was d there held = (opened_at n items was d here.each there held).1

    module _ (step : one.Given → State → one.Step) (from to : Outside) (minute : ℕ) (reply : Reply) where
      -- how a call on the library ends is how it ends on the site
      pub worked_on : (n : ℕ) (was now : Seen D) (d : Member D) → IsLibraryAt bay n items → d ≡ slice_index_or items n d → d.hold ≡ hold.Library was
          → OneEndsOn reads may_leave moment left_since faults bay was.state was.end step from.folder to.folder reply was.start now.disk
          → EndsOn reads may_leave moment left_since faults (on_library bay step) from to minute reply (bays_from seen) (bays_now (slice_set items n (record { name = d.name; hold = hold.Library now })))
      worked_on n was now d there is held ends =
          let at = opened_at n items was d here.each there (ap (λ (m : Member D). m.hold) (sym is) ∙ held) in
          let news = slice_set items n (record { name = d.name; hold = hold.Library now }) in
          subst (λ (ms : List (Member D)). EndsOn reads may_leave moment left_since faults (on_library bay step) from to minute reply (bays_from ms) (bays_now news)) view
          (lifted_ends reads may_leave moment left_since faults bay was now items news here (put_at bay n items was now d d there (ap (λ (m : Member D). m.hold) (sym is) ∙ held) (ap (λ (m : Member D). m.name) (sym is))) step from to minute at.0 at.1.stands at.1.gate reply ends)

      -- a bay without a library is refused
      pub refused_there : library_at bay (world_of items) ≡ None → reply ≡ Refused (NoBay bay) → EndsOn reads may_leave moment left_since faults (on_library bay step) from to minute reply (bays_from seen) (bays_now seen)
      refused_there none is =
          subst (λ (r : Reply). EndsOn reads may_leave moment left_since faults (on_library bay step) from to minute r (bays_from seen) (bays_now seen)) (sym is)
          (ends_refused reads may_leave moment left_since faults seen opened from to minute bay step (subst (λ (ms : List (Member D)). library_at bay (world_of ms) ≡ None) view none))

  -- the site's library is the first member
  site_first : (members : List (Member D)) → AreInOrder (names_of (bays_from members)) → AllByRecursion (λ (m : Member D). IsOpenAs reads may_leave moment left_since faults m.name m.hold) members → IsLibraryAt site 0 members
  site_first [] ordered each = absurd ordered
  site_first (m ∷ []) ordered each = by m.hold refl ordered each.0
    where
      by : (h : Hold D) → m.hold ≡ h → m.name ≡ site → IsOpenAs reads may_leave moment left_since faults m.name m.hold → (m.name ≡ site) × ((library : Seen D) × (m.hold ≡ hold.Library library))
      by (hold.Library library) is named opened = (named, (library, is))
      by (hold.Records records) is named opened =
          absurd (false≢true (subst (λ (name : List ℕ). is_records name ≡ true) named (subst (λ (h : Hold D). IsOpenAs reads may_leave moment left_since faults m.name h) is opened).0))
  site_first (m ∷ next ∷ ms) ordered each = by m.hold refl ordered.0 each.0
    where
      by : (h : Hold D) → m.hold ≡ h → m.name ≡ site → IsOpenAs reads may_leave moment left_since faults m.name m.hold → (m.name ≡ site) × ((library : Seen D) × (m.hold ≡ hold.Library library))
      by (hold.Library library) is named opened = (named, (library, is))
      by (hold.Records records) is named opened =
          absurd (false≢true (subst (λ (name : List ℕ). is_records name ≡ true) named (subst (λ (h : Hold D). IsOpenAs reads may_leave moment left_since faults m.name h) is opened).0))

  pub site_there : (seen items : List (Member D)) → items ≡ seen → IsOpenSite reads may_leave moment left_since faults seen → IsLibraryAt site 0 items
  site_there seen items view opened = subst (λ (ms : List (Member D)). IsLibraryAt site 0 ms) (sym view) (site_first seen opened.bays.ordered opened.each)

-- its name is the site's
pub site_named : {D : Type 0} (members : List (Member D)) (d : Member D) → IsLibraryAt site 0 members → d ≡ slice_index_or members 0 d → d.name ≡ site
site_named [] d there is = absurd there
site_named {D = D} (m ∷ ms) d there is = ap (λ (x : Member D). x.name) is ∙ there.0
