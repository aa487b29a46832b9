-- A walk over the two folders that looks for loose places, or purges them.
use Rattle.std.proofs.Common.{◌≡◌, ⊎_elim, ℕ, ◌+◌, ◌-◌, ◌^◌, Bool, true, false, cond, List, [], ◌∷◌, ◌++◌, length, take, drop, refl, sym, ◌∙◌, ap, subst, arith}
use Rattle.std.specs.Prelude.{◌≢◌, ◌&&◌, ◌||◌, not, min, filter, Option, None, Some, is_some, if◌then◌else◌}
use Rattle.std.specs.Fmt.{decimal}
use Rattle.std.specs.List.{list_any}
use Rattle.std.specs.Ordering.{nat_cmp, is_lt, ordering_reverse}
use Rattle.std.specs.Cmp.Lexicographic.{slice_cmp}
use Rattle.std.specs.Str.{bytes_eq}
use Rattle.std.specs.declared.cmp.Ordering.{Ordering}
use Rattle.std.specs.declared.cmp.Ordering.TheVariants.{Less, Equal, Greater}
use Rattle.std.proofs.lemmas.Bool.{false≢true}
use Rattle.std.proofs.lemmas.Cmp.{nat_list_cmp_total, tied_itself}
use Rattle.std.proofs.lemmas.List.Folds.{list_any-append}
use Rattle.std.proofs.lemmas.Map.Lookups.{exact_bytes}
use Rattle.std.proofs.lemmas.Option.{none-some, same_Some}
use Rattle.std.proofs.lemmas.Slice.Eq.{bytes_eq-Decides}
use Rattle.cm_base.specs.Hashes.{hash_of_text}
use Rattle.cm_disk.specs.Disk.{File, Files, Only, put, is_above, IsNext}
use Rattle.cm_disk.specs.Walks.{rises, AreListed}
use Rattle.cm_disk.proofs.Puts.{put_here, put_there}
use Rattle.cm_disk.proofs.Rises.{above_above}
use Rattle.cm_disk.proofs.Walks.{seen_is, is_seen}
use Rattle.cm_datalib.specs.Places.{folder as manifest_folder, version_named, is_manifest_place}
use Rattle.cm_datalib.proofs.Names.{is_there, named_place}
use Rattle.cm_filelib.specs.Places.{folder as file_folder, is_file_place}
use Rattle.cm_state.specs.Needed.{needed}
use Rattle.cm_state.specs.Purged.{is_stored_place, is_loose, loose, purged, counted}
use Rattle.cm_state.specs.State.{State}
use Rattle.cm_state.proofs.Lists.{and_left, and_right}
use Rattle.cm_state.proofs.Purges.{same_test, or_false, or_true, and_false, not_true}
use Rattle.cm_library.specs.Purging.{in_folders, in_store}

-- places above others
pub above_option : (at : Option (List ℕ)) (p q : List ℕ) → is_above at p ≡ true → is_above (Some p) q ≡ true → is_above at q ≡ true
above_option None p q one two = refl
above_option (Some a) p q one two = above_above a p q one two

not_itself : (p : List ℕ) → is_above (Some p) p ≡ false
not_itself p = ap is_lt (tied_itself nat_list_cmp_total p)

above_below : (at : Option (List ℕ)) (q p : List ℕ) → is_above at q ≡ false → is_above at p ≡ true → is_above (Some q) p ≡ true
above_below None q p under over = absurd (false≢true (sym under))
above_below (Some a) q p under over = by (slice_cmp nat_cmp a q) refl
  where
    by : (o : Ordering) → slice_cmp nat_cmp a q ≡ o → is_above (Some q) p ≡ true
    by Less is = absurd (false≢true (sym under ∙ ap is_lt is))
    by Equal is = subst (λ (x : List ℕ). is_above (Some x) p ≡ true) (exact_bytes a q is) over
    by Greater is = above_above q a p (ap is_lt (nat_list_cmp_total.antisymm q a ∙ ap ordering_reverse is)) over

-- a stored place is in one of the folders
manifest_in : (id rest : List ℕ) → bytes_eq (take 8 ((manifest_folder ++ id) ++ rest)) manifest_folder ≡ true
manifest_in [] [] = refl
manifest_in [] (b ∷ rest) = refl
manifest_in (b ∷ id) rest = refl

pub stored_in_folders : (q : List ℕ) → is_stored_place q ≡ true → in_folders q ≡ true
stored_in_folders q stored = by (is_manifest_place q) refl
  where
    file_in : (b : Bool) → bytes_eq (take 8 q) file_folder ≡ b → is_file_place q ≡ true → in_folders q ≡ true
    file_in true is form = ap (λ (b : Bool). bytes_eq (take 8 q) manifest_folder || b) is ∙ or_true (bytes_eq (take 8 q) manifest_folder)
    file_in false is form = absurd (false≢true (sym (ap (λ (b : Bool). is_some (cond b (hash_of_text (drop 8 q)) None)) is) ∙ form))

    by : (b : Bool) → is_manifest_place q ≡ b → in_folders q ≡ true
    by true form =
        let h = is_there (version_named q) form in
        let at = (named_place q h.0 h.1).1 in
        ap (λ (b : Bool). b || bytes_eq (take 8 q) file_folder) (subst (λ (p : List ℕ). bytes_eq (take 8 p) manifest_folder ≡ true) (sym at) (manifest_in h.0.0 (46 ∷ decimal h.0.1)))
    by false other = file_in (bytes_eq (take 8 q) file_folder) refl (sym (ap (λ (b : Bool). b || is_file_place q) other) ∙ stored)

pub loose_in_folders : (s : State) (q : List ℕ) → is_loose s q ≡ true → in_folders q ≡ true
loose_in_folders s q is = stored_in_folders q (and_left (is_stored_place q) (not (list_any (bytes_eq q) (needed s))) is)

module _ (s : State) (files : Files) where
  loose_there : (q : List ℕ) → is_some (loose s files q) ≡ true → is_some (in_store files q) ≡ true
  loose_there q there =
      let seen = seen_is (is_loose s) files q there in
      is_seen in_folders files q (loose_in_folders s q seen.0) seen.1

  -- from here on a walk sees each loose place above its start
  abbrev pub Reached : Option (List ℕ) → Option (List ℕ) → Type 0
  Reached after at = (q : List ℕ) → is_above after q ≡ true → is_some (loose s files q) ≡ true → is_above at q ≡ true

  pub loose_none : (after at : Option (List ℕ)) → Reached after at → IsNext (in_store files) at None → IsNext (loose s files) after None
  loose_none after at reached next = record {
    there = λ q is. absurd (none-some q is);
    least = λ q above there. let n = next.least q (reached q above there) (loose_there q there) in absurd (none-some n.0 n.1);
  }

  pub loose_found : (after at : Option (List ℕ)) (place : List ℕ) → Reached after at → IsNext (in_store files) at (Some place) → is_loose s place ≡ true → IsNext (loose s files) after (Some place)
  loose_found after at place reached next is = record {
    there = λ q same. subst (λ (p : List ℕ). is_some (loose s files p) ≡ true) (same_Some place q same) (is_seen (is_loose s) files place is (seen_is in_folders files place (next.there place refl)).1);
    least = λ q above there. next.least q (reached q above there) (loose_there q there);
  }

  pub loose_passed : (after at : Option (List ℕ)) (place : List ℕ) → Reached after at → IsNext (in_store files) at (Some place) → is_loose s place ≡ false → Reached after (Some place)
  loose_passed after at place reached next firm q above there =
      let n = next.least q (reached q above there) (loose_there q there) in
      ⊎_elim
      (λ same. absurd (false≢true (sym firm ∙ ap (is_loose s) (same_Some place n.0 n.1 ∙ same) ∙ (seen_is (is_loose s) files q there).0)))
      (λ less. ap is_lt (subst (λ (p : List ℕ). slice_cmp nat_cmp p q ≡ Less) (sym (same_Some place n.0 n.1)) less))
      n.2

-- one place more at the end of a listing
rises_more : (after : Option (List ℕ)) (places : List (List ℕ)) (p : List ℕ) → rises after places ≡ true → is_above after p ≡ true → ((q : List ℕ) → list_any (bytes_eq q) places ≡ true → is_above (Some q) p ≡ true) → rises after (places ++ p ∷ []) ≡ true
rises_more after [] p rising above each = ap (λ (b : Bool). b && true) above
rises_more after (x ∷ places) p rising above each =
    ap (λ (b : Bool). b && rises (Some x) (places ++ p ∷ [])) (and_left (is_above after x) (rises (Some x) places) rising)
    ∙ rises_more (Some x) places p (and_right (is_above after x) (rises (Some x) places) rising)
    (each x (ap (λ (b : Bool). b || list_any (bytes_eq x) places) ((bytes_eq-Decides x x).1 refl)))
    (λ q among. each q (ap (λ (b : Bool). bytes_eq q x || b) among ∙ or_true (bytes_eq q x)))

filter_more : (form : List ℕ → Bool) (places : List (List ℕ)) (p : List ℕ) → length (filter form (places ++ p ∷ [])) ≡ length (filter form places) + (if form p then 1 else 0)
filter_more form [] p = by (form p)
  where
    by : (b : Bool) → length (cond b (p ∷ []) []) ≡ 0 + (if b then 1 else 0)
    by true = refl
    by false = refl
filter_more form (x ∷ places) p = by (form x) (filter_more form places p)
  where
    by : (b : Bool) → length (filter form (places ++ p ∷ [])) ≡ length (filter form places) + (if form p then 1 else 0) → length (cond b (x ∷ filter form (places ++ p ∷ [])) (filter form (places ++ p ∷ []))) ≡ length (cond b (x ∷ filter form places) (filter form places)) + (if form p then 1 else 0)
    by true rest = omega (arith, rest)
    by false rest = rest

counted_more : (form : List ℕ → Bool) (places : List (List ℕ)) (p : List ℕ) (old new : ℕ) → old ≡ counted form places → new ≡ min (old + (if form p then 1 else 0)) (2 ^ 32 - 1) → new ≡ counted form (places ++ p ∷ [])
counted_more form places p old new was is = at (length (filter form (places ++ p ∷ []))) (length (filter form places)) (if form p then 1 else 0) (filter_more form places p) was is
  where
    at : (more few one : ℕ) → more ≡ few + one → old ≡ min few (2 ^ 32 - 1) → new ≡ min (old + one) (2 ^ 32 - 1) → new ≡ min more (2 ^ 32 - 1)
    at more few one sum was is = omega (arith, sum, was, is)

-- a loose place that was there, up to which a purge has come
abbrev pub seen : State → Files → Option (List ℕ) → List ℕ → Bool
seen s files at q = is_some (loose s files q) && not (is_above at q)

-- what a purge has done up to a place
pub record SoFar (s : State) (files : Files) (reads : Option Files) (may_leave : List ℕ → File → Type 0) (at : Option (List ℕ)) (many_files many_manifests : ℕ) : Type 0 where
  pub now : Files
  pub told : reads ≡ Some now
  pub exact : (q : List ℕ) → now q ≡ (if seen s files at q then None else files q)
  pub durable : (q : List ℕ) → seen s files at q ≡ true → Only None (may_leave q)
  pub places : List (List ℕ)
  pub rising : rises None places ≡ true
  pub all : (q : List ℕ) → seen s files at q ≡ list_any (bytes_eq q) places
  pub files_counted : many_files ≡ counted is_file_place places
  pub manifests_counted : many_manifests ≡ counted is_manifest_place places

module _ (s : State) (files : Files) where
  -- nothing yet
  none_seen : (q : List ℕ) → seen s files None q ≡ false
  none_seen q = and_false (is_some (loose s files q))

  pub begun : (reads : Option Files) (may_leave : List ℕ → File → Type 0) → reads ≡ Some files → SoFar s files reads may_leave None 0 0
  begun reads may_leave told = record {
    now = files;
    told = told;
    exact = λ q. sym (ap (λ (b : Bool). if b then None else files q) (none_seen q));
    durable = λ q is. absurd (false≢true (sym (none_seen q) ∙ is));
    places = [];
    rising = refl;
    all = none_seen;
    files_counted = refl;
    manifests_counted = refl;
  }

  module _ (now : Files) (at : Option (List ℕ)) (exact : (q : List ℕ) → now q ≡ (if seen s files at q then None else files q)) where
    -- what is above is as it was
    above_same : (q : List ℕ) → is_above at q ≡ true → now q ≡ files q
    above_same q above = exact q ∙ ap (λ (b : Bool). if is_some (loose s files q) && not b then None else files q) above ∙ ap (λ (b : Bool). if b then None else files q) (and_false (is_some (loose s files q)))

    above_there : (q : List ℕ) → is_above at q ≡ true → is_some (loose s files q) ≡ true → is_some (in_store now q) ≡ true
    above_there q above there =
        let l = seen_is (is_loose s) files q there in
        is_seen in_folders now q (loose_in_folders s q l.0) (ap (λ (file : File). is_some file) (above_same q above) ∙ l.1)

    -- one place more
    module _ (p : List ℕ) (next : IsNext (in_store now) at (Some p)) (above : is_above at p ≡ true) where
      place_there : is_loose s p ≡ true → is_some (loose s files p) ≡ true
      place_there is = is_seen (is_loose s) files p is (sym (ap (λ (file : File). is_some file) (above_same p above)) ∙ (seen_is in_folders now p (next.there p refl)).1)

      seen_there : (q : List ℕ) → seen s files (Some p) q ≡ true → (seen s files at q || (is_loose s p && bytes_eq q p)) ≡ true
      seen_there q is = by (is_above at q) refl
        where
          there : is_some (loose s files q) ≡ true
          there = and_left (is_some (loose s files q)) (not (is_above (Some p) q)) is

          under : is_above (Some p) q ≡ false
          under = not_true (is_above (Some p) q) (and_right (is_some (loose s files q)) (not (is_above (Some p) q)) is)

          here : p ≡ q → (is_loose s p && bytes_eq q p) ≡ true
          here same = ap (λ (b : Bool). b && bytes_eq q p) (ap (is_loose s) same ∙ (seen_is (is_loose s) files q there).0) ∙ (bytes_eq-Decides q p).1 (sym same)

          by : (b : Bool) → is_above at q ≡ b → (seen s files at q || (is_loose s p && bytes_eq q p)) ≡ true
          by false low = ap (λ (b : Bool). (is_some (loose s files q) && not b) || (is_loose s p && bytes_eq q p)) low ∙ ap (λ (b : Bool). (b && true) || (is_loose s p && bytes_eq q p)) there
          by true high =
              let n = next.least q high (above_there q high there) in
              ⊎_elim
              (λ same. ap (λ (b : Bool). seen s files at q || b) (here (same_Some p n.0 n.1 ∙ same)) ∙ or_true (seen s files at q))
              (λ less. absurd (false≢true (sym under ∙ ap is_lt (subst (λ (x : List ℕ). slice_cmp nat_cmp x q ≡ Less) (sym (same_Some p n.0 n.1)) less))))
              n.2

      seen_back : (q : List ℕ) → (seen s files at q || (is_loose s p && bytes_eq q p)) ≡ true → seen s files (Some p) q ≡ true
      seen_back q is = by (seen s files at q) refl
        where
          by : (b : Bool) → seen s files at q ≡ b → seen s files (Some p) q ≡ true
          by true was = low (is_above (Some p) q) refl
            where
              there : is_some (loose s files q) ≡ true
              there = and_left (is_some (loose s files q)) (not (is_above at q)) was

              under : is_above at q ≡ false
              under = not_true (is_above at q) (and_right (is_some (loose s files q)) (not (is_above at q)) was)

              low : (b : Bool) → is_above (Some p) q ≡ b → seen s files (Some p) q ≡ true
              low true high = absurd (false≢true (sym under ∙ above_option at p q above high))
              low false under_p = ap (λ (b : Bool). is_some (loose s files q) && not b) under_p ∙ ap (λ (b : Bool). b && true) there
          by false not_yet =
              let now_is : (is_loose s p && bytes_eq q p) ≡ true = sym (ap (λ (b : Bool). b || (is_loose s p && bytes_eq q p)) not_yet) ∙ is in
              let same : q ≡ p = (bytes_eq-Decides q p).0 (and_right (is_loose s p) (bytes_eq q p) now_is) in
              subst (λ (x : List ℕ). seen s files (Some p) x ≡ true) (sym same)
              (ap (λ (b : Bool). is_some (loose s files p) && not b) (not_itself p) ∙ ap (λ (b : Bool). b && true) (place_there (and_left (is_loose s p) (bytes_eq q p) now_is)))

      seen_next : (q : List ℕ) → seen s files (Some p) q ≡ (seen s files at q || (is_loose s p && bytes_eq q p))
      seen_next q = same_test (seen s files (Some p) q) (seen s files at q || (is_loose s p && bytes_eq q p)) (seen_there q) (seen_back q)

    -- no place more
    module _ (next : IsNext (in_store now) at None) where
      all_seen : (q : List ℕ) → is_some (loose s files q) ≡ seen s files at q
      all_seen q = same_test (is_some (loose s files q)) (seen s files at q) there (and_left (is_some (loose s files q)) (not (is_above at q)))
        where
          there : is_some (loose s files q) ≡ true → seen s files at q ≡ true
          there is = by (is_above at q) refl
            where
              by : (b : Bool) → is_above at q ≡ b → seen s files at q ≡ true
              by true high = let n = next.least q high (above_there q high is) in absurd (none-some n.0 n.1)
              by false low = ap (λ (b : Bool). is_some (loose s files q) && not b) low ∙ ap (λ (b : Bool). b && true) is

      all_purged : (q : List ℕ) → now q ≡ purged s files q
      all_purged q = exact q ∙ ap (λ (b : Bool). if b then None else files q) (sym (all_seen q)) ∙ by (is_loose s q) refl
        where
          there_or : (file : File) → (if is_some file then None else file) ≡ None
          there_or None = refl
          there_or (Some bytes) = refl

          by : (b : Bool) → is_loose s q ≡ b → (if is_some (loose s files q) then None else files q) ≡ purged s files q
          by true is =
              ap (λ (b : Bool). if is_some (if b then files q else None) then None else files q) is ∙ there_or (files q) ∙ sym (ap (λ (b : Bool). if b then None else files q) is)
          by false is =
              ap (λ (b : Bool). if is_some (if b then files q else None) then None else files q) is ∙ sym (ap (λ (b : Bool). if b then None else files q) is)

  -- what is known after the step
  module _ (reads reads' : Option Files) (may_leave may_leave' : List ℕ → File → Type 0) (at : Option (List ℕ)) (many_files many_manifests : ℕ) (so_far : SoFar s files reads may_leave at many_files many_manifests)
      (p : List ℕ) (next : IsNext (in_store so_far.now) at (Some p)) (above : is_above at p ≡ true) (others : (q : List ℕ) (file : File) → q ≢ p → may_leave' q file → may_leave q file) where
    -- the place is loose
    pub one_gone : (files' manifests' : ℕ) → is_loose s p ≡ true → reads' ≡ Some (put so_far.now p None) → Only None (may_leave' p) → files' ≡ min (many_files + (if is_file_place p then 1 else 0)) (2 ^ 32 - 1) → manifests' ≡ min (many_manifests + (if is_manifest_place p then 1 else 0)) (2 ^ 32 - 1)
        → SoFar s files reads' may_leave' (Some p) files' manifests'
    one_gone files' manifests' is told gone files_are manifests_are = record {
      now = put so_far.now p None;
      told = told;
      exact = exact;
      durable = durable;
      places = so_far.places ++ p ∷ [];
      rising = rises_more None so_far.places p so_far.rising refl each_below;
      all = λ q. seen_is' q ∙ ap (λ (b : Bool). b || bytes_eq q p) (so_far.all q) ∙ ap (λ (b : Bool). list_any (bytes_eq q) so_far.places || b) (sym (or_false (bytes_eq q p))) ∙ sym (list_any-append (bytes_eq q) so_far.places (p ∷ []));
      files_counted = counted_more is_file_place so_far.places p many_files files' so_far.files_counted files_are;
      manifests_counted = counted_more is_manifest_place so_far.places p many_manifests manifests' so_far.manifests_counted manifests_are;
    }
      where
        seen_is' : (q : List ℕ) → seen s files (Some p) q ≡ (seen s files at q || bytes_eq q p)
        seen_is' q = seen_next so_far.now at so_far.exact p next above q ∙ ap (λ (b : Bool). seen s files at q || (b && bytes_eq q p)) is

        exact : (q : List ℕ) → put so_far.now p None q ≡ (if seen s files (Some p) q then None else files q)
        exact q = by (bytes_eq q p) refl
          where
            by : (b : Bool) → bytes_eq q p ≡ b → put so_far.now p None q ≡ (if seen s files (Some p) q then None else files q)
            by true same =
                subst (λ (x : List ℕ). put so_far.now p None x ≡ None) (sym ((bytes_eq-Decides q p).0 same)) (put_here so_far.now p None)
                ∙ sym (ap (λ (b : Bool). if b then None else files q) (seen_is' q ∙ ap (λ (b : Bool). seen s files at q || b) same ∙ or_true (seen s files at q)))
            by false other =
                put_there so_far.now p None q (λ same. false≢true (sym other ∙ (bytes_eq-Decides q p).1 same))
                ∙ so_far.exact q
                ∙ sym (ap (λ (b : Bool). if b then None else files q) (seen_is' q ∙ ap (λ (b : Bool). seen s files at q || b) other ∙ or_false (seen s files at q)))

        durable : (q : List ℕ) → seen s files (Some p) q ≡ true → Only None (may_leave' q)
        durable q was = by (bytes_eq q p) refl
          where
            by : (b : Bool) → bytes_eq q p ≡ b → Only None (may_leave' q)
            by true same = subst (λ (x : List ℕ). Only None (may_leave' x)) (sym ((bytes_eq-Decides q p).0 same)) gone
            by false other = λ left l. so_far.durable q (sym (seen_is' q ∙ ap (λ (b : Bool). seen s files at q || b) other ∙ or_false (seen s files at q)) ∙ was) left
                (others q left (λ same. false≢true (sym other ∙ (bytes_eq-Decides q p).1 same)) l)

        each_below : (q : List ℕ) → list_any (bytes_eq q) so_far.places ≡ true → is_above (Some q) p ≡ true
        each_below q among =
            above_below at q p (not_true (is_above at q) (and_right (is_some (loose s files q)) (not (is_above at q)) (so_far.all q ∙ among))) above

    -- it is not, and nothing is done
    pub one_kept : is_loose s p ≡ false → reads' ≡ Some so_far.now → SoFar s files reads' may_leave' (Some p) many_files many_manifests
    one_kept is told = record {
      now = so_far.now;
      told = told;
      exact = λ q. so_far.exact q ∙ sym (ap (λ (b : Bool). if b then None else files q) (seen_same q));
      durable = λ q was left l. so_far.durable q (sym (seen_same q) ∙ was) left (others q left (other q was) l);
      places = so_far.places;
      rising = so_far.rising;
      all = λ q. seen_same q ∙ so_far.all q;
      files_counted = so_far.files_counted;
      manifests_counted = so_far.manifests_counted;
    }
      where
        seen_same : (q : List ℕ) → seen s files (Some p) q ≡ seen s files at q
        seen_same q = seen_next so_far.now at so_far.exact p next above q ∙ ap (λ (b : Bool). seen s files at q || (b && bytes_eq q p)) is ∙ or_false (seen s files at q)

        -- what was seen is loose
        other : (q : List ℕ) → seen s files (Some p) q ≡ true → q ≢ p
        other q was same = false≢true (sym is ∙ ap (is_loose s) (sym same) ∙ (seen_is (is_loose s) files q (and_left (is_some (loose s files q)) (not (is_above (Some p) q)) was)).0)

  -- what is known at the end
  pub record Done (reads : Option Files) (may_leave : List ℕ → File → Type 0) (many_files many_manifests : ℕ) : Type 0 where
    pub now : Files
    pub told : reads ≡ Some now
    pub all : (q : List ℕ) → now q ≡ purged s files q
    pub durable : (q : List ℕ) → is_some (loose s files q) ≡ true → Only None (may_leave q)
    pub places : List (List ℕ)
    pub listed : AreListed (loose s files) places
    pub files_counted : many_files ≡ counted is_file_place places
    pub manifests_counted : many_manifests ≡ counted is_manifest_place places

  pub done : (reads reads' : Option Files) (may_leave may_leave' : List ℕ → File → Type 0) (at : Option (List ℕ)) (many_files many_manifests : ℕ) (so_far : SoFar s files reads may_leave at many_files many_manifests)
      → IsNext (in_store so_far.now) at None → reads' ≡ reads → ((q : List ℕ) (file : File) → may_leave' q file → may_leave q file) → Done reads' may_leave' many_files many_manifests
  done reads reads' may_leave may_leave' at many_files many_manifests so_far next same stop = record {
    now = so_far.now;
    told = same ∙ so_far.told;
    all = all_purged so_far.now at so_far.exact next;
    durable = λ q there left l. so_far.durable q (sym (all_seen so_far.now at so_far.exact next q) ∙ there) left (stop q left l);
    places = so_far.places;
    listed = record { rising = so_far.rising; all = λ q. all_seen so_far.now at so_far.exact next q ∙ so_far.all q };
    files_counted = so_far.files_counted;
    manifests_counted = so_far.manifests_counted;
  }
