-- How often the manifests of a state name a hash, before and after a change.
use Rattle.std.proofs.Common.{◌≡◌, inl, inr, ℕ, suc, zero, ◌+◌, ◌-◌, ◌*◌, ◌<◌, ◌≤◌, ◌==◌, Bool, true, false, true≢false, cond, List, [], ◌∷◌, ◌++◌, length, take, get_or, map, sum_by, refl, sym, ◌∙◌, ap, subst, arith, add-one}
use Rattle.std.specs.Prelude.{Result, Ok, Err, OnErr, ◌≢◌, Option, None, Some, option_map, unwrap_or, find, not, is_some, ◌||◌, Contains}
use Rattle.std.specs.List.{AllByRecursion, flat_map, list_any}
use Rattle.std.specs.Ordering.{nat_cmp}
use Rattle.std.specs.Str.{bytes_eq}
use Rattle.std.specs.Cmp.{unsigned_ties}
use Rattle.std.specs.declared.cmp.Ordering.TheVariants.{Less}
use Rattle.std.proofs.Math.Seq.{take-suc}
use Rattle.std.proofs.lemmas.Bool.{eqb-true, false≢true, and_parts}
use Rattle.std.proofs.lemmas.Cmp.{nat_cmp_total}
use Rattle.std.proofs.lemmas.List.{append-nil, length-map}
use Rattle.std.proofs.lemmas.List.Concat.{flat_map-append}
use Rattle.std.proofs.lemmas.List.Sums.{sum_by-append, sum_by-cons, count_by-le-length}
use Rattle.std.proofs.lemmas.Option.{same_Some, none-some}
use Rattle.std.proofs.lemmas.Slice.Eq.{bytes_eq-Decides}
use Rattle.cm_base.specs.declared.hash.Hash.{Hash}
use Rattle.cm_pkglib.specs.declared.row.PkgRow.{PkgRow}
use Rattle.cm_pkglib.specs.declared.counts.Seal.{Seal}
use Rattle.cm_pkglib.specs.declared.counts.Counts.{Counts}
use Rattle.cm_pkglib.specs.declared.change.Change.{Change}
use Rattle.cm_pkglib.specs.declared.change.Change.TheVariants.{Opened, Done, Dropped as DroppedRecord, Removed as RemovedRecord}
use Rattle.cm_pkglib.specs.declared.fault.RowFault.{RowFault}
use Rattle.cm_pkglib.specs.declared.fault.RowFault.TheVariants.{NoJob, NoVersion}
use Rattle.cm_pkglib.specs.Counts.{count_of, sealed_of, seal_kept, times}
use Rattle.cm_pkglib.specs.Places.{EachPair}
use Rattle.cm_pkglib.specs.Rows.{Rows, is_of, is_before, version_cmp, has_version, row_of_job, fault_of, when}
use Rattle.cm_pkglib.specs.Valid.{AreValid}
use Rattle.cm_pkglib.proofs.Among.{All-append, All-front, All-back, EachPair-map}
use Rattle.cm_pkglib.proofs.Halves.{IsSplitAt, splits, find_split, find_split_at, filter_split_at}
use Rattle.cm_pkglib.proofs.Orders.{key_of, key_total, is_of-version_cmp, less_from_lt}
use Rattle.cm_pkglib.proofs.Steps.{when_true}
use Rattle.cm_pkglib.proofs.Times.{seal_more}
use Rattle.cm_tree.specs.declared.entry.Entry.{Entry}
use Rattle.cm_state.specs.State.{Held, State, held_of, held_by_job, rows_of, with_held, with_done, without_job, without_version}
use Rattle.cm_state.specs.Changes.{StateChange, Begun, Finished, Dropped, Removed, changed}
use Rattle.cm_state.specs.Needed.{has_hash, is_named, is_needed}
use Rattle.cm_state.proofs.ImagesOpen.{done_more}
use Rattle.cm_state.proofs.Lists.{all_filter, found_one, find_map}
use Rattle.cm_state.proofs.Loaded.{row_of, job_of}
use Rattle.cm_state.proofs.Members.{first_member, later_member, each_member, at_member, any_member, flat_member}
use Rattle.cm_contents.specs.Contents.{held_with, job_held_with, state_with, taken_manifest, change_in}
use Rattle.cm_contents.specs.Seals.{has_size, is_stored, if_needed, job_manifest, version_manifest, manifest_or_none, brought, taken_away, named_times, IsSmall, IsSealedAll, IsCounted, AreStored, first_there, found_seal, version_entries, SealsVersions}

-- a hash that a manifest has is named by it
abbrev one_if : Bool → ℕ
one_if b = cond b 1 0

times-cons : (hash : Hash) (e : Entry) (es : List Entry) → times hash (e ∷ es) ≡ cond (bytes_eq e.hash.0 hash.0) 1 0 + times hash es
times-cons hash e es = sum_by-cons (λ (x : Entry). cond (bytes_eq x.hash.0 hash.0) 1 0) e es

times_has : (hash : Hash) (es : List Entry) → 1 ≤ times hash es → has_hash hash.0 es ≡ true
times_has hash [] le = absurd (omega (arith, le))
times_has hash (e ∷ es) le = by (bytes_eq e.hash.0 hash.0) refl (times_has hash es)
  where
    by : (b : Bool) → bytes_eq e.hash.0 hash.0 ≡ b → (1 ≤ times hash es → has_hash hash.0 es ≡ true) → (b || has_hash hash.0 es) ≡ true
    by true is rest = refl
    by false is rest = rest (omega (arith, le, times-cons hash e es, ap one_if is))

has_times : (hash : Hash) (es : List Entry) → has_hash hash.0 es ≡ true → 1 ≤ times hash es
has_times hash [] is = absurd (false≢true is)
has_times hash (e ∷ es) is = by (bytes_eq e.hash.0 hash.0) refl is (has_times hash es)
  where
    by : (b : Bool) → bytes_eq e.hash.0 hash.0 ≡ b → (b || has_hash hash.0 es) ≡ true → (has_hash hash.0 es ≡ true → 1 ≤ times hash es) → 1 ≤ times hash (e ∷ es)
    by true same has rest = omega (arith, times-cons hash e es, ap one_if same)
    by false same has rest = let r = rest has in omega (arith, r, times-cons hash e es)

-- what adds up to something has an element that does
any_sum : {A : Type 0} (p : A → Bool) (f : A → ℕ) → ((a : A) → 1 ≤ f a → p a ≡ true) → (xs : List A) → 1 ≤ sum_by f xs → list_any p xs ≡ true
any_sum p f one [] le = absurd (omega (arith, le))
any_sum p f one (x ∷ xs) le = by (p x) refl (any_sum p f one xs)
  where
    by : (b : Bool) → p x ≡ b → (1 ≤ sum_by f xs → list_any p xs ≡ true) → (b || list_any p xs) ≡ true
    by true is rest = refl
    by false is rest = at (f x) refl
      where
        at : (n : ℕ) → f x ≡ n → list_any p xs ≡ true
        at zero none = rest (omega (arith, le, none, sum_by-cons f x xs))
        at (suc n) some = absurd (false≢true (sym is ∙ one x (omega (arith, some))))

sum_any : {A : Type 0} (p : A → Bool) (f : A → ℕ) → ((a : A) → p a ≡ true → 1 ≤ f a) → (xs : List A) → list_any p xs ≡ true → 1 ≤ sum_by f xs
sum_any p f one [] is = absurd (false≢true is)
sum_any p f one (x ∷ xs) is = by (p x) refl is (sum_any p f one xs)
  where
    by : (b : Bool) → p x ≡ b → (b || list_any p xs) ≡ true → (list_any p xs ≡ true → 1 ≤ sum_by f xs) → 1 ≤ sum_by f (x ∷ xs)
    by true same any rest = let here = one x same in omega (arith, here, sum_by-cons f x xs)
    by false same any rest = let r = rest any in omega (arith, r, sum_by-cons f x xs)

-- what is named so often is needed, and the other way
pub needed_of : (hash : Hash) (s : State) → 1 ≤ named_times hash s → is_needed hash.0 s ≡ true
needed_of hash s le = by (is_named hash.0 s) refl
  where
    by : (b : Bool) → is_named hash.0 s ≡ b → (b || list_any (λ (job : ℕ × Held). has_hash hash.0 job.1.manifest) s.jobs) ≡ true
    by true is = refl
    by false is = at (sum_by (λ (held : Held). times hash held.manifest) s.versions) refl
      where
        at : (n : ℕ) → sum_by (λ (held : Held). times hash held.manifest) s.versions ≡ n → list_any (λ (job : ℕ × Held). has_hash hash.0 job.1.manifest) s.jobs ≡ true
        at zero none = any_sum (λ (job : ℕ × Held). has_hash hash.0 job.1.manifest) (λ (job : ℕ × Held). times hash job.1.manifest) (λ job. times_has hash job.1.manifest) s.jobs (omega (arith, le, none))
        at (suc n) some = absurd (false≢true (sym is ∙ any_sum (λ (held : Held). has_hash hash.0 held.manifest) (λ (held : Held). times hash held.manifest) (λ held. times_has hash held.manifest) s.versions (omega (arith, some))))

pub times_of : (hash : Hash) (s : State) → is_needed hash.0 s ≡ true → 1 ≤ named_times hash s
times_of hash s is = by (is_named hash.0 s) refl is
  where
    by : (b : Bool) → is_named hash.0 s ≡ b → (b || list_any (λ (job : ℕ × Held). has_hash hash.0 job.1.manifest) s.jobs) ≡ true → 1 ≤ named_times hash s
    by true named any = let v = sum_any (λ (held : Held). has_hash hash.0 held.manifest) (λ (held : Held). times hash held.manifest) (λ held. has_times hash held.manifest) s.versions named in omega (arith, v)
    by false named any = let j = sum_any (λ (job : ℕ × Held). has_hash hash.0 job.1.manifest) (λ (job : ℕ × Held). times hash job.1.manifest) (λ job. has_times hash job.1.manifest) s.jobs any in omega (arith, j)

-- rows that rise, with their manifests
each_of_map : {A B : Type 0} (f : A → B) (R : B → B → Type 0) (xs : List A) → EachPair R (map f xs) → EachPair (λ (a b : A). R (f a) (f b)) xs
each_of_map f R [] e = tt
each_of_map {A} {B} f R (x ∷ xs) e = (over xs e.0, each_of_map f R xs e.1)
  where
    over : (ys : List A) → AllByRecursion (R (f x)) (map f ys) → AllByRecursion (λ (y : A). R (f x) (f y)) ys
    over [] all = tt
    over (y ∷ ys) all = (all.0, over ys all.1)

no_find : {A B : Type 0} (o : Option A) (x : A) → o ≡ Some x → o ≡ None → B
no_find o x some none = absurd (none-some x (sym none ∙ some))

job_split : (job : ℕ) (js : List (ℕ × Held)) (u : ℕ × Held) → EachPair (λ (a b : ℕ × PkgRow). a.0 < b.0) (map job_of js) → find (λ (u : ℕ × Held). u.0 == job) js ≡ Some u → IsSplitAt (λ (u : ℕ × Held). nat_cmp u.0 job) js
job_split job js u rise is =
    elim (splits (λ (u : ℕ × Held). u.0) nat_cmp_total job js (EachPair-map (λ (a b : ℕ × Held). a.0 < b.0) (λ (a b : ℕ × Held). nat_cmp a.0 b.0 ≡ Less) (λ a b h. less_from_lt a.0 b.0 h) js (each_of_map job_of (λ (a b : ℕ × PkgRow). a.0 < b.0) js rise))) [
      | inl s ↦ no_find (find (λ (u : ℕ × Held). u.0 == job) js) u is (find_split (λ (u : ℕ × Held). u.0 == job) (λ (u : ℕ × Held). nat_cmp u.0 job) (λ u. unsigned_ties u.0 job) js s)
      | inr s ↦ s
    ]

version_split : (id : List ℕ) (version : ℕ) (vs : List Held) (h : Held) → EachPair (λ (a b : PkgRow). version_cmp b.package b.version a ≡ Less) (map row_of vs) → find (λ (held : Held). is_of id version held.row) vs ≡ Some h → IsSplitAt (λ (held : Held). version_cmp id version held.row) vs
version_split id version vs h rise is =
    elim (splits (λ (held : Held). key_of held.row) key_total (id, version) vs (each_of_map row_of (λ (a b : PkgRow). version_cmp b.package b.version a ≡ Less) vs rise)) [
      | inl s ↦ no_find (find (λ (held : Held). is_of id version held.row) vs) h is (find_split (λ (held : Held). is_of id version held.row) (λ (held : Held). version_cmp id version held.row) (λ held. is_of-version_cmp id version held.row) vs s)
      | inr s ↦ s
    ]

sum_middle : {A : Type 0} (f : A → ℕ) (xs : List A) (a : A) (ys : List A) → sum_by f (xs ++ ys) + f a ≡ sum_by f (xs ++ a ∷ ys)
sum_middle f xs a ys = omega (arith, sum_by-append f xs ys, sum_by-append f xs (a ∷ ys), sum_by-cons f a ys)

sum_without_job : (f : ℕ × Held → ℕ) (job : ℕ) (js : List (ℕ × Held)) (u : ℕ × Held) → EachPair (λ (a b : ℕ × PkgRow). a.0 < b.0) (map job_of js) → find (λ (u : ℕ × Held). u.0 == job) js ≡ Some u → sum_by f (without_job job js) + f u ≡ sum_by f js
sum_without_job f job js u rise is =
    let s = job_split job js u rise is in
    let row : s.row ≡ u = same_Some s.row u (sym (find_split_at (λ (u : ℕ × Held). u.0 == job) (λ (u : ℕ × Held). nat_cmp u.0 job) (λ u. unsigned_ties u.0 job) js s) ∙ is) in
    let rest : without_job job js ≡ s.front ++ s.back = filter_split_at (λ (u : ℕ × Held). u.0 == job) (λ (u : ℕ × Held). nat_cmp u.0 job) (λ u. unsigned_ties u.0 job) js s in
    omega (arith, ap (λ l. sum_by f l) rest, ap f row, ap (λ l. sum_by f l) s.is, sum_middle f s.front s.row s.back)

sum_without_version : (f : Held → ℕ) (id : List ℕ) (version : ℕ) (vs : List Held) (h : Held) → EachPair (λ (a b : PkgRow). version_cmp b.package b.version a ≡ Less) (map row_of vs) → find (λ (held : Held). is_of id version held.row) vs ≡ Some h
    → sum_by f (without_version id version vs) + f h ≡ sum_by f vs
sum_without_version f id version vs h rise is =
    let s = version_split id version vs h rise is in
    let row : s.row ≡ h = same_Some s.row h (sym (find_split_at (λ (held : Held). is_of id version held.row) (λ (held : Held). version_cmp id version held.row) (λ held. is_of-version_cmp id version held.row) vs s) ∙ is) in
    let rest : without_version id version vs ≡ s.front ++ s.back = filter_split_at (λ (held : Held). is_of id version held.row) (λ (held : Held). version_cmp id version held.row) (λ held. is_of-version_cmp id version held.row) vs s in
    omega (arith, ap (λ l. sum_by f l) rest, ap f row, ap (λ l. sum_by f l) s.is, sum_middle f s.front s.row s.back)

sum_with_held : (f : Held → ℕ) (h : Held) (vs : List Held) → sum_by f (with_held h vs) ≡ f h + sum_by f vs
sum_with_held f h [] = sum_by-cons f h []
sum_with_held f h (v ∷ vs) = by (is_before h.row v.row) (sum_with_held f h vs)
  where
    by : (b : Bool) → sum_by f (with_held h vs) ≡ f h + sum_by f vs → sum_by f (cond b (h ∷ v ∷ vs) (v ∷ with_held h vs)) ≡ f h + sum_by f (v ∷ vs)
    by true rest = sum_by-cons f h (v ∷ vs)
    by false rest = omega (arith, rest, sum_by-cons f v (with_held h vs), sum_by-cons f v vs)

-- what is found where a change is not refused
abbrev pub IsThere : State → StateChange → Type 0
IsThere s (Begun job id version manifest) = Unit {0}
IsThere s (Finished job) = (u : ℕ × Held) × (find (λ (u : ℕ × Held). u.0 == job) s.jobs ≡ Some u)
IsThere s (Dropped job) = (u : ℕ × Held) × (find (λ (u : ℕ × Held). u.0 == job) s.jobs ≡ Some u)
IsThere s (Removed id version) = (h : Held) × (find (λ (held : Held). is_of id version held.row) s.versions ≡ Some h)

-- how often a hash is named after a change
pub named_then : (hash : Hash) (s : State) (change : StateChange) → AreValid (rows_of s) → IsThere s change → named_times hash (changed change s) + times hash (taken_away change s) ≡ times hash (brought (Some change)) + named_times hash s
named_then hash s (Begun job id version manifest) valid there =
    let f : ℕ × Held → ℕ = λ u. times hash u.1.manifest in
    omega (arith, sum_by-append f s.jobs ((job, held_of id version manifest) ∷ []), sum_by-cons f (job, held_of id version manifest) [])
named_then hash s (Finished job) valid there =
    let u = there.0 in
    let f : ℕ × Held → ℕ = λ u. times hash u.1.manifest in
    let g : Held → ℕ = λ held. times hash held.manifest in
    let versions : sum_by g (changed (Finished job) s).versions ≡ g u.1 + sum_by g s.versions = ap (λ (o : Option (ℕ × Held)). sum_by g (with_done (option_map (λ (u : ℕ × Held). u.1) o) s.versions)) there.1 ∙ sum_with_held g u.1 s.versions in
    omega (arith, versions, sum_without_job f job s.jobs u valid.jobs_rise there.1)
named_then hash s (Dropped job) valid there =
    let f : ℕ × Held → ℕ = λ u. times hash u.1.manifest in
    let away : times hash (job_manifest job s) ≡ f there.0 = ap (λ (o : Option (ℕ × Held)). times hash (manifest_or_none (option_map (λ (u : ℕ × Held). u.1) o))) there.1 in
    omega (arith, away, sum_without_job f job s.jobs there.0 valid.jobs_rise there.1)
named_then hash s (Removed id version) valid there =
    let g : Held → ℕ = λ held. times hash held.manifest in
    let away : times hash (version_manifest id version s) ≡ g there.0 = ap (λ (o : Option Held). times hash (manifest_or_none o)) there.1 in
    omega (arith, away, sum_without_version g id version s.versions there.0 valid.versions_rise there.1)

-- each hash of a version is needed
versions_named : (s : State) → (held : Held) → Contains s.versions held → (e : Entry) → Contains held.manifest e → is_needed e.hash.0 s ≡ true
versions_named s held among e of =
    let has = any_member (λ (x : Entry). bytes_eq x.hash.0 e.hash.0) held.manifest e of ((bytes_eq-Decides e.hash.0 e.hash.0).1 refl) in
    let named : is_named e.hash.0 s ≡ true = any_member (λ (h : Held). has_hash e.hash.0 h.manifest) s.versions held among has in
    ap (λ (b : Bool). b || list_any (λ (job : ℕ × Held). has_hash e.hash.0 job.1.manifest) s.jobs) named

-- a stored entry is sealed
stored_sealed : (size : ℕ) (seal : Option Seal) → has_size size seal ≡ true → seal ≢ None
stored_sealed size None is none = false≢true is
stored_sealed size (Some seal) is none = absurd (none-some seal (sym none))

-- once a change was made in the counts
module _ (counts counts' : Counts) (s : State) (change : StateChange) (valid : AreValid (rows_of s)) (there : IsThere s change) (old : IsCounted counts s (brought (Some change))) (stored : AreStored (sealed_of counts) change s)
    (count_is : (hash : Hash) → count_of counts' hash ≡ count_of counts hash - times hash (taken_away change s)) (seal_is : (hash : Hash) → sealed_of counts' hash ≡ seal_kept (count_of counts' hash) (sealed_of counts hash)) where
  then_counted : (hash : Hash) → count_of counts' hash ≡ named_times hash (changed change s)
  then_counted hash = omega (arith, count_is hash, old.counted hash, named_then hash s change valid there)

  then_kept : (hash : Hash) → is_needed hash.0 (changed change s) ≡ true → sealed_of counts' hash ≡ sealed_of counts hash
  then_kept hash needed =
      let many = times_of hash (changed change s) needed in
      seal_is hash ∙ sym (seal_more (count_of counts' hash) (sealed_of counts hash) (subst (λ (n : ℕ). 1 ≤ n) (sym (then_counted hash)) many))

  then_lost : (hash : Hash) → is_needed hash.0 (changed change s) ≡ false → sealed_of counts' hash ≡ None
  then_lost hash lost = by (count_of counts' hash) refl
    where
      by : (n : ℕ) → count_of counts' hash ≡ n → sealed_of counts' hash ≡ None
      by zero none = seal_is hash ∙ ap (λ (n : ℕ). seal_kept n (sealed_of counts hash)) none
      by (suc n) some = absurd (false≢true (sym lost ∙ needed_of hash (changed change s) (omega (arith, some, then_counted hash))))

  pub then_seals : (hash : Hash) → sealed_of counts' hash ≡ if_needed (is_needed hash.0 (changed change s)) (sealed_of counts hash)
  then_seals hash = by (is_needed hash.0 (changed change s)) refl
    where
      by : (b : Bool) → is_needed hash.0 (changed change s) ≡ b → sealed_of counts' hash ≡ if_needed b (sealed_of counts hash)
      by true is = then_kept hash is
      by false is = then_lost hash is

  then_needed : (hash : Hash) → sealed_of counts' hash ≢ None → is_needed hash.0 (changed change s) ≡ true
  then_needed hash sealed = by (is_needed hash.0 (changed change s)) refl
    where
      by : (b : Bool) → is_needed hash.0 (changed change s) ≡ b → b ≡ true
      by true is = refl
      by false is = absurd (sealed (then_lost hash is))

  -- the versions after it have sealed hashes
  sealed_then : (c : StateChange) → AreStored (sealed_of counts) c s → AllByRecursion (IsSealedAll counts) (changed c s).versions
  sealed_then (Begun job id version manifest) st = old.versions_sealed
  sealed_then (Finished job) st = done_more (IsSealedAll counts) (find (λ (u : ℕ × Held). u.0 == job) s.jobs) s.versions
      (λ u is. each_member (λ (e : Entry). sealed_of counts e.hash ≢ None) u.1.manifest
      (λ e among. stored_sealed e.size (sealed_of counts e.hash)
      (at_member (λ (e : Entry). is_stored (sealed_of counts) e ≡ true) u.1.manifest (subst (λ (o : Option (ℕ × Held)). AllByRecursion (λ (e : Entry). is_stored (sealed_of counts) e ≡ true) (manifest_or_none (option_map (λ (u : ℕ × Held). u.1) o))) is st) e among))) old.versions_sealed
  sealed_then (Dropped job) st = old.versions_sealed
  sealed_then (Removed id version) st = all_filter (IsSealedAll counts) (λ (h : Held). not (is_of id version h.row)) s.versions old.versions_sealed

  small_versions_then : (c : StateChange) → AllByRecursion IsSmall (changed c s).versions
  small_versions_then (Begun job id version manifest) = old.small_versions
  small_versions_then (Finished job) = done_more IsSmall (find (λ (u : ℕ × Held). u.0 == job) s.jobs) s.versions (λ u is. found_one (λ (u : ℕ × Held). IsSmall u.1) (λ (u : ℕ × Held). u.0 == job) s.jobs old.small_jobs u is) old.small_versions
  small_versions_then (Dropped job) = old.small_versions
  small_versions_then (Removed id version) = all_filter IsSmall (λ (h : Held). not (is_of id version h.row)) s.versions old.small_versions

  small_jobs_then : (c : StateChange) → length (brought (Some c)) ≤ 20000 → AllByRecursion (λ (u : ℕ × Held). IsSmall u.1) (changed c s).jobs
  small_jobs_then (Begun job id version manifest) few = All-append (λ (u : ℕ × Held). IsSmall u.1) s.jobs ((job, held_of id version manifest) ∷ []) old.small_jobs (few, tt)
  small_jobs_then (Finished job) few = all_filter (λ (u : ℕ × Held). IsSmall u.1) (λ (u : ℕ × Held). not (u.0 == job)) s.jobs old.small_jobs
  small_jobs_then (Dropped job) few = all_filter (λ (u : ℕ × Held). IsSmall u.1) (λ (u : ℕ × Held). not (u.0 == job)) s.jobs old.small_jobs
  small_jobs_then (Removed id version) few = old.small_jobs

  pub counted_then : IsCounted counts' (changed change s) []
  counted_then = record {
    counted = λ hash. let h = then_counted hash in omega (arith, h);
    small_more = omega arith;
    small_versions = small_versions_then change;
    small_jobs = small_jobs_then change old.small_more;
    sealed_needed = then_needed;
    versions_sealed = each_member (IsSealedAll counts') (changed change s).versions (λ held among. each_member (λ (e : Entry). sealed_of counts' e.hash ≢ None) held.manifest
        (λ e of none. at_member (λ (e : Entry). sealed_of counts e.hash ≢ None) held.manifest (at_member (IsSealedAll counts) (changed change s).versions (sealed_then change stored) held among) e of
        (sym (then_kept e.hash (versions_named (changed change s) held among e of)) ∙ none)));
  }

-- what is taken away was counted
pub away_counted : (counts : Counts) (s : State) (change : StateChange) → AreValid (rows_of s) → IsThere s change → IsCounted counts s (brought (Some change)) → (hash : Hash) → times hash (taken_away change s) ≤ count_of counts hash
away_counted counts s change valid there old hash = omega (arith, old.counted hash, named_then hash s change valid there)

-- seals found one after another
abbrev as_found : Entry → Seal
as_found e = record { size = e.size; since = false }

found_more : (seal : Option Seal) (hash : Hash) (xs ys : List Entry) → found_seal (found_seal seal hash xs) hash ys ≡ found_seal seal hash (xs ++ ys)
found_more (Some seal) hash xs ys = refl
found_more None hash [] ys = refl
found_more None hash (x ∷ xs) ys = by (bytes_eq x.hash.0 hash.0) (found_more None hash xs ys)
  where
    by : (b : Bool) → found_seal (found_seal None hash xs) hash ys ≡ found_seal None hash (xs ++ ys)
        → first_there (option_map (λ (e : Entry). let s : Seal = record { size = e.size; since = false } in s) (cond b (Some x) (find (λ (e : Entry). bytes_eq e.hash.0 hash.0) xs))) (option_map (λ (e : Entry). record { size = e.size; since = false }) (find (λ (e : Entry). bytes_eq e.hash.0 hash.0) ys))
        ≡ option_map (λ (e : Entry). record { size = e.size; since = false }) (cond b (Some x) (find (λ (e : Entry). bytes_eq e.hash.0 hash.0) (xs ++ ys)))
    by true rest = refl
    by false rest = rest

pub take_next : {A : Type 0} (xs : List A) (i : ℕ) (x : A) → i < length xs → x ≡ get_or xs i x → take i xs ++ x ∷ [] ≡ take (i + 1) xs
take_next xs i x lt is = ap (λ y. take i xs ++ y ∷ []) is ∙ sym (take-suc xs i x lt) ∙ ap (λ n. take n xs) (sym (add-one i))

pub found_next : (seal : Option Seal) (hash : Hash) (xs : List Entry) (i : ℕ) (x : Entry) → i < length xs → x ≡ get_or xs i x → found_seal (found_seal seal hash (take i xs)) hash (x ∷ []) ≡ found_seal seal hash (take (i + 1) xs)
found_next seal hash xs i x lt is = found_more seal hash (take i xs) (x ∷ []) ∙ ap (λ ys. found_seal seal hash ys) (take_next xs i x lt is)

pub found_flat : {A : Type 0} (f : A → List Entry) (seal : Option Seal) (hash : Hash) (xs : List A) (i : ℕ) (x : A) → i < length xs → x ≡ get_or xs i x
    → found_seal (found_seal seal hash (flat_map f (take i xs))) hash (f x) ≡ found_seal seal hash (flat_map f (take (i + 1) xs))
found_flat f seal hash xs i x lt is =
    found_more seal hash (flat_map f (take i xs)) (f x)
    ∙ ap (λ ys. found_seal seal hash ys) (ap (λ t. flat_map f (take i xs) ++ t) (sym (append-nil (f x))) ∙ sym (flat_map-append f (take i xs) (x ∷ [])) ∙ ap (flat_map f) (take_next xs i x lt is))

pub found_none : (seal : Option Seal) (hash : Hash) → seal ≡ found_seal seal hash []
found_none None hash = refl
found_none (Some seal) hash = refl

-- one part of what each part has
pub flat_part : {A B : Type 0} (P : B → Type 0) (f : A → List B) (xs : List A) (i : ℕ) (x : A) → i < length xs → x ≡ get_or xs i x → AllByRecursion P (flat_map f xs) → AllByRecursion P (f x)
flat_part P f [] i x lt is all = absurd (omega (arith, lt))
flat_part P f (y ∷ ys) zero x lt is all = subst (λ z. AllByRecursion P (f z)) (sym is) (All-front P (f y) (flat_map f ys) all)
flat_part P f (y ∷ ys) (suc i) x lt is all = flat_part P f ys i x (omega (arith, lt)) is (All-back P (f y) (flat_map f ys) all)

-- a sum of small numbers
pub sum_small : {A : Type 0} (f g : A → ℕ) → ((a : A) → f a ≤ g a) → (xs : List A) → AllByRecursion (λ a. g a ≤ 20000) xs → sum_by f xs ≤ 20000 * length xs
sum_small f g le [] all = omega arith
sum_small f g le (x ∷ xs) all = let r = sum_small f g le xs all.1 in let here = le x in let small : g x ≤ 20000 = all.0 in omega (arith, r, here, small, sum_by-cons f x xs)

pub times_few : (hash : Hash) (es : List Entry) → times hash es ≤ length es
times_few hash es = count_by-le-length (λ (e : Entry). bytes_eq e.hash.0 hash.0) es

-- what is there by a change that the rows take
there_job : (job : ℕ) (js : List (ℕ × Held)) → when (not (is_some (row_of_job job (map job_of js)))) NoJob ≡ None → (u : ℕ × Held) × (find (λ (u : ℕ × Held). u.0 == job) js ≡ Some u)
there_job job js free = by (find (λ (u : ℕ × Held). u.0 == job) js) refl
    (subst (λ (o : Option (ℕ × PkgRow)). when (not (is_some (option_map (λ (u : ℕ × PkgRow). u.1) o))) NoJob ≡ None) (find_map job_of (λ (u : ℕ × Held). u.0 == job) (λ (u : ℕ × PkgRow). u.0 == job) (λ u. refl) js) free)
  where
    by : (o : Option (ℕ × Held)) → find (λ (u : ℕ × Held). u.0 == job) js ≡ o → when (not (is_some (option_map (λ (u : ℕ × PkgRow). u.1) (option_map job_of o)))) NoJob ≡ None → (u : ℕ × Held) × (find (λ (u : ℕ × Held). u.0 == job) js ≡ Some u)
    by None is none = absurd (cc)
    by (Some u) is none = (u, is)

found_of_any : {A B : Type 0} (f : A → B) (p : B → Bool) (xs : List A) → list_any p (map f xs) ≡ true → (x : A) × (find (λ (x : A). p (f x)) xs ≡ Some x)
found_of_any f p [] is = absurd (false≢true is)
found_of_any {A} f p (x ∷ xs) is = by (p (f x)) is (found_of_any f p xs)
  where
    by : (b : Bool) → (b || list_any p (map f xs)) ≡ true → (list_any p (map f xs) ≡ true → (y : A) × (find (λ (x : A). p (f x)) xs ≡ Some y)) → (y : A) × (cond b (Some x) (find (λ (x : A). p (f x)) xs) ≡ Some y)
    by true any rest = (x, refl)
    by false any rest = rest any

pub there_of : (s : State) (taken : Option Held) (change : Change) → fault_of (rows_of s) change ≡ None → IsThere s (change_in taken change)
there_of s taken (Opened job id version entries size hash) free = tt
there_of s taken (Done job) free = there_job job s.jobs free
there_of s taken (DroppedRecord job) free = there_job job s.jobs free
there_of s taken (RemovedRecord id version) free = found_of_any row_of (is_of id version) s.versions (when_true (has_version id version (rows_of s)) NoVersion free)

-- what rows and their manifests make
abbrev Find : Type 0
Find = List ℕ → ℕ → List Entry

pub sum_over : {A B : Type 0} (g : B → ℕ) (f : A → B) (xs : List A) → sum_by g (map f xs) ≡ sum_by (λ (x : A). g (f x)) xs
sum_over g f [] = refl
sum_over {A} g f (x ∷ xs) = let r = sum_over g f xs in omega (arith, r, sum_by-cons g (f x) (map f xs), sum_by-cons (λ (x : A). g (f x)) x xs)

pub flat_over : {A B C : Type 0} (g : B → List C) (f : A → B) (xs : List A) → flat_map g (map f xs) ≡ flat_map (λ (x : A). g (f x)) xs
flat_over g f [] = refl
flat_over g f (x ∷ xs) = ap (λ l. g (f x) ++ l) (flat_over g f xs)

self_named : (es : List Entry) → AllByRecursion (λ (e : Entry). 1 ≤ times e.hash es) es
self_named es = each_member (λ (e : Entry). 1 ≤ times e.hash es) es (λ e of. has_times e.hash es (any_member (λ (x : Entry). bytes_eq x.hash.0 e.hash.0) es e of ((bytes_eq-Decides e.hash.0 e.hash.0).1 refl)))

pub flat_named : {A : Type 0} (f : A → List Entry) (xs : List A) (many : Hash → ℕ) → ((hash : Hash) → sum_by (λ (x : A). times hash (f x)) xs ≤ many hash) → AllByRecursion (λ (e : Entry). 1 ≤ many e.hash) (flat_map f xs)
flat_named f [] many le = tt
flat_named {A} f (x ∷ xs) many le =
    All-append (λ (e : Entry). 1 ≤ many e.hash) (f x) (flat_map f xs)
    (each_member (λ (e : Entry). 1 ≤ many e.hash) (f x) (λ e of. let one = at_member (λ (e : Entry). 1 ≤ times e.hash (f x)) (f x) (self_named (f x)) e of in let all = le e.hash in omega (arith, one, all, sum_by-cons (λ (x : A). times e.hash (f x)) x xs)))
    (flat_named f xs many (λ hash. let all = le hash in omega (arith, all, sum_by-cons (λ (x : A). times hash (f x)) x xs)))

pub named_with : (f : Find) (rows : Rows) (hash : Hash) → named_times hash (state_with f rows) ≡ sum_by (λ (row : PkgRow). times hash (f row.package row.version)) rows.versions + sum_by (λ (job : ℕ × PkgRow). times hash (f job.1.package job.1.version)) rows.jobs
named_with f rows hash =
    let v = sum_over (λ (held : Held). times hash held.manifest) (held_with f) rows.versions in
    let j = sum_over (λ (job : ℕ × Held). times hash job.1.manifest) (job_held_with f) rows.jobs in
    omega (arith, v, j)

pub entries_with : (f : Find) (rows : Rows) → version_entries (state_with f rows) ≡ flat_map (λ (row : PkgRow). f row.package row.version) rows.versions
entries_with f rows = flat_over (λ (held : Held). held.manifest) (held_with f) rows.versions

-- each entry's hash has a seal among those found
found_there : (e : Entry) (es : List Entry) → Contains es e → found_seal None e.hash es ≢ None
found_there e es among none =
    let p : Entry → Bool = λ x. bytes_eq x.hash.0 e.hash.0 in
    let any = any_member p es e among ((bytes_eq-Decides e.hash.0 e.hash.0).1 refl) in
    let found = found_of_any (λ (x : Entry). x) p es (ap (list_any p) (same_list es) ∙ any) in
    none-some (as_found found.0) (sym none ∙ ap (λ (o : Option Entry). option_map (λ (x : Entry). let s : Seal = record { size = x.size; since = false } in s) o) found.1)
  where
    same_list : (xs : List Entry) → map (λ (x : Entry). x) xs ≡ xs
    same_list [] = refl
    same_list (x ∷ xs) = ap (λ l. x ∷ l) (same_list xs)

-- the counts of a state, with the seals that its versions' entries found
pub counted_with : (counts : Counts) (s : State) → ((hash : Hash) → count_of counts hash ≡ named_times hash s) → AllByRecursion IsSmall s.versions → AllByRecursion (λ (job : ℕ × Held). IsSmall job.1) s.jobs
    → ((hash : Hash) → sealed_of counts hash ≡ found_seal None hash (version_entries s)) → ((hash : Hash) → count_of counts hash ≡ 0 → sealed_of counts hash ≡ None) → IsCounted counts s []
counted_with counts s count small small_jobs seals unnamed = record {
  counted = λ hash. let h = count hash in omega (arith, h);
  small_more = omega arith;
  small_versions = small;
  small_jobs = small_jobs;
  sealed_needed = λ hash sealed. by hash sealed (count_of counts hash) refl;
  versions_sealed = each_member (IsSealedAll counts) s.versions (λ held among. each_member (λ (e : Entry). sealed_of counts e.hash ≢ None) held.manifest
      (λ e of none. found_there e (version_entries s) (flat_member (λ (h : Held). h.manifest) s.versions held e among of) (sym (seals e.hash) ∙ none)));
}
  where
    by : (hash : Hash) → sealed_of counts hash ≢ None → (n : ℕ) → count_of counts hash ≡ n → is_needed hash.0 s ≡ true
    by hash sealed zero none = absurd (sealed (unnamed hash none))
    by hash sealed (suc n) some = let h = count hash in needed_of hash s (omega (arith, some, h))

-- the manifest of what is held
abbrev held_entries : Option Held → Option (List Entry)
held_entries found = option_map (λ (held : Held). held.manifest) found

-- the manifest that is found for a row
abbrev row_entries : Find → Option PkgRow → Option (List Entry)
row_entries f found = option_map (λ (row : PkgRow). f row.package row.version) found

-- the manifest of an unfinished job is the one that is found for its row
pub job_held : (f : Find) (job : ℕ) (rows : Rows) (o : Option PkgRow) → row_of_job job rows.jobs ≡ o → row_entries f o ≡ held_entries (held_by_job job (state_with f rows).jobs)
job_held f job rows o is =
    ap (row_entries f) (sym is)
    ∙ by (find (λ (u : ℕ × PkgRow). u.0 == job) rows.jobs)
    ∙ ap (λ (o : Option (ℕ × Held)). held_entries (option_map (λ (u : ℕ × Held). u.1) o)) (sym (find_map (job_held_with f) (λ (u : ℕ × PkgRow). u.0 == job) (λ (u : ℕ × Held). u.0 == job) (λ u. refl) rows.jobs))
  where
    by : (o : Option (ℕ × PkgRow)) → row_entries f (option_map (λ (u : ℕ × PkgRow). u.1) o) ≡ held_entries (option_map (λ (u : ℕ × Held). u.1) (option_map (job_held_with f) o))
    by None = refl
    by (Some u) = refl

abbrev entries_or_none : Option (List Entry) → List Entry
entries_or_none found = unwrap_or found []

pub job_entries : (f : Find) (job : ℕ) (rows : Rows) (o : Option PkgRow) → row_of_job job rows.jobs ≡ o → entries_or_none (row_entries f o) ≡ job_manifest job (state_with f rows)
job_entries f job rows o is = ap entries_or_none (job_held f job rows o is)

-- that of a version too
version_found : (f : Find) (id : List ℕ) (version : ℕ) (rows : Rows) → row_entries f (find (is_of id version) rows.versions) ≡ held_entries (find (λ (held : Held). is_of id version held.row) (state_with f rows).versions)
version_found f id version rows =
    by (find (is_of id version) rows.versions)
    ∙ ap held_entries (sym (find_map (held_with f) (is_of id version) (λ (held : Held). is_of id version held.row) (λ r. refl) rows.versions))
  where
    by : (o : Option PkgRow) → row_entries f o ≡ held_entries (option_map (held_with f) o)
    by None = refl
    by (Some row) = refl

pub version_held : (f : Find) (id : List ℕ) (version : ℕ) (rows : Rows) → fault_of rows (RemovedRecord id version) ≡ None → Some (f id version) ≡ held_entries (find (λ (held : Held). is_of id version held.row) (state_with f rows).versions)
version_held f id version rows free =
    let found = found_any (is_of id version) rows.versions (when_true (has_version id version rows) NoVersion free) in
    let parts = and_parts (bytes_eq found.0.package id) (found.0.version == version) found.2 in
    let same_id : found.0.package ≡ id = (bytes_eq-Decides found.0.package id).0 parts.0 in
    let same_version : found.0.version ≡ version = eqb-true found.0.version version parts.1 in
    ap (λ (i : List ℕ). Some (f i version)) (sym same_id) ∙ ap (λ (v : ℕ). Some (f found.0.package v)) (sym same_version) ∙ ap (row_entries f) (sym found.1) ∙ version_found f id version rows
  where
    found_any : {A : Type 0} (p : A → Bool) (xs : List A) → list_any p xs ≡ true → (x : A) × (find p xs ≡ Some x) × (p x ≡ true)
    found_any p [] is = absurd (false≢true is)
    found_any {A} p (x ∷ xs) is = at (p x) refl is (found_any p xs)
      where
        at : (b : Bool) → p x ≡ b → (b || list_any p xs) ≡ true → (list_any p xs ≡ true → (y : A) × (find p xs ≡ Some y) × (p y ≡ true)) → (y : A) × (cond b (Some x) (find p xs) ≡ Some y) × (p y ≡ true)
        at true same any rest = (x, refl, same)
        at false same any rest = rest any

pub version_there : (f : Find) (id : List ℕ) (version : ℕ) (rows : Rows) → fault_of rows (RemovedRecord id version) ≡ None → f id version ≡ version_manifest id version (state_with f rows)
version_there f id version rows free = ap entries_or_none (version_held f id version rows free)

pub version_lacks : (f : Find) (id : List ℕ) (version : ℕ) (rows : Rows) (fault : RowFault) → fault_of rows (RemovedRecord id version) ≡ Some fault → None ≡ held_entries (find (λ (held : Held). is_of id version held.row) (state_with f rows).versions)
version_lacks f id version rows fault is = by (has_version id version rows) refl is
  where
    none_any : {A : Type 0} (p : A → Bool) (xs : List A) → list_any p xs ≡ false → find p xs ≡ None
    none_any p [] none = refl
    none_any p (x ∷ xs) none = at (p x) none (none_any p xs)
      where
        at : (b : Bool) → (b || list_any p xs) ≡ false → (list_any p xs ≡ false → find p xs ≡ None) → cond b (Some x) (find p xs) ≡ None
        at true any rest = absurd (true≢false any)
        at false any rest = rest any

    by : (b : Bool) → has_version id version rows ≡ b → when (not b) NoVersion ≡ Some fault → None ≡ held_entries (find (λ (held : Held). is_of id version held.row) (state_with f rows).versions)
    by true has none = absurd (none-some fault none)
    by false has some = ap (row_entries f) (sym (none_any (is_of id version) rows.versions has)) ∙ version_found f id version rows

pub version_none : (f : Find) (id : List ℕ) (version : ℕ) (rows : Rows) (fault : RowFault) → fault_of rows (RemovedRecord id version) ≡ Some fault → (let none : List Entry = [] in none) ≡ version_manifest id version (state_with f rows)
version_none f id version rows fault is = ap entries_or_none (version_lacks f id version rows fault is)

-- a hash is sealed that is needed
pub sealed_counted : (counts counts' : Counts) (s : State) (hash : Hash) (seal : Seal) → IsCounted counts s [] → is_needed hash.0 s ≡ true → ((other : Hash) → count_of counts' other ≡ count_of counts other)
    → ((other : Hash) → sealed_of counts' other ≡ cond (bytes_eq hash.0 other.0) (Some seal) (sealed_of counts other)) → IsCounted counts' s []
sealed_counted counts counts' s hash seal old needed count seals = record {
  counted = λ other. count other ∙ old.counted other;
  small_more = old.small_more;
  small_versions = old.small_versions;
  small_jobs = old.small_jobs;
  sealed_needed = λ other sealed. by other sealed (bytes_eq hash.0 other.0) refl;
  versions_sealed = each_member (IsSealedAll counts') s.versions (λ held among. each_member (λ (e : Entry). sealed_of counts' e.hash ≢ None) held.manifest
      (λ e of none. still e (at_member (λ (e : Entry). sealed_of counts e.hash ≢ None) held.manifest (at_member (IsSealedAll counts) s.versions old.versions_sealed held among) e of) (bytes_eq hash.0 e.hash.0) (sym (seals e.hash) ∙ none)));
}
  where
    by : (other : Hash) → sealed_of counts' other ≢ None → (b : Bool) → bytes_eq hash.0 other.0 ≡ b → is_needed other.0 s ≡ true
    by other sealed true is = subst (λ (h : List ℕ). is_needed h s ≡ true) ((bytes_eq-Decides hash.0 other.0).0 is) needed
    by other sealed false is = old.sealed_needed other (λ none. sealed (seals other ∙ ap (λ (b : Bool). cond b (Some seal) (sealed_of counts other)) is ∙ none))

    still : (e : Entry) → sealed_of counts e.hash ≢ None → (b : Bool) → cond b (Some seal) (sealed_of counts e.hash) ≡ None → ⊥
    still e sealed true none = none-some seal (sym none)
    still e sealed false none = sealed none

-- what is sealed stays so
same_sealed : (counts counts' : Counts) (s : State) → ((hash : Hash) → sealed_of counts' hash ≡ sealed_of counts hash) → AllByRecursion (IsSealedAll counts) s.versions → AllByRecursion (IsSealedAll counts') s.versions
same_sealed counts counts' s seals old =
    each_member (IsSealedAll counts') s.versions (λ held among. each_member (λ (e : Entry). sealed_of counts' e.hash ≢ None) held.manifest
    (λ e of none. at_member (λ (e : Entry). sealed_of counts e.hash ≢ None) held.manifest (at_member (IsSealedAll counts) s.versions old held among) e of (sym (seals e.hash) ∙ none)))

-- one manifest is counted more
pub counted_more : (counts counts' : Counts) (s : State) (manifest : List Entry) → IsCounted counts s [] → length manifest ≤ 20000 → ((hash : Hash) → count_of counts' hash ≡ count_of counts hash + times hash manifest)
    → ((hash : Hash) → sealed_of counts' hash ≡ sealed_of counts hash) → IsCounted counts' s manifest
counted_more counts counts' s manifest old few count seals = record {
  counted = λ hash. let a = count hash in let b = old.counted hash in omega (arith, a, b);
  small_more = few;
  small_versions = old.small_versions;
  small_jobs = old.small_jobs;
  sealed_needed = λ hash sealed. old.sealed_needed hash (λ none. sealed (seals hash ∙ none));
  versions_sealed = same_sealed counts counts' s seals old.versions_sealed;
}

-- and one fewer, that of a job which did not begin
pub counted_less : (counts counts' : Counts) (s : State) (manifest : List Entry) → IsCounted counts s manifest → ((hash : Hash) → count_of counts' hash ≡ count_of counts hash - times hash manifest)
    → ((hash : Hash) → sealed_of counts' hash ≡ seal_kept (count_of counts' hash) (sealed_of counts hash)) → IsCounted counts' s [] × ((hash : Hash) → sealed_of counts' hash ≡ sealed_of counts hash)
counted_less counts counts' s manifest old count seals = (
  record {
    counted = λ hash. let a = count hash in let b = old.counted hash in omega (arith, a, b);
    small_more = omega arith;
    small_versions = old.small_versions;
    small_jobs = old.small_jobs;
    sealed_needed = λ hash sealed. old.sealed_needed hash (λ none. sealed (same hash ∙ none));
    versions_sealed = same_sealed counts counts' s same old.versions_sealed;
  },
  same,
)
  where
    by : (hash : Hash) (seal : Option Seal) → sealed_of counts hash ≡ seal → sealed_of counts' hash ≡ seal
    by hash None none = seals hash ∙ ap (seal_kept (count_of counts' hash)) none ∙ both (count_of counts' hash == 0)
      where
        both : (b : Bool) → (let o : Option Seal = cond b None None in o) ≡ None
        both true = refl
        both false = refl
    by hash (Some seal) some =
        let many = times_of hash s (old.sealed_needed hash (λ none. none-some seal (sym none ∙ some))) in
        let a = count hash in
        let b = old.counted hash in
        seals hash ∙ ap (seal_kept (count_of counts' hash)) some ∙ sym (seal_more (count_of counts' hash) (Some seal) (omega (arith, many, a, b)))

    same : (hash : Hash) → sealed_of counts' hash ≡ sealed_of counts hash
    same hash = by hash (sealed_of counts hash) refl

-- a manifest more finds room among the counts
pub named_few : (s : State) → AreValid (rows_of s) → AllByRecursion IsSmall s.versions → AllByRecursion (λ (job : ℕ × Held). IsSmall job.1) s.jobs → (hash : Hash) → named_times hash s ≤ 20000 * 8192
named_few s valid versions jobs hash =
    let v = sum_small (λ (held : Held). times hash held.manifest) (λ (held : Held). length held.manifest) (λ held. times_few hash held.manifest) s.versions versions in
    let j = sum_small (λ (job : ℕ × Held). times hash job.1.manifest) (λ (job : ℕ × Held). length job.1.manifest) (λ job. times_few hash job.1.manifest) s.jobs jobs in
    let few = valid.few_versions in
    omega (arith, v, j, few, length-map s.versions row_of, length-map s.jobs job_of)

-- what is found passes its test
pub found_passes : {A : Type 0} (p : A → Bool) (xs : List A) (x : A) → find p xs ≡ Some x → p x ≡ true
found_passes p [] x is = absurd (cc)
found_passes p (y ∷ ys) x is = by (p y) refl is (found_passes p ys x)
  where
    by : (b : Bool) → p y ≡ b → cond b (Some y) (find p ys) ≡ Some x → (find p ys ≡ Some x → p x ≡ true) → p x ≡ true
    by true same some rest = ap p (sym (same_Some y x some)) ∙ same
    by false same some rest = rest some

-- of what an opening sealed
pub found_named : (counts : Counts) (s : State) → ((hash : Hash) → sealed_of counts hash ≡ found_seal None hash (version_entries s)) → IsCounted counts s [] → SealsVersions (sealed_of counts) s
found_named counts s seals old hash sealed = by (find (λ (e : Entry). bytes_eq e.hash.0 hash.0) (version_entries s)) refl
  where
    none_found : find (λ (e : Entry). bytes_eq e.hash.0 hash.0) (version_entries s) ≡ None → ⊥
    none_found none = sealed (seals hash ∙ ap (λ (o : Option Entry). option_map (λ (x : Entry). let s : Seal = record { size = x.size; since = false } in s) o) none)

    by : (o : Option Entry) → find (λ (e : Entry). bytes_eq e.hash.0 hash.0) (version_entries s) ≡ o → is_named hash.0 s ≡ true
    by None none = absurd (none_found none)
    by (Some e) some =
        let same = found_one (λ (x : Entry). is_named x.hash.0 s ≡ true) (λ (x : Entry). bytes_eq x.hash.0 hash.0) (version_entries s) (each_named s.versions (λ held among. among)) e some in
        let is : e.hash.0 ≡ hash.0 = (bytes_eq-Decides e.hash.0 hash.0).0 (found_passes (λ (x : Entry). bytes_eq x.hash.0 hash.0) (version_entries s) e some) in
        subst (λ (h : List ℕ). is_named h s ≡ true) is same
      where
        each_named : (vs : List Held) → ((held : Held) → Contains vs held → Contains s.versions held) → AllByRecursion (λ (x : Entry). is_named x.hash.0 s ≡ true) (flat_map (λ (held : Held). held.manifest) vs)
        each_named [] among = tt
        each_named (v ∷ vs) among =
            All-append (λ (x : Entry). is_named x.hash.0 s ≡ true) v.manifest (flat_map (λ (held : Held). held.manifest) vs)
            (each_member (λ (x : Entry). is_named x.hash.0 s ≡ true) v.manifest (λ x of. any_member (λ (h : Held). has_hash x.hash.0 h.manifest) s.versions v (among v (first_member v vs))
            (any_member (λ (y : Entry). bytes_eq y.hash.0 x.hash.0) v.manifest x of ((bytes_eq-Decides x.hash.0 x.hash.0).1 refl))))
            (each_named vs (λ held c. among held (later_member v vs held c)))

-- the manifest for which memory is taken
pub taken_same : (taken : Option Held) (manifest : List Entry) → Some manifest ≡ option_map (λ (held : Held). held.manifest) taken → manifest ≡ taken_manifest taken
taken_same None manifest is = absurd (none-some manifest (sym is))
taken_same (Some held) manifest is = same_Some manifest held.manifest is

pub on_err : {T E : Type 0} {P Q : Type 0} → (P → Q) → (r : Result T E) → OnErr r P → OnErr r Q
on_err f (Ok x) p = tt
on_err f (Err e) p = f p
