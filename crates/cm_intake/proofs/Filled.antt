-- The hashes of a job are read again one after another.
use Rattle.std.proofs.Common.{◌≡◌, ◌⊎◌, inl, inr, ℕ, zero, suc, get_or, ◌<◌, ◌==◌, Bool, true, false, cond, List, [], ◌∷◌, length, take, refl, sym, ◌∙◌, ap, subst}
use Rattle.std.specs.Prelude.{◌≢◌, ◌&&◌, not, is_some, Option, None, Some, unwrap_or, option_map, slice_get, Contains, Ok, Err}
use Rattle.std.specs.Option.{ForSome}
use Rattle.std.specs.List.{AllByRecursion}
use Rattle.std.specs.Cmp.Lexicographic.{slice_cmp}
use Rattle.std.specs.Ordering.{nat_cmp, is_lt}
use Rattle.std.specs.Str.{bytes_eq}
use Rattle.std.specs.declared.cmp.Ordering.{Ordering}
use Rattle.std.specs.declared.cmp.Ordering.TheVariants.{Less}
use Rattle.std.proofs.lemmas.Bool.{eq-eqb, eqb-true, ne_eqb, false≢true}
use Rattle.std.proofs.lemmas.Option.{none-some, same_Some}
use Rattle.std.proofs.lemmas.Slice.Eq.{bytes_eq-Decides}
use Rattle.sha2.specs.Sha256.{sha256}
use Rattle.cm_base.specs.declared.hash.Hash.{Hash}
use Rattle.cm_disk.specs.Disk.{File as Bytes, Files}
use Rattle.cm_disk.specs.declared.disk.DiskFault.{DiskFault}
use Rattle.cm_pkglib.specs.Counts.{seal_at}
use Rattle.cm_pkglib.specs.declared.counts.Seal.{Seal}
use Rattle.cm_filelib.specs.Stored.{is_named as is_file_named}
use Rattle.cm_state.specs.Needed.{is_named}
use Rattle.cm_state.specs.State.{State}
use Rattle.cm_state.proofs.Members.{each_member, at_member}
use Rattle.cm_contents.specs.Wants.{size_in, is_hash_above, is_wanted, IsLeastWanted, IsNextWanted}
use Rattle.cm_tree.specs.Folders.{Shown}
use Rattle.cm_tree.specs.declared.entry.Entry.{Entry}
use Rattle.cm_library.specs.Filing.{SealsIt}
use Rattle.cm_library.specs.Kept.{Seen}
use Rattle.cm_intake.specs.Filling.{SealsOne, SealsWanted, KeepsState, StaysRead, ReadsAgain, ReadsFirst, Fills}
use Rattle.cm_intake.specs.Firsts.{number_of, AreFirsts}
use Rattle.cm_intake.specs.declared.firsts.Firsts.{Firsts}
use Rattle.cm_intake.specs.Readings.{first_with, is_changed, change_of, first_change}
use Rattle.cm_intake.specs.declared.fault.IntakeFault.{IntakeFault}
use Rattle.cm_intake.specs.declared.fault.IntakeFault.TheVariants.{Changed}
use Rattle.cm_intake.proofs.FirstChange.{first_with-some, first_at, first_with_size, size_in-first_with, none_changed, first_changed, named_unchanged, is_changed-read, changed_elsewhere}
use Rattle.cm_intake.proofs.Fewer.{passing, passing_lt}
use Rattle.cm_intake.proofs.Going.{keeps_then}
use Rattle.cm_intake.proofs.Held.{hash_is, member_at}

-- what the bytes of a file are when nothing was read of it again
abbrev pub as_shown : Shown → ℕ → List ℕ
as_shown shown k = unwrap_or (shown.later k) []

pub shown_so : (shown : Shown) (k : ℕ) → ForSome (shown.later k) (λ bytes. as_shown shown k ≡ bytes)
shown_so shown k bytes told = ap (λ (o : Option (List ℕ)). unwrap_or o []) told

-- the same readings, but this file has these bytes
abbrev pub reading_with : ℕ → List ℕ → (ℕ → List ℕ) → ℕ → List ℕ
reading_with n bytes again k = cond (k == n) bytes (again k)

with_here : (n : ℕ) (bytes : List ℕ) (again : ℕ → List ℕ) → reading_with n bytes again n ≡ bytes
with_here n bytes again = ap (λ (b : Bool). cond b bytes (again n)) (eq-eqb n n refl)

with_there : (n : ℕ) (bytes : List ℕ) (again : ℕ → List ℕ) (k : ℕ) → k ≢ n → reading_with n bytes again k ≡ again k
with_there n bytes again k differs = ap (λ (b : Bool). cond b bytes (again k)) (ne_eqb k n differs)

pub agrees_with : (shown : Shown) (n : ℕ) (bytes : List ℕ) (again : ℕ → List ℕ) → ForSome (shown.later n) (λ all. bytes ≡ all) → (k : ℕ) → ForSome (shown.later k) (λ all. again k ≡ all) → ForSome (shown.later k) (λ all. reading_with n bytes again k ≡ all)
agrees_with shown n bytes again here k there all told = by (k == n) refl
  where
    by : (b : Bool) → (k == n) ≡ b → cond b bytes (again k) ≡ all
    by true is = here all (ap shown.later (sym (eqb-true k n is)) ∙ told)
    by false is = there all told

-- An entry's hash, where those up to this one were read again: if it is sealed the second reading has it unchanged; else no version names
-- it, and it is above.
pub record HashSoFar (state : State) (manifest : List Entry) (again : ℕ → List ℕ) (after : Option Hash) (seals : Hash → Option Seal) (entry : Entry) : Type 0 where
  pub same : seals entry.hash ≢ None → is_changed state manifest again entry.hash ≡ false
  pub unnamed : seals entry.hash ≡ None → is_named entry.hash.0 state ≡ false
  pub above : seals entry.hash ≡ None → is_hash_above after entry.hash ≡ true

-- what is told of a change
abbrev changed_so : Entry → List ℕ → IntakeFault
changed_so entry bytes = Changed entry.path entry.hash entry.size (record { 0 = sha256 bytes }) (length bytes)

-- before the first
sealed_named : (o : Option Seal) (b : Bool) → is_some o ≡ b → o ≢ None → b ≡ true
sealed_named None b is some = absurd (some refl)
sealed_named (Some seal) b is some = sym is

unsealed_unnamed : (o : Option Seal) (b : Bool) → is_some o ≡ b → o ≡ None → b ≡ false
unsealed_unnamed o b is none = sym is ∙ ap (λ (x : Option Seal). is_some x) none

pub none_filled : (state : State) (manifest : List Entry) (again : ℕ → List ℕ) (seals : Hash → Option Seal) (entry : Entry) → is_some (seals entry.hash) ≡ is_named entry.hash.0 state → HashSoFar state manifest again None seals entry
none_filled state manifest again seals entry is = record {
  same = λ some. named_unchanged state manifest again entry.hash (sealed_named (seals entry.hash) (is_named entry.hash.0 state) is some);
  unnamed = λ none. unsealed_unnamed (seals entry.hash) (is_named entry.hash.0 state) is none;
  above = λ none. refl;
}

-- a seal more
sealed_here : (hash : Hash) (size : ℕ) (old new : Hash → Option Seal) → SealsIt hash size old new → (other : Hash) → hash ≡ other → new other ≡ Some (record { size = size; since = true })
sealed_here hash size old new seals other same =
    seals other ∙ ap (λ (b : Bool). cond b (Some (let s : Seal = record { size = size; since = true } in s)) (old other)) ((bytes_eq-Decides hash.0 other.0).1 (ap (λ (h : Hash). h.0) same))

sealed_there : (hash : Hash) (size : ℕ) (old new : Hash → Option Seal) → SealsIt hash size old new → (other : Hash) → bytes_eq hash.0 other.0 ≡ false → new other ≡ old other
sealed_there hash size old new seals other differs =
    seals other ∙ ap (λ (b : Bool). cond b (Some (let s : Seal = record { size = size; since = true } in s)) (old other)) differs

-- what is not sealed was not
was_unsealed : (manifest : List Entry) (was mid : Hash → Option Seal) → SealsWanted manifest was mid → (hash : Hash) → mid hash ≡ None → was hash ≡ None
was_unsealed manifest was mid seals hash none = elim (seals hash) [ inl same ↦ sym same ∙ none | inr one ↦ one.unsealed ]

pub seals_next : (manifest : List Entry) (was mid new : Hash → Option Seal) (hash : Hash) (size : ℕ) → SealsWanted manifest was mid → mid hash ≡ None → size_in hash manifest ≡ Some size → SealsIt hash size mid new → SealsWanted manifest was new
seals_next manifest was mid new hash size so_far none wanted seals other = by (bytes_eq hash.0 other.0) refl
  where
    by : (b : Bool) → bytes_eq hash.0 other.0 ≡ b → (new other ≡ was other) ⊎ SealsOne manifest (was other) (new other) other
    by true is =
        let same : hash ≡ other = hash_is hash other ((bytes_eq-Decides hash.0 other.0).0 is) in
        inr (record {
          seal = record { size = size; since = true };
          unsealed = was_unsealed manifest was mid so_far other (ap mid (sym same) ∙ none);
          is = sealed_here hash size mid new seals other same;
          wanted = ap (λ (h : Hash). size_in h manifest) (sym same) ∙ wanted;
        })
    by false is = elim (so_far other) [
      | inl same ↦ inl (sealed_there hash size mid new seals other is ∙ same)
      | inr one ↦ inr (record { seal = one.seal; unsealed = one.unsealed; is = sealed_there hash size mid new seals other is ∙ one.is; wanted = one.wanted })
    ]

-- one that is above the least that is wanted
less_above : (hash other : Hash) → slice_cmp nat_cmp hash.0 other.0 ≡ Less → is_hash_above (Some hash) other ≡ true
less_above hash other less = ap (λ (o : Ordering). is_lt o) less

wanted_is : (seals : Hash → Option Seal) (after : Option Hash) (entry : Entry) → seals entry.hash ≡ None → is_hash_above after entry.hash ≡ true → is_wanted seals after entry ≡ true
wanted_is seals after entry none above = ap (λ (b : Bool). b && not (is_some (seals entry.hash))) above ∙ ap (λ (o : Option Seal). not (is_some o)) none

-- The next hash is read again.
module _ (state : State) (manifest : List Entry) (again : ℕ → List ℕ) (after : Option Hash) (old new : Hash → Option Seal) (hash : Hash) (numbered : ℕ × Entry) (found : first_with hash 0 manifest ≡ Some numbered) (bytes : List ℕ)
    (unsealed : old hash ≡ None) (least : AllByRecursion (λ (entry : Entry). is_wanted old after entry ≡ true → (entry.hash ≡ hash) ⊎ (slice_cmp nat_cmp hash.0 entry.hash.0 ≡ Less)) manifest)
    (each : AllByRecursion (HashSoFar state manifest again after old) manifest) where
  -- another hash has changed if and only if it had
  other_same : (other : Hash) → other ≢ hash → is_changed state manifest (reading_with numbered.0 bytes again) other ≡ is_changed state manifest again other
  other_same other differs = changed_elsewhere (reading_with numbered.0 bytes again) again state manifest hash numbered found (with_there numbered.0 bytes again) other differs

  least_of : (entry : Entry) → Contains manifest entry → old entry.hash ≡ None → (entry.hash ≡ hash) ⊎ (slice_cmp nat_cmp hash.0 entry.hash.0 ≡ Less)
  least_of entry among none =
      let so_far = at_member (HashSoFar state manifest again after old) manifest each entry among in
      at_member (λ (e : Entry). is_wanted old after e ≡ true → (e.hash ≡ hash) ⊎ (slice_cmp nat_cmp hash.0 e.hash.0 ≡ Less)) manifest least entry among (wanted_is old after entry none (so_far.above none))

  unnamed_here : is_named hash.0 state ≡ false
  unnamed_here =
      let first = first_with-some hash 0 manifest numbered found in
      let among = member_at manifest first.place numbered.1 first.here in
      let so_far = at_member (HashSoFar state manifest again after old) manifest each numbered.1 among in
      subst (λ (h : Hash). is_named h.0 state ≡ false) first.has_hash (so_far.unnamed (ap old first.has_hash ∙ unsealed))

  -- it has the same bytes if and only if it is unchanged
  changed_is : (b : Bool) → is_file_named numbered.1.hash.0 numbered.1.size (take numbered.1.size bytes) ≡ b → is_changed state manifest (reading_with numbered.0 bytes again) hash ≡ not b
  changed_is b is =
      is_changed-read state manifest (reading_with numbered.0 bytes again) hash numbered unnamed_here found
      ∙ ap (λ (got : List ℕ). not (is_file_named numbered.1.hash.0 numbered.1.size (take numbered.1.size got))) (with_here numbered.0 bytes again)
      ∙ ap not is

  -- it is sealed
  pub filled_more : is_file_named numbered.1.hash.0 numbered.1.size (take numbered.1.size bytes) ≡ true → (size : ℕ) → SealsIt hash size old new → AllByRecursion (HashSoFar state manifest (reading_with numbered.0 bytes again) (Some hash) new) manifest
  filled_more right size seals = each_member (HashSoFar state manifest (reading_with numbered.0 bytes again) (Some hash) new) manifest one
    where
      one : (entry : Entry) → Contains manifest entry → HashSoFar state manifest (reading_with numbered.0 bytes again) (Some hash) new entry
      one entry among = by (bytes_eq hash.0 entry.hash.0) refl
        where
          by : (b : Bool) → bytes_eq hash.0 entry.hash.0 ≡ b → HashSoFar state manifest (reading_with numbered.0 bytes again) (Some hash) new entry
          by true is =
              let same : hash ≡ entry.hash = hash_is hash entry.hash ((bytes_eq-Decides hash.0 entry.hash.0).0 is) in
              let sealed : new entry.hash ≢ None = λ none. none-some (let s : Seal = record { size = size; since = true } in s) (sym none ∙ sealed_here hash size old new seals entry.hash same) in
              record {
                same = λ some. subst (λ (h : Hash). is_changed state manifest (reading_with numbered.0 bytes again) h ≡ false) same (changed_is true right);
                unnamed = λ none. absurd (sealed none);
                above = λ none. absurd (sealed none);
              }
          by false is =
              let kept = sealed_there hash size old new seals entry.hash is in
              let differs : entry.hash ≢ hash = λ e. false≢true (sym is ∙ (bytes_eq-Decides hash.0 entry.hash.0).1 (ap (λ (h : Hash). h.0) (sym e))) in
              let so_far = at_member (HashSoFar state manifest again after old) manifest each entry among in
              record {
                same = λ some. other_same entry.hash differs ∙ so_far.same (λ none. some (kept ∙ none));
                unnamed = λ none. so_far.unnamed (sym kept ∙ none);
                above = λ none. elim (least_of entry among (sym kept ∙ none)) [ inl e ↦ absurd (differs e) | inr less ↦ less_above hash entry.hash less ];
              }

  -- it has changed, the first of all
  pub filled_wrong : is_file_named numbered.1.hash.0 numbered.1.size (take numbered.1.size bytes) ≡ false → first_change state manifest (reading_with numbered.0 bytes again) ≡ Some (change_of (reading_with numbered.0 bytes again) numbered)
  filled_wrong wrong = first_changed state manifest (reading_with numbered.0 bytes again) hash numbered found (changed_is false wrong) (each_member (λ (entry : Entry). is_changed state manifest (reading_with numbered.0 bytes again) entry.hash ≡ true → (entry.hash ≡ hash) ⊎ (slice_cmp nat_cmp hash.0 entry.hash.0 ≡ Less)) manifest one)
    where
      one : (entry : Entry) → Contains manifest entry → is_changed state manifest (reading_with numbered.0 bytes again) entry.hash ≡ true → (entry.hash ≡ hash) ⊎ (slice_cmp nat_cmp hash.0 entry.hash.0 ≡ Less)
      one entry among changed = by (bytes_eq hash.0 entry.hash.0) refl
        where
          so_far : HashSoFar state manifest again after old entry
          so_far = at_member (HashSoFar state manifest again after old) manifest each entry among

          or_sealed : entry.hash ≢ hash → (o : Option Seal) → old entry.hash ≡ o → (entry.hash ≡ hash) ⊎ (slice_cmp nat_cmp hash.0 entry.hash.0 ≡ Less)
          or_sealed differs None none = least_of entry among none
          or_sealed differs (Some seal) is = absurd (false≢true (sym (so_far.same (λ none. none-some seal (sym none ∙ is))) ∙ sym (other_same entry.hash differs) ∙ changed))

          by : (b : Bool) → bytes_eq hash.0 entry.hash.0 ≡ b → (entry.hash ≡ hash) ⊎ (slice_cmp nat_cmp hash.0 entry.hash.0 ≡ Less)
          by true is = inl (sym (hash_is hash entry.hash ((bytes_eq-Decides hash.0 entry.hash.0).0 is)))
          by false is = or_sealed (λ e. false≢true (sym is ∙ (bytes_eq-Decides hash.0 entry.hash.0).1 (ap (λ (h : Hash). h.0) (sym e)))) (old entry.hash) refl

-- none is wanted any more
pub all_sealed : (state : State) (manifest : List Entry) (again : ℕ → List ℕ) (after : Option Hash) (seals : Hash → Option Seal) → AllByRecursion (HashSoFar state manifest again after seals) manifest
    → AllByRecursion (λ (entry : Entry). is_wanted seals after entry ≡ false) manifest → AllByRecursion (λ (entry : Entry). seals entry.hash ≢ None) manifest
all_sealed state manifest again after seals each none =
    each_member (λ (entry : Entry). seals entry.hash ≢ None) manifest (λ entry among unsealed.
    let so_far = at_member (HashSoFar state manifest again after seals) manifest each entry among in
    false≢true (sym (at_member (λ (e : Entry). is_wanted seals after e ≡ false) manifest none entry among) ∙ wanted_is seals after entry unsealed (so_far.above unsealed)))

pub all_unchanged : (state : State) (manifest : List Entry) (again : ℕ → List ℕ) (after : Option Hash) (seals : Hash → Option Seal) → AllByRecursion (HashSoFar state manifest again after seals) manifest
    → AllByRecursion (λ (entry : Entry). seals entry.hash ≢ None) manifest → first_change state manifest again ≡ None
all_unchanged state manifest again after seals each sealed =
    none_changed state manifest again (each_member (λ (entry : Entry). is_changed state manifest again entry.hash ≡ false) manifest (λ entry among.
    let so_far = at_member (HashSoFar state manifest again after seals) manifest each entry among in
    so_far.same (at_member (λ (e : Entry). seals e.hash ≢ None) manifest sealed entry among)))

module _ {D : Type 0} (reads : D → Option Files) (may_leave : D → List ℕ → Bytes → Type 0) (moment : D → ℕ) (left_since : D → ℕ → Files → Type 0) where
  -- The hashes up to this one were read again.
  pub record FilledSoFar (shown : Shown) (manifest : List Entry) (job : ℕ) (first now : Seen D) (after : Option Hash) : Type 0 where
    pub keeps : KeepsState reads may_leave moment left_since job first now
    pub again : ℕ → List ℕ
    pub agrees : (k : ℕ) → ForSome (shown.later k) (λ bytes. again k ≡ bytes)
    pub each : AllByRecursion (HashSoFar first.state manifest again after (seal_at now.seals)) manifest
    pub seals : SealsWanted manifest (seal_at first.seals) (seal_at now.seals)

  pub filled_none : (shown : Shown) (manifest : List Entry) (job : ℕ) (first : Seen D) → KeepsState reads may_leave moment left_since job first first
      → AllByRecursion (λ (entry : Entry). is_some (seal_at first.seals entry.hash) ≡ is_named entry.hash.0 first.state) manifest → FilledSoFar shown manifest job first first None
  filled_none shown manifest job first keeps sealed = record {
    keeps = keeps;
    again = as_shown shown;
    agrees = shown_so shown;
    each = each_member (HashSoFar first.state manifest (as_shown shown) None (seal_at first.seals)) manifest
        (λ entry among. none_filled first.state manifest (as_shown shown) (seal_at first.seals) entry (at_member (λ (e : Entry). is_some (seal_at first.seals e.hash) ≡ is_named e.hash.0 first.state) manifest sealed entry among));
    seals = λ hash. inl refl;
  }

  module _ (shown shows : Shown) (manifest : List Entry) (job : ℕ) (first now : Seen D) (after : Option Hash) (s : FilledSoFar shown manifest job first now after) (stays : StaysRead shown shows) (hash : Hash) (size : ℕ)
      (next : IsLeastWanted (seal_at now.seals) manifest after hash size) where
    agrees_next : (n : ℕ) (bytes : List ℕ) → ForSome (shows.later n) (λ all. bytes ≡ all) → (k : ℕ) → ForSome (shown.later k) (λ all. reading_with n bytes s.again k ≡ all)
    agrees_next n bytes so k = agrees_with shown n bytes s.again (λ all told. so all (stays.later n ∙ told)) k (s.agrees k)

    pub filled_next : (new : Seen D) → KeepsState reads may_leave moment left_since job now new → ReadsFirst shows manifest hash (seal_at now.seals) (seal_at new.seals) None → FilledSoFar shown manifest job first new (Some hash)
    filled_next new keeps r =
        let named : r.numbered.1.hash ≡ hash = (first_with-some hash 0 manifest r.numbered r.is_first).has_hash in
        let seals = subst (λ (h : Hash). SealsIt h r.numbered.1.size (seal_at now.seals) (seal_at new.seals)) named r.same.1 in
        record {
          keeps = keeps_then reads may_leave moment left_since job first now new s.keeps keeps;
          again = reading_with r.numbered.0 r.bytes s.again;
          agrees = agrees_next r.numbered.0 r.bytes r.told_so;
          each = filled_more first.state manifest s.again after (seal_at now.seals) (seal_at new.seals) hash r.numbered r.is_first r.bytes next.unsealed next.least s.each r.same.0 r.numbered.1.size seals;
          seals = seals_next manifest (seal_at first.seals) (seal_at now.seals) (seal_at new.seals) hash r.numbered.1.size s.seals next.unsealed (first_with_size hash 0 manifest r.numbered r.is_first) seals;
        }

    -- a second reading that has a change
    pub filled_changed : (new : Hash → Option Seal) (change : IntakeFault) → ReadsFirst shows manifest hash (seal_at now.seals) new (Some change)
        → (again : ℕ → List ℕ) × ((k : ℕ) → ForSome (shown.later k) (λ all. again k ≡ all)) × (Some change ≡ first_change first.state manifest again)
    filled_changed new change r =
        let n = r.numbered.0 in
        let entry = r.numbered.1 in
        let bytes_then = with_here n r.bytes s.again in (
          reading_with n r.bytes s.again,
          agrees_next n r.bytes r.told_so,
          ap (λ (f : IntakeFault). Some f) (r.same.1 ∙ ap (λ (b : List ℕ). changed_so entry (take entry.size b)) (sym bytes_then))
              ∙ sym (filled_wrong first.state manifest s.again after (seal_at now.seals) new hash r.numbered r.is_first r.bytes next.unsealed next.least s.each r.same.0),
        )

  -- none is left
  pub filled_all : (shown : Shown) (manifest : List Entry) (job : ℕ) (first now : Seen D) (after : Option Hash) (s : FilledSoFar shown manifest job first now after) → IsNextWanted (seal_at now.seals) manifest after None
      → (AllByRecursion (λ (entry : Entry). seal_at now.seals entry.hash ≢ None) manifest) × (first_change first.state manifest s.again ≡ None)
  filled_all shown manifest job first now after s none =
      let sealed = all_sealed first.state manifest s.again after (seal_at now.seals) s.each none in
      (sealed, all_unchanged first.state manifest s.again after (seal_at now.seals) s.each sealed)

  -- how the filling ends
  pub fills_done : (shown : Shown) (from to : ℕ) (manifest : List Entry) (job : ℕ) (first now : Seen D) (after : Option Hash) → FilledSoFar shown manifest job first now after → IsNextWanted (seal_at now.seals) manifest after None → Fills shown from to manifest first now (Ok None)
  fills_done shown from to manifest job first now after s none =
      let all = filled_all shown manifest job first now after s none in
      record {
        second = Some s.again;
        is_second = record { agrees = λ k lt. s.agrees k; failed = λ gone. absurd (none-some s.again (sym gone)) };
        cause = sym all.1;
        filled = λ is. (s.seals, all.0);
      }

  pub fills_changed : (shown shows : Shown) (from to : ℕ) (manifest : List Entry) (job : ℕ) (first now new : Seen D) (after : Option Hash) (hash : Hash) (size : ℕ) (change : IntakeFault) → FilledSoFar shown manifest job first now after → StaysRead shown shows
      → IsLeastWanted (seal_at now.seals) manifest after hash size → ReadsFirst shows manifest hash (seal_at now.seals) (seal_at new.seals) (Some change) → Fills shown from to manifest first new (Ok (Some change))
  fills_changed shown shows from to manifest job first now new after hash size change s stays next r =
      let found = filled_changed shown shows manifest job first now after s stays hash size next (seal_at new.seals) change r in
      record {
        second = Some found.0;
        is_second = record { agrees = λ k lt. found.1 k; failed = λ gone. absurd (none-some found.0 (sym gone)) };
        cause = found.2;
        filled = λ is. absurd (none-some change (sym is));
      }

  pub fills_failed : (shown : Shown) (from to : ℕ) (manifest : List Entry) (job : ℕ) (first now new : Seen D) (after : Option Hash) (fault : DiskFault) → FilledSoFar shown manifest job first now after → Fills shown from to manifest first new (Err fault)
  fills_failed shown from to manifest job first now new after fault s = record {
    second = Some s.again;
    is_second = record { agrees = λ k lt. s.agrees k; failed = λ gone. absurd (none-some s.again (sym gone)) };
    cause = tt;
    filled = tt;
  }

-- one hash fewer is not sealed
pub fewer_unsealed : (shown : Shown) (manifest : List Entry) (hash : Hash) (old new : Hash → Option Seal) → old hash ≡ None → ReadsFirst shown manifest hash old new None
    → passing (λ (entry : Entry). not (is_some (new entry.hash))) manifest < passing (λ (entry : Entry). not (is_some (old entry.hash))) manifest
fewer_unsealed shown manifest hash old new unsealed r =
    let first = r.numbered.1 in
    let named : first.hash ≡ hash = (first_with-some hash 0 manifest r.numbered r.is_first).has_hash in
    passing_lt (λ (entry : Entry). not (is_some (old entry.hash))) (λ (entry : Entry). not (is_some (new entry.hash))) (λ entry. still entry first.hash first.size r.same.1) manifest r.numbered.0 first (first_at hash manifest r.numbered r.is_first)
    (ap (λ (o : Option Seal). not (is_some o)) (ap old named ∙ unsealed)) (ap (λ (o : Option Seal). not (is_some o)) (sealed_here first.hash first.size old new r.same.1 first.hash refl))
  where
    still : (entry : Entry) (sealed : Hash) (size : ℕ) → SealsIt sealed size old new → not (is_some (new entry.hash)) ≡ true → not (is_some (old entry.hash)) ≡ true
    still entry sealed size seals none = by (bytes_eq sealed.0 entry.hash.0) refl
      where
        by : (b : Bool) → bytes_eq sealed.0 entry.hash.0 ≡ b → not (is_some (old entry.hash)) ≡ true
        by true is = absurd (false≢true (sym (ap (λ (o : Option Seal). not (is_some o)) (sealed_here sealed size old new seals entry.hash (hash_is sealed entry.hash ((bytes_eq-Decides sealed.0 entry.hash.0).0 is)))) ∙ none))
        by false is = ap (λ (o : Option Seal). not (is_some o)) (sym (sealed_there sealed size old new seals entry.hash is)) ∙ none

-- the first entry of a hash, by its number
pub first_entry : (firsts : Firsts) (manifest : List Entry) (hash : Hash) (n : ℕ) → AreFirsts firsts manifest → number_of firsts hash ≡ Some n → (entry : Entry) × (first_with hash 0 manifest ≡ Some (n, entry))
first_entry firsts manifest hash n are is = by (first_with hash 0 manifest) refl
  where
    by : (o : Option (ℕ × Entry)) → first_with hash 0 manifest ≡ o → (entry : Entry) × (first_with hash 0 manifest ≡ Some (n, entry))
    by None none = absurd (none-some n (ap (λ (o : Option (ℕ × Entry)). option_map (λ (x : ℕ × Entry). x.0) o) (sym none) ∙ sym (are hash) ∙ is))
    by (Some numbered) found =
        let same : numbered.0 ≡ n = same_Some numbered.0 n (ap (λ (o : Option (ℕ × Entry)). option_map (λ (x : ℕ × Entry). x.0) o) (sym found) ∙ sym (are hash) ∙ is) in
        (numbered.1, found ∙ ap (λ (k : ℕ). Some (k, numbered.1)) same)

-- one that is wanted has a number
pub first_number : (firsts : Firsts) (manifest : List Entry) (hash : Hash) → AreFirsts firsts manifest → size_in hash manifest ≢ None → number_of firsts hash ≡ None → ⊥
first_number firsts manifest hash are sized none = by (first_with hash 0 manifest) refl
  where
    by : (o : Option (ℕ × Entry)) → first_with hash 0 manifest ≡ o → ⊥
    by None is = sized (size_in-first_with hash 0 manifest ∙ ap (λ (o : Option (ℕ × Entry)). option_map (λ (x : ℕ × Entry). x.1.size) o) is)
    by (Some numbered) is = none-some numbered.0 (sym none ∙ are hash ∙ ap (λ (o : Option (ℕ × Entry)). option_map (λ (x : ℕ × Entry). x.0) o) is)

-- the element of a number
at_is : {A : Type 0} (xs : List A) (i : ℕ) (x y : A) → slice_get xs i ≡ Some x → y ≡ get_or xs i y → y ≡ x
at_is [] i x y is same = absurd (none-some x is)
at_is (z ∷ zs) zero x y is same = same ∙ same_Some z x is
at_is (z ∷ zs) (suc i) x y is same = at_is zs i x y is same

pub indexed_first : (manifest : List Entry) (hash : Hash) (n : ℕ) (first entry : Entry) → first_with hash 0 manifest ≡ Some (n, first) → entry ≡ get_or manifest n entry → first_with hash 0 manifest ≡ Some (n, entry)
indexed_first manifest hash n first entry found is = found ∙ ap (λ (e : Entry). Some (n, e)) (sym (at_is manifest n first entry (first_at hash manifest (n, first) found) is))

-- what comes of a hash that is read again
pub reads_first : (shown : Shown) (manifest : List Entry) (hash : Hash) (n : ℕ) (entry : Entry) (old new : Hash → Option Seal) → first_with hash 0 manifest ≡ Some (n, entry) → ReadsAgain (shown.later n) hash entry.size old new None → ReadsFirst shown manifest hash old new None
reads_first shown manifest hash n entry old new found again =
    let named : entry.hash ≡ hash = (first_with-some hash 0 manifest (n, entry) found).has_hash in
    record {
      numbered = (n, entry);
      is_first = found;
      bytes = again.bytes;
      told_so = again.told_so;
      same = subst (λ (h : Hash). (is_file_named h.0 entry.size (take entry.size again.bytes) ≡ true) × SealsIt h entry.size old new) (sym named) again.same;
    }

pub reads_changed : (shown : Shown) (manifest : List Entry) (hash : Hash) (n : ℕ) (entry : Entry) (old new : Hash → Option Seal) (got : Hash) (many : ℕ) → first_with hash 0 manifest ≡ Some (n, entry) → ReadsAgain (shown.later n) hash entry.size old new (Some (got, many))
    → ReadsFirst shown manifest hash old new (Some (Changed entry.path entry.hash entry.size got many))
reads_changed shown manifest hash n entry old new got many found again =
    let named : entry.hash ≡ hash = (first_with-some hash 0 manifest (n, entry) found).has_hash in
    let bytes = take entry.size again.bytes in
    record {
      numbered = (n, entry);
      is_first = found;
      bytes = again.bytes;
      told_so = again.told_so;
      same = (
        subst (λ (h : Hash). is_file_named h.0 entry.size bytes ≡ false) (sym named) again.same.0,
        ap (λ (h : Hash). Changed entry.path entry.hash entry.size h many) (hash_is got (record { 0 = sha256 bytes }) again.same.1)
            ∙ ap (λ (k : ℕ). Changed entry.path entry.hash entry.size (record { 0 = sha256 bytes }) k) again.same.2,
      );
    }
