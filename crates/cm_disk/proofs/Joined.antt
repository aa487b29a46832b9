-- What is kept of each place agrees with the record of calls.
use Rattle.std.proofs.Common.{rules, ◌≡◌, ⊎_elim, ℕ, ◌+◌, ◌≤◌, ◌^◌, List, ◌++◌, length, take, drop, refl, sym, ◌∙◌, ap, subst, arith, length-append, length-take, length-drop}
use Rattle.std.specs.Prelude.{Bool, true, false, if◌then◌else◌, Option, Some, None, IsSome, IsTrue, Result, Ok, Err, OnOk, OnErr}
use Rattle.std.proofs.lemmas.Option.{none-some}
use Rattle.std.specs.Str.{bytes_eq}
use Rattle.std.specs.Ordering.{nat_cmp, is_eq}
use Rattle.std.specs.Cmp.Lexicographic.{slice_cmp}
use Rattle.std.specs.declared.cmp.Ordering.{Ordering}
use Rattle.std.specs.declared.cmp.Ordering.TheVariants.{Less, Equal, Greater}
use Rattle.std.specs.BTreeMap.{BTreeMap, get, is_at, Updates}
use Rattle.std.proofs.lemmas.Slice.Eq.{bytes_eq-Decides}
use Rattle.std.proofs.lemmas.Bool.{cases_Bool, false_from_ne_true}
use Rattle.std.proofs.lemmas.Map.Lookups.{exact_bytes}
use Rattle.std.proofs.lemmas.Cmp.{tied_itself}
use Rattle.std.specs.Cmp.{IsTotalOrder}
use Rattle.std.specs.Cmp.Rules.{comparing}
use Rattle.cm_disk.specs.declared.calls.Work.{Work}
use Rattle.cm_disk.specs.declared.calls.Work.TheVariants.{Write, Cut, Remove, Sync}
use Rattle.cm_disk.specs.declared.calls.Slot.{Slot}
use Rattle.cm_disk.specs.declared.calls.Call.{Call}
use Rattle.cm_disk.specs.Disk.{File, bytes_of, overwritten}
use Rattle.cm_disk.specs.Images.{Stand}
use Rattle.cm_disk.specs.Stands.{IsSmall, cut_stand, removed_stand, worked, stand_after}
use Rattle.cm_disk.specs.Slots.{stand_of, stand_of_option, stand_in, CanDo}
use Rattle.cm_disk.proofs.Steps.{more, stand_here, stand_there}

pub is_equal : (o : Ordering) → is_eq o ≡ true → o ≡ Equal
is_equal Less h = absurd (cc)
is_equal Equal h = refl
is_equal Greater h = absurd (cc)

-- keys tie exactly where they are one
pub total_key : IsTotalOrder (slice_cmp nat_cmp)
total_key = search (comparing, rules)

pub same_key : (a b : List ℕ) → is_eq (slice_cmp nat_cmp a b) ≡ bytes_eq a b
same_key a b = ⊎_elim yes apart (cases_Bool (bytes_eq a b))
  where
    own : is_eq (slice_cmp nat_cmp a a) ≡ true
    own = ap is_eq (tied_itself total_key a)

    yes : bytes_eq a b ≡ true → is_eq (slice_cmp nat_cmp a b) ≡ bytes_eq a b
    yes e = subst (λ (x : List ℕ). is_eq (slice_cmp nat_cmp a x) ≡ true) ((bytes_eq-Decides a b).0 e) own ∙ sym e

    apart : bytes_eq a b ≡ false → is_eq (slice_cmp nat_cmp a b) ≡ bytes_eq a b
    apart e = false_from_ne_true _ (λ t. clash (exact_bytes a b (is_equal _ t))) ∙ sym e
      where
        clash : a ≡ b → ⊥
        clash s = let t : bytes_eq a b ≡ true = (bytes_eq-Decides a b).1 s in absurd (cc)

pub stand_put : (old new : BTreeMap (List ℕ) Slot) (place : List ℕ) (slot : Slot) → ((q : List ℕ) → get (slice_cmp nat_cmp) new q ≡ (if is_at (slice_cmp nat_cmp place) q then Some slot else get (slice_cmp nat_cmp) old q))
    → (q : List ℕ) → stand_in new q ≡ (if bytes_eq place q then stand_of slot else stand_in old q)
stand_put old new place slot h q = ap stand_of_option (h q ∙ ap (λ (b : Bool). if b then Some slot else get (slice_cmp nat_cmp) old q) (same_key place q)) ∙ by (bytes_eq place q)
  where
    by : (b : Bool) → stand_of_option (if b then Some slot else get (slice_cmp nat_cmp) old q) ≡ (if b then stand_of slot else stand_in old q)
    by true = refl
    by false = refl

length_over : (old bytes : List ℕ) (offset : ℕ) → offset + length bytes ≤ 2 ^ 40 + 131072 → length old ≤ 2 ^ 40 + 131072 → length (overwritten old offset bytes) ≤ 2 ^ 40 + 131072
length_over old bytes offset can small =
    omega (arith, can, small, length-append (take offset old ++ bytes) (drop (offset + length bytes) old), length-append (take offset old) bytes, length-take offset old, length-drop (offset + length bytes) old)

-- a place after a call has no more bytes than a file may have
small_work : (work : Work) (done : Bool) (s : Stand) → CanDo work → IsSmall s → IsSmall (worked work done s)
small_work (Write offset bytes) true s can small = record { now = length_over (bytes_of s.now) bytes.items offset can small.now; durable = small.durable }
small_work (Write offset bytes) false s can small = record { now = small.now; durable = small.durable }
small_work (Cut size) done s can small = by s.now done refl
  where
    by : (now : File) (d : Bool) → s.now ≡ now → IsSmall (cut_stand size d s now)
    by None d same = small
    by (Some old) true same = record { now = omega (arith, small.now, length-take size old, ap (λ (f : File). length (bytes_of f)) same); durable = small.durable }
    by (Some old) false same = record { now = omega (arith, small.now, ap (λ (f : File). length (bytes_of f)) same); durable = small.durable }
small_work Remove done s can small = by s.now done refl
  where
    by : (now : File) (d : Bool) → s.now ≡ now → IsSmall (removed_stand d s now)
    by None d same = small
    by (Some old) true same = record { now = omega arith; durable = small.durable }
    by (Some old) false same = record { now = omega (arith, small.now, ap (λ (f : File). length (bytes_of f)) same); durable = small.durable }
small_work Sync true s can small = record { now = small.now; durable = small.now }
small_work Sync false s can small = small

module _ (slots new : BTreeMap (List ℕ) Slot) (calls : List Call) (place : List ℕ) (work : Work) (done : Bool) (can : CanDo work)
    (was : (q : List ℕ) → stand_in slots q ≡ stand_after calls q) (little : (q : List ℕ) → IsSmall (stand_after calls q)) where
  joined_same : ((q : List ℕ) → stand_in new q ≡ (if bytes_eq place q then worked work done (stand_in slots place) else stand_in slots q)) → (q : List ℕ) → stand_in new q ≡ stand_after (more calls place work done) q
  joined_same here q = ⊎_elim yes apart (cases_Bool (bytes_eq place q))
    where
      at_place : worked work done (stand_in slots place) ≡ stand_after (more calls place work done) place
      at_place = ap (worked work done) (was place) ∙ sym (stand_here calls place work done)

      yes : bytes_eq place q ≡ true → stand_in new q ≡ stand_after (more calls place work done) q
      yes e = here q ∙ ap (λ (b : Bool). if b then worked work done (stand_in slots place) else stand_in slots q) e ∙ at_place ∙ ap (stand_after (more calls place work done)) ((bytes_eq-Decides place q).0 e)

      apart : bytes_eq place q ≡ false → stand_in new q ≡ stand_after (more calls place work done) q
      apart e = here q ∙ ap (λ (b : Bool). if b then worked work done (stand_in slots place) else stand_in slots q) e ∙ was q ∙ sym (stand_there calls place work done q other)
        where
          other : q ≡ place → ⊥
          other s = let t : bytes_eq place q ≡ true = (bytes_eq-Decides place q).1 (sym s) in absurd (cc)

  joined_small : (q : List ℕ) → IsSmall (stand_after (more calls place work done) q)
  joined_small q = ⊎_elim yes apart (cases_Bool (bytes_eq place q))
    where
      at_place : IsSmall (stand_after (more calls place work done) place)
      at_place = subst IsSmall (sym (stand_here calls place work done)) (small_work work done (stand_after calls place) can (little place))

      yes : bytes_eq place q ≡ true → IsSmall (stand_after (more calls place work done) q)
      yes e = subst (λ (r : List ℕ). IsSmall (stand_after (more calls place work done) r)) ((bytes_eq-Decides place q).0 e) at_place

      apart : bytes_eq place q ≡ false → IsSmall (stand_after (more calls place work done) q)
      apart e = subst IsSmall (sym (stand_there calls place work done q other)) (little q)
        where
          other : q ≡ place → ⊥
          other s = let t : bytes_eq place q ≡ true = (bytes_eq-Decides place q).1 (sym s) in absurd (cc)

  pub all_same : (r : Bool) (later : List Call) → later ≡ (if r then more calls place work done else calls) → (IsTrue r → (q : List ℕ) → stand_in new q ≡ (if bytes_eq place q then worked work done (stand_in slots place) else stand_in slots q))
      → (r ≡ false → (q : List ℕ) → stand_in new q ≡ stand_in slots q) → (q : List ℕ) → stand_in new q ≡ stand_after later q
  all_same true later l here same q = joined_same (here refl) q ∙ ap (λ (c : List Call). stand_after c q) (sym l)
  all_same false later l here same q = same refl q ∙ was q ∙ ap (λ (c : List Call). stand_after c q) (sym l)

  pub all_small : (r : Bool) (later : List Call) → later ≡ (if r then more calls place work done else calls) → (q : List ℕ) → IsSmall (stand_after later q)
  all_small true later l q = subst (λ (c : List Call). IsSmall (stand_after c q)) (sym l) (joined_small q)
  all_small false later l q = subst (λ (c : List Call). IsSmall (stand_after c q)) (sym l) (little q)

-- a place of which a slot is kept: keeping another finds memory
pub stand_back : {T E : Type 0} (old new : BTreeMap (List ℕ) Slot) (place : List ℕ) (slot : Slot) (r : Result T E) → IsSome (get (slice_cmp nat_cmp) old place)
    → OnOk r (Updates (slice_cmp nat_cmp) old new place (Some slot)) → OnErr r (get (slice_cmp nat_cmp) old place ≡ None)
    → (q : List ℕ) → stand_in new q ≡ (if bytes_eq place q then stand_of slot else stand_in old q)
stand_back old new place slot (Ok x) there ok err = stand_put old new place slot ok.0
stand_back old new place slot (Err e) there ok err = absurd (gone (get (slice_cmp nat_cmp) old place) there err)
  where
    gone : (o : Option Slot) → IsSome o → o ≡ None → ⊥
    gone None there none = absurd (cc)
    gone (Some s) there none = none-some s (sym none)

-- a slot is taken out, and another is put back
pub stand_twice : (old mid new : BTreeMap (List ℕ) Slot) (place : List ℕ) (away slot : Slot) → ((q : List ℕ) → stand_in mid q ≡ (if bytes_eq place q then stand_of away else stand_in old q)) → ((q : List ℕ) → stand_in new q ≡ (if bytes_eq place q then stand_of slot else stand_in mid q))
    → (q : List ℕ) → stand_in new q ≡ (if bytes_eq place q then stand_of slot else stand_in old q)
stand_twice old mid new place away slot first second q = second q ∙ by (bytes_eq place q) (first q)
  where
    by : (b : Bool) → stand_in mid q ≡ (if b then stand_of away else stand_in old q) → (if b then stand_of slot else stand_in mid q) ≡ (if b then stand_of slot else stand_in old q)
    by true h = refl
    by false h = h

-- the slot that was taken out is put back
pub stand_same : (old new : BTreeMap (List ℕ) Slot) (place : List ℕ) (slot : Slot) → stand_of slot ≡ stand_in old place → ((q : List ℕ) → stand_in new q ≡ (if bytes_eq place q then stand_of slot else stand_in old q)) → (q : List ℕ) → stand_in new q ≡ stand_in old q
stand_same old new place slot same h q = h q ∙ ⊎_elim yes apart (cases_Bool (bytes_eq place q))
  where
    yes : bytes_eq place q ≡ true → (if bytes_eq place q then stand_of slot else stand_in old q) ≡ stand_in old q
    yes e = ap (λ (b : Bool). if b then stand_of slot else stand_in old q) e ∙ same ∙ ap (stand_in old) ((bytes_eq-Decides place q).0 e)

    apart : bytes_eq place q ≡ false → (if bytes_eq place q then stand_of slot else stand_in old q) ≡ stand_in old q
    apart e = ap (λ (b : Bool). if b then stand_of slot else stand_in old q) e
