-- The records are found among members, whose names are compared one by one.
use Rattle.std.proofs.Common.{◌≡◌, ℕ, ◌+◌, ◌<◌, ◌≤◌, zero, suc, false, true, Bool, List, [], ◌∷◌, length, slice_index_or, slice_set, Option, None, Some, inl, inr, refl, sym, ◌∙◌, ap, subst, arith}
use Rattle.std.specs.Prelude.{cond}
use Rattle.std.specs.Option.{option_and_then}
use Rattle.std.specs.Str.{bytes_eq}
use Rattle.std.proofs.lemmas.Slice.Eq.{bytes_eq-Decides}
use Rattle.cm_library.specs.Kept.{Seen}
use Rattle.cm_records.specs.Seen.{Seen as SeenRecords}
use Rattle.cm_site.specs.Contents.{records_bay}
use Rattle.cm_site.specs.Found.{IsRecordsAt}
use Rattle.cm_site.specs.Opened.{content_of, end_of, part_of, world_of}
use Rattle.cm_site.specs.Worlds.{Part, Kept, kept_in, part_at}
use Rattle.cm_site.specs.declared.member.Hold.{Hold}
use Rattle.cm_site.specs.declared.member.Hold.TheVariants as hold
use Rattle.cm_site.specs.declared.member.Member.{Member}
use Rattle.cm_site.proofs.OneRecords.{IsPutIn, member_of}
use Rattle.cm_site.proofs.Others.{AreOther}

pub found_at : {D : Type 0} (bay : List ℕ) (n : ℕ) (members : List (Member D)) (d e : Member D) (records : SeenRecords D) → AreOther bay n members → n < length members → (slice_index_or members n d).name ≡ bay
    → (slice_index_or members n e).hold ≡ hold.Records records → IsRecordsAt bay n members
found_at bay n [] d e records others lt name held = absurd (omega arith)
found_at bay zero (m ∷ ms) d e records others lt name held = (name, (records, held))
found_at bay (suc n) (m ∷ ms) d e records others lt name held = (others.0, found_at bay n ms d e records others.1 (omega arith) name held)

-- the member of the name is a library
pub none_library : {D : Type 0} (bay : List ℕ) (n : ℕ) (members : List (Member D)) (d e : Member D) (library : Seen D) → AreOther bay n members → n < length members → (slice_index_or members n d).name ≡ bay
    → (slice_index_or members n e).hold ≡ hold.Library library → option_and_then kept_in (part_at bay (world_of members)) ≡ None
none_library bay n [] d e library others lt name held = absurd (omega arith)
none_library {D = D} bay zero (m ∷ ms) d e library others lt name held =
    ap (λ (b : Bool). option_and_then kept_in (cond b (Some (part_of m)) (part_at bay (world_of ms)))) ((bytes_eq-Decides m.name bay).1 name)
    ∙ ap (λ (h : Hold D). let made : Part = record { name = m.name; content = content_of h; gate = end_of h } in kept_in made) held
none_library bay (suc n) (m ∷ ms) d e library others lt name held =
    ap (λ (b : Bool). option_and_then kept_in (cond b (Some (part_of m)) (part_at bay (world_of ms)))) others.0
    ∙ none_library bay n ms d e library others.1 (omega arith) name held

-- no member has the name
pub none_left : {D : Type 0} (bay : List ℕ) (n : ℕ) (members : List (Member D)) → length members ≤ n → AreOther bay n members → option_and_then kept_in (part_at bay (world_of members)) ≡ None
none_left bay n [] le others = refl
none_left bay zero (m ∷ ms) le others = absurd (omega arith)
none_left bay (suc n) (m ∷ ms) le others =
    ap (λ (b : Bool). option_and_then kept_in (cond b (Some (part_of m)) (part_at bay (world_of ms)))) others.0
    ∙ none_left bay n ms (omega arith) others.1

-- the members differ in the records alone
pub put_at : {D : Type 0} (n : ℕ) (members : List (Member D)) (was now : SeenRecords D) (d e : Member D) → IsRecordsAt records_bay n members → (slice_index_or members n d).hold ≡ hold.Records was
    → IsPutIn was now members (slice_set members n (record { name = (slice_index_or members n e).name; hold = hold.Records now }))
put_at n [] was now d e there held = absurd there
put_at {D = D} zero (m ∷ ms) was now d e there held = inl (
  ap (λ (h : Hold D). let made : Member D = record { name = m.name; hold = h } in made) held ∙ ap (λ (name : List ℕ). let made : Member D = record { name = name; hold = hold.Records was } in made) there.0,
  ap (λ (name : List ℕ). let made : Member D = record { name = name; hold = hold.Records now } in made) there.0,
  refl,
)
put_at (suc n) (m ∷ ms) was now d e there held = inr (refl, there.0, put_at n ms was now d e there.1 held)
