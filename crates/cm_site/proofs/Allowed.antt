-- When records that have topologies alone refuse a topology.
use Rattle.std.proofs.Common.{◌≡◌, ◌≢◌, ℕ, ◌+◌, ◌≤◌, Bool, true, false, List, [], ◌∷◌, Option, None, Some, Result, Ok, refl, sym, ◌∙◌, ap, subst, arith}
use Rattle.std.specs.Prelude.{◌-◌, ◌^◌, ◌==◌, ◌||◌, nat_lt, length, max, option_map}
use Rattle.std.proofs.lemmas.Bool.Decides.{nat_tests}
use Rattle.sha2.specs.Sha256.{sha256}
use Rattle.cm_base.specs.declared.hash.Hash.{Hash}
use Rattle.cm_notes.specs.declared.note.Note.TheVariants as note
use Rattle.cm_records.specs.Seen.{next_topology}
use Rattle.cm_register.specs.AfterNote.{after_note, after_topology}
use Rattle.cm_register.specs.Kept.{under_alone}
use Rattle.cm_register.specs.Opens.{noted}
use Rattle.cm_register.specs.Records.{Records}
use Rattle.cm_register.proofs.Noted.{noted_topology}
use Rattle.cm_register.proofs.Taken.{topology_taken}
use Rattle.cm_topo.specs.declared.fault.TopoFault.{TopoFault}
use Rattle.cm_topo.specs.declared.topology.Topology.{Topology}
use Rattle.cm_site.specs.Machine.{topology_reply}
use Rattle.cm_site.specs.Opening.{without_bay}
use Rattle.cm_site.specs.Refusals.{when, first_of, text_refusal, points_in, in_use, records_under, too_many_rows, has_no_room, topology_refusals}
use Rattle.cm_site.specs.Worlds.{World, Kept}
use Rattle.cm_site.specs.declared.reply.Refusal.{Refusal}
use Rattle.cm_site.specs.declared.reply.Refusal.TheVariants.{NoBay, PointInUse, InputTooLong, Spent}
use Rattle.cm_site.specs.declared.reply.Reply.{Reply}
use Rattle.cm_site.specs.declared.reply.Reply.TheVariants as reply

-- where no cause holds the first one does not, and none of the others
head_none : (o : Option Refusal) (rest : List (Option Refusal)) → first_of (o ∷ rest) ≡ None → o ≡ None
head_none None rest none = refl
head_none (Some refusal) rest none = none

rest_none : (o : Option Refusal) (rest : List (Option Refusal)) → first_of (o ∷ rest) ≡ None → first_of rest ≡ None
rest_none None rest none = none
rest_none (Some refusal) rest none = absurd (cc)

not_when : (b : Bool) (refusal : Refusal) → when b refusal ≡ None → b ≡ false
not_when true refusal none = absurd (cc)
not_when false refusal none = refl

either_false : (a b : Bool) → (a || b) ≡ false → (a ≡ false) × (b ≡ false)
either_false true b is = absurd (cc)
either_false false b is = (refl, is)

not_above : (n most : ℕ) → nat_lt most n ≡ false → n ≤ most
not_above n most is = grind (arith, nat_tests)

is_above : (n most : ℕ) → n ≤ most → nat_lt most n ≡ false
is_above n most le = grind (arith, nat_tests)

not_number : (n m : ℕ) → (n == m) ≡ false → n ≢ m
not_number n m is = λ same. grind (arith, nat_tests)

-- the text is not too long, the log has room, and there is a number more
module _ (size : ℕ) (said : Result Topology TopoFault) (kept : Kept) (world : World) (none : topology_refusals size said kept world ≡ None) where
  pub allowed_size : size ≤ 4194304
  allowed_size = not_above size 4194304 (not_when (nat_lt 4194304 size) InputTooLong
      (head_none (when (nat_lt 4194304 size) InputTooLong)
      (text_refusal said ∷ option_map NoBay (without_bay (points_in said) world) ∷ option_map PointInUse (in_use (points_in said) kept.records) ∷ too_many_rows (records_under said kept.records) ∷ when (has_no_room kept || kept.records.number == 2 ^ 32 - 1) Spent ∷ []) none))

  last : (has_no_room kept || kept.records.number == 2 ^ 32 - 1) ≡ false
  last =
      let e : Option Refusal = when (has_no_room kept || kept.records.number == 2 ^ 32 - 1) Spent in
      let d : Option Refusal = too_many_rows (records_under said kept.records) in
      let c : Option Refusal = option_map PointInUse (in_use (points_in said) kept.records) in
      let b : Option Refusal = option_map NoBay (without_bay (points_in said) world) in
      let a : Option Refusal = text_refusal said in
      not_when (has_no_room kept || kept.records.number == 2 ^ 32 - 1) Spent
      (head_none e [] (rest_none d (e ∷ []) (rest_none c (d ∷ e ∷ []) (rest_none b (c ∷ d ∷ e ∷ []) (rest_none a (b ∷ c ∷ d ∷ e ∷ [])
      (rest_none (when (nat_lt 4194304 size) InputTooLong) (a ∷ b ∷ c ∷ d ∷ e ∷ []) none))))))

  pub allowed_room : kept.gate ≤ 2 ^ 40 - 134217728
  allowed_room = not_above kept.gate (2 ^ 40 - 134217728) (either_false (has_no_room kept) (kept.records.number == 2 ^ 32 - 1) last).0

  pub allowed_number : kept.records.number ≢ 2 ^ 32 - 1
  allowed_number = not_number kept.records.number (2 ^ 32 - 1) (either_false (has_no_room kept) (kept.records.number == 2 ^ 32 - 1) last).1

-- the records stay alone with their topology
pub alone_after : (number minute : ℕ) (topology : Topology) (old : Option Topology) (before : ℕ) → after_topology number minute topology (under_alone old before) ≡ under_alone (Some topology) (max before number)
alone_after number minute topology old before =
    let hash : Hash = record { 0 = [] } in
    sym (noted_topology number 0 hash minute topology (under_alone old before)) ∙ sym (topology_taken number 0 hash minute topology old before)

-- no point is in use, and there are no rows
fresh_rows : (topology : Topology) (records : Records) (old : Option Topology) (before : ℕ) → records ≡ under_alone old before → too_many_rows (records_under (Ok topology) records) ≡ None
fresh_rows topology records old before is =
    ap (λ (r : Records). too_many_rows (records_under (Ok topology) r)) is ∙ ap too_many_rows (alone_after (before + 1) 0 topology old before)

fresh_points : (topology : Topology) (records : Records) (old : Option Topology) (before : ℕ) → records ≡ under_alone old before → option_map PointInUse (in_use topology.points records) ≡ None
fresh_points topology records old before is = ap (λ (r : Records). option_map PointInUse (in_use topology.points r)) is

-- so only a point without a bay, or a log or a number that is used up, refuses a topology
pub refusals_are : (size : ℕ) → size ≤ 4194304 → (topology : Topology) (kept : Kept) (old : Option Topology) (before : ℕ) → kept.records ≡ under_alone old before → (world : World)
    → first_of (option_map NoBay (without_bay topology.points world) ∷ when (has_no_room kept || kept.records.number == 2 ^ 32 - 1) Spent ∷ []) ≡ topology_refusals size (Ok topology) kept world
refusals_are size le topology kept old before is world =
    let bay : Option Refusal = option_map NoBay (without_bay topology.points world) in
    let spent : Option Refusal = when (has_no_room kept || kept.records.number == 2 ^ 32 - 1) Spent in
    let used : Option Refusal = option_map PointInUse (in_use topology.points kept.records) in
    let rows : Option Refusal = too_many_rows (records_under (Ok topology) kept.records) in
    sym (ap (λ (b : Bool). first_of (when b InputTooLong ∷ None ∷ bay ∷ used ∷ rows ∷ spent ∷ [])) (is_above size 4194304 le)
    ∙ (ap (λ (o : Option Refusal). first_of (bay ∷ o ∷ rows ∷ spent ∷ [])) (fresh_points topology kept.records old before is)
    ∙ (ap (λ (o : Option Refusal). first_of (bay ∷ None ∷ o ∷ spent ∷ [])) (fresh_rows topology kept.records old before is)
    ∙ none_in bay spent)))
  where
    none_in : (o last : Option Refusal) → first_of (o ∷ None ∷ None ∷ last ∷ []) ≡ first_of (o ∷ last ∷ [])
    none_in None last = refl
    none_in (Some refusal) last = refl

-- by what was found of these two
pub refused_by : (size : ℕ) → size ≤ 4194304 → (topology : Topology) (kept : Kept) (old : Option Topology) (before : ℕ) → kept.records ≡ under_alone old before → (world : World)
    (point : Option (List ℕ)) (spent : Bool) → point ≡ without_bay topology.points world → spent ≡ (has_no_room kept || kept.records.number == 2 ^ 32 - 1)
    → first_of (option_map NoBay point ∷ when spent Spent ∷ []) ≡ topology_refusals size (Ok topology) kept world
refused_by size le topology kept old before is world point spent point_is spent_is =
    ap (λ (o : Option (List ℕ)). first_of (option_map NoBay o ∷ when spent Spent ∷ [])) point_is
    ∙ (ap (λ (b : Bool). first_of (option_map NoBay (without_bay topology.points world) ∷ when b Spent ∷ [])) spent_is
    ∙ refusals_are size le topology kept old before is world)

-- no point joins a group, since nothing was sent to one
pub none_joined : (text : List ℕ) (topology : Topology) (minute : ℕ) (records : Records) (old : Option Topology) (before : ℕ) → records ≡ under_alone old before
    → reply.Topology topology.boundary_count topology.group_count (length topology.points) (length topology.peers) 0 ≡ topology_reply topology records (noted (next_topology text topology minute records) records)
none_joined text topology minute records old before is =
    let hash : Hash = record { 0 = sha256 text } in
    let then : (noted (next_topology text topology minute records) records).next ≡ 1 =
    ap (λ (r : Records). (noted (next_topology text topology minute r) r).next) is ∙ ap (λ (r : Records). r.next) (sym (topology_taken (before + 1) (length text) hash minute topology old before)) in
    let first : records.next ≡ 1 = ap (λ (r : Records). r.next) is in
    ap (λ (n : ℕ). reply.Topology topology.boundary_count topology.group_count (length topology.points) (length topology.peers) n) (omega (arith, then, first))
