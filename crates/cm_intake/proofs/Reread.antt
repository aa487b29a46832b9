-- A file is read again, piece by piece.
use Rattle.std.proofs.Common.{◌≡◌, ℕ, ◌+◌, ◌-◌, ◌<◌, ◌≤◌, ◌==◌, Bool, true, false, List, [], ◌++◌, length, take, refl, sym, ◌∙◌, ap, subst, arith}
use Rattle.std.specs.Prelude.{not, is_some, nat_lt, min, if◌then◌else◌, Option, None, Some}
use Rattle.std.specs.Option.{ForSome}
use Rattle.std.proofs.Math.Seq.{take-add}
use Rattle.std.proofs.lemmas.Bool.{eq-eqb, eqb-true, le-ltb, ltb-true, ltb-false}
use Rattle.std.proofs.lemmas.List.{append-nil, length-append, length-take-le, take_all}
use Rattle.std.proofs.lemmas.Option.{none-some, same_Some}
use Rattle.cm_base.specs.declared.hash.Hash.{Hash}
use Rattle.cm_disk.specs.Disk.{File as Bytes, Files}
use Rattle.cm_pkglib.specs.declared.counts.Seal.{Seal}
use Rattle.cm_filelib.specs.declared.writing.Writing.{Writing}
use Rattle.cm_filelib.specs.Writings.{hash_of, size_of, next_of, WasPut}
use Rattle.cm_state.specs.declared.fault.LibFault.{LibFault}
use Rattle.cm_state.specs.declared.fault.LibFault.TheVariants.{WrongOffset, TooLong}
use Rattle.cm_state.specs.State.{State, held_by_job}
use Rattle.cm_contents.specs.Seals.{first_fault}
use Rattle.cm_tree.specs.Folders.{Shown, Turns, GivesPart}
use Rattle.cm_library.specs.Filing.{GoesOn, StartsFile}
use Rattle.cm_library.specs.Kept.{Seen}
use Rattle.cm_library.specs.Started.{started_by, misplaced_in, put_fault, file_fault}
use Rattle.cm_intake.specs.Filling.{HasPut, KeepsState, StaysRead, HasRoom, PutsMore, PutsAgain, SealsOr, SealsSame, ReadsAgain}
use Rattle.cm_intake.proofs.Going.{keeps_then}
use Rattle.cm_intake.proofs.Held.{started_with, file_may}

-- what the folder shows
pub turns_read : (n : ℕ) (ended : Bool) (old new : Shown) → Turns n ended old new → StaysRead old new
turns_read n ended old new turns = record {
  paths = turns.paths;
  now = λ k was. by k was (k == n) refl;
  later = turns.later;
}
  where
    either : (b : Bool) (k : ℕ) → old.now k ≡ old.later k → (if b then old.later k else old.now k) ≡ old.later k
    either true k was = refl
    either false k was = was

    by : (k : ℕ) → old.now k ≡ old.later k → (b : Bool) → (k == n) ≡ b → new.now k ≡ old.later k
    by k was true is =
        let same : n ≡ k = sym (eqb-true k n is) in
        subst (λ (m : ℕ). new.now m ≡ (if ended then old.later m else old.now m)) same turns.now ∙ either ended k was
    by k was false is = turns.others k (λ same. other k same is) ∙ was
      where
        other : (k : ℕ) → k ≡ n → (k == n) ≡ false → ⊥
        other k same is = let e : true ≡ false = sym (eq-eqb k n same) ∙ is in cc

pub read_then : (a b c : Shown) → StaysRead a b → StaysRead b c → StaysRead a c
read_then a b c first second = record {
  paths = second.paths ∙ first.paths;
  now = λ k was. second.now k (first.now k was ∙ sym (first.later k)) ∙ first.later k;
  later = λ k. second.later k ∙ first.later k;
}

pub read_itself : (a : Shown) → StaysRead a a
read_itself a = record { paths = refl; now = λ k was. was; later = λ k. refl }

-- the job's file has room
pub room_in : (job : ℕ) (hash : Hash) (size : ℕ) (got : List ℕ) (started : List (ℕ × Writing)) (at room : ℕ) → HasPut job hash size got started → length got ≡ at → at + room ≤ size → HasRoom job at room started
room_in job hash size got started at room put long fits = record {
  writing = put.writing;
  is = put.is;
  next = put.put.next ∙ long;
  fits = let same = put.size_is in omega (arith, same, fits);
}

pub may_put : (s : State) (started : List (ℕ × Writing)) (job at room count : ℕ) → is_some (held_by_job job s.jobs) ≡ true → HasRoom job at room started → count ≤ room → put_fault s started job at count ≡ None
may_put s started job at room count unfinished has few =
    let size = size_of has.writing in
    let next = next_of has.writing in
    let fits = has.fits in
    let within : at + count ≤ size = omega (arith, fits, few) in
    ap (λ (o : Option LibFault). first_fault o (misplaced_in (started_by job started) at count)) (file_may s started job has.writing unfinished has.is)
    ∙ ap (λ (o : Option Writing). misplaced_in o at count) has.is
    ∙ ap (λ (b : Bool). if not b then Some (WrongOffset next) else (if nat_lt size (at + count) then Some (TooLong size) else None)) (eq-eqb at next (sym has.next))
    ∙ ap (λ (b : Bool). if b then Some (TooLong size) else None) (le-ltb size (at + count) within)

-- the room that is left of a size
pub fits_left : (at size left : ℕ) (piece : List ℕ) → at < size → left ≡ min (size - at) 65536 → length piece ≡ 65536 → at + length (take left piece) ≤ size
fits_left at size left piece lt is room =
    let few : left ≤ length piece = omega (arith, is, room) in
    let long = length-take-le left piece few in
    omega (arith, long, is, lt)

pub some_left : (at size left : ℕ) (piece : List ℕ) → at < size → left ≡ min (size - at) 65536 → length piece ≡ 65536 → 0 < length (take left piece)
some_left at size left piece lt is room =
    let few : left ≤ length piece = omega (arith, is, room) in
    let long = length-take-le left piece few in
    omega (arith, long, is, lt)

-- bytes are put behind the others
pub puts_more : (job : ℕ) (piece : List ℕ) (old new : List (ℕ × Writing)) → ForSome (started_by job old) (λ was. GoesOn job was piece old new) → PutsMore job piece old new
puts_more job piece old new goes hash size before put =
    let g = goes put.writing put.is in
    record {
      writing = g.writing;
      is = ap (λ (s : List (ℕ × Writing)). started_by job s) g.started ∙ started_with job g.writing old;
      hash_is = g.hash_is ∙ put.hash_is;
      size_is = g.size_is ∙ put.size_is;
      put = g.put before put.put;
    }

pub puts_none : (job : ℕ) (started : List (ℕ × Writing)) → PutsMore job [] started started
puts_none job started hash size before put = subst (λ (b : List ℕ). HasPut job hash size b started) (sym (append-nil before)) put

-- a file that was started is empty
pub starts_empty : (job : ℕ) (hash : Hash) (size : ℕ) (wanted : Option ℕ) (old new : List (ℕ × Writing)) → wanted ≡ Some size → StartsFile job hash wanted old new → HasPut job hash size [] new
starts_empty job hash size wanted old new is starts = record {
  writing = starts.writing;
  is = ap (λ (s : List (ℕ × Writing)). started_by job s) starts.started ∙ started_with job starts.writing old;
  hash_is = starts.hash_is;
  size_is = same_Some (size_of starts.writing) size (sym starts.size_is ∙ is);
  put = starts.none_yet;
}

module _ {D : Type 0} (reads : D → Option Files) (may_leave : D → List ℕ → Bytes → Type 0) (moment : D → ℕ) (left_since : D → ℕ → Files → Type 0) where
  -- So many bytes of a file were read again, and put.
  pub record ReadSoFar (told : Option (List ℕ)) (job size : ℕ) (first now : Seen D) (at : ℕ) : Type 0 where
    pub within : at ≤ size
    pub keeps : KeepsState reads may_leave moment left_since job first now
    pub seals : now.seals ≡ first.seals
    pub got : List ℕ
    pub long : length got ≡ at
    pub put : (hash : Hash) → HasPut job hash size [] first.started → HasPut job hash size got now.started
    pub part : ForSome told (λ all. (at ≤ length all) × (got ≡ take at all))

  pub none_read : (told : Option (List ℕ)) (job size : ℕ) (first : Seen D) → KeepsState reads may_leave moment left_since job first first → ReadSoFar told job size first first 0
  none_read told job size first keeps = record {
    within = omega arith;
    keeps = keeps;
    seals = refl;
    got = [];
    long = refl;
    put = λ hash empty. empty;
    part = λ all is. (omega arith, refl);
  }

  pub read_more : (told shows : Option (List ℕ)) (job size : ℕ) (first now new : Seen D) (at count : ℕ) (room : List ℕ) → ReadSoFar told job size first now at → shows ≡ told → count ≤ length room → at + length room ≤ size → 0 < count
      → KeepsState reads may_leave moment left_since job now new → new.seals ≡ now.seals → ForSome shows (λ all. GivesPart all at room count) → PutsMore job (take count room) now.started new.started → ReadSoFar told job size first new (at + count)
  read_more told shows job size first now new at count room s same few fits some keeps seals gives more = record {
    within = omega (arith, few, fits);
    keeps = keeps_then reads may_leave moment left_since job first now new s.keeps keeps;
    seals = seals ∙ s.seals;
    got = s.got ++ take count room;
    long = length-append s.got (take count room) ∙ ap (λ (n : ℕ). n + length (take count room)) s.long ∙ ap (λ (n : ℕ). at + n) (length-take-le count room few);
    put = λ hash empty. more hash size s.got (s.put hash empty);
    part = λ all is.
        let gives = gives all (same ∙ is) in
        let part = s.part all is in (
          gives.within some,
          ap (λ (b : List ℕ). b ++ take count room) part.1 ∙ ap (λ (b : List ℕ). take at all ++ b) gives.part ∙ sym (take-add at count all),
        );
  }

  -- a piece that has nothing
  pub read_empty : (told : Option (List ℕ)) (job size : ℕ) (first now new : Seen D) (at count : ℕ) (room : List ℕ) → ReadSoFar told job size first now at → count ≡ 0 → KeepsState reads may_leave moment left_since job now new → new.seals ≡ now.seals
      → PutsMore job (take count room) now.started new.started → ReadSoFar told job size first new at
  read_empty told job size first now new at count room s none keeps seals more = record {
    within = s.within;
    keeps = keeps_then reads may_leave moment left_since job first now new s.keeps keeps;
    seals = seals ∙ s.seals;
    got = s.got;
    long = s.long;
    put = λ hash empty. subst (λ (b : List ℕ). HasPut job hash size b new.started) (ap (λ (n : ℕ). s.got ++ take n room) none ∙ append-nil s.got) (more hash size s.got (s.put hash empty));
    part = s.part;
  }

  -- it was read to its end
  module _ (told : Option (List ℕ)) (job size : ℕ) (first now : Seen D) (at : ℕ) (s : ReadSoFar told job size first now at) where
    -- where the folder tells nothing, the file has the bytes that were read
    again_untold : told ≡ None → PutsAgain told job size first.started now.started
    again_untold none =
        let long = s.long in
        let within = s.within in
        record {
          bytes = s.got;
          told_so = λ all is. absurd (none-some all (sym none ∙ is));
          put = λ hash empty. subst (λ (b : List ℕ). HasPut job hash size b now.started) (sym (take_all size s.got (omega (arith, long, within)))) (s.put hash empty);
        }

    again_told : (all : List ℕ) → told ≡ Some all → take size all ≡ s.got → PutsAgain told job size first.started now.started
    again_told all is same = record {
      bytes = all;
      told_so = λ other so. same_Some all other (sym is ∙ so);
      put = λ hash empty. subst (λ (b : List ℕ). HasPut job hash size b now.started) (sym same) (s.put hash empty);
    }

    pub read_ended : ForSome told (λ all. length all ≤ at) → PutsAgain told job size first.started now.started
    read_ended ended = by told refl
      where
        by : (o : Option (List ℕ)) → told ≡ o → PutsAgain told job size first.started now.started
        by None none = again_untold none
        by (Some all) is =
            let part = s.part all is in
            let within = s.within in
            let end = ended all is in
            again_told all is (take_all size all (omega (arith, end, within)) ∙ sym (take_all at all end) ∙ sym part.1)

    pub read_full : size ≤ at → PutsAgain told job size first.started now.started
    read_full full = by told refl
      where
        by : (o : Option (List ℕ)) → told ≡ o → PutsAgain told job size first.started now.started
        by None none = again_untold none
        by (Some all) is =
            let within = s.within in
            let same : size ≡ at = omega (arith, full, within) in
            again_told all is (ap (λ (n : ℕ). take n all) same ∙ sym (s.part all is).1)

-- a reading that gives nothing into some room is behind the end
pub is_behind : (told shows : Option (List ℕ)) (at : ℕ) (room : List ℕ) (count : ℕ) → shows ≡ told → count ≡ 0 → 0 < length room → ForSome shows (λ all. GivesPart all at room count) → ForSome told (λ all. length all ≤ at)
is_behind told shows at room count same none some gives all is =
    let given : GivesPart all at room count = gives all (same ∙ is) in
    by (nat_lt at (length all)) refl (λ lt. let positive = given.some some lt in omega (arith, positive, none))
  where
    by : (b : Bool) → nat_lt at (length all) ≡ b → (at < length all → ⊥) → length all ≤ at
    by true is none_there = absurd (none_there (ltb-true at (length all) is))
    by false is none_there = ltb-false at (length all) is

-- what is sealed has the bytes that were put, and what is not has others
pub seals_same : (was : Writing) (hash : Hash) (size : ℕ) (bytes : List ℕ) (old new : Hash → Option Seal) (got : Option (Hash × ℕ)) → hash_of was ≡ hash → size_of was ≡ size → WasPut was bytes → SealsOr was old new got → SealsSame hash size bytes old new got
seals_same was hash size bytes old new got named sized put seals =
    subst (λ (h : Hash). SealsSame h size bytes old new got) named (subst (λ (n : ℕ). SealsSame (hash_of was) n bytes old new got) sized (own got seals))
  where
    own : (found : Option (Hash × ℕ)) → SealsOr was old new found → SealsSame (hash_of was) (size_of was) bytes old new found
    own None right = (right.0 bytes put, right.1)
    own (Some other) wrong = wrong bytes put

-- the bytes of a file that was read again, and what came of them
pub reads_again : (told : Option (List ℕ)) (job : ℕ) (hash : Hash) (size : ℕ) (empty filled : List (ℕ × Writing)) (old mid new : Hash → Option Seal) (got : Option (Hash × ℕ)) → PutsAgain told job size empty filled → HasPut job hash size [] empty → mid ≡ old
    → ForSome (started_by job filled) (λ was. SealsOr was mid new got) → ReadsAgain told hash size old new got
reads_again told job hash size empty filled old mid new got again put same seals =
    let has = again.put hash put in
    record {
      bytes = again.bytes;
      told_so = again.told_so;
      same = subst (λ (f : Hash → Option Seal). SealsSame hash size (take size again.bytes) f new got) same (seals_same has.writing hash size (take size again.bytes) mid new got has.hash_is has.size_is has.put (seals has.writing has.is));
    }

pub may_seal : (told : Option (List ℕ)) (job : ℕ) (hash : Hash) (size : ℕ) (s : State) (empty filled : List (ℕ × Writing)) → PutsAgain told job size empty filled → HasPut job hash size [] empty → is_some (held_by_job job s.jobs) ≡ true → file_fault s filled job ≡ None
may_seal told job hash size s empty filled again put unfinished =
    let has = again.put hash put in
    file_may s filled job has.writing unfinished has.is
