-- What the calls of a settled library tell of the file of an entry that is there.
use Rattle.std.proofs.Common.{◌≡◌, inl, inr, ℕ, ◌<◌, Bool, true, false, List, length, refl, sym, ◌∙◌, subst, arith}
use Rattle.std.specs.Prelude.{is_some, if◌then◌else◌, nat_le, option_map, Option, None, Some, Result, Ok, Err}
use Rattle.std.proofs.lemmas.Bool.{leb-true}
use Rattle.std.proofs.lemmas.Option.{none-some, same_Some}
use Rattle.cm_base.specs.declared.hash.Hash.{Hash}
use Rattle.cm_disk.specs.Disk.{File, Files, Reads}
use Rattle.cm_filelib.specs.declared.writing.Writing.{Writing}
use Rattle.cm_filelib.specs.Places.{file_place}
use Rattle.cm_state.specs.State.{Held}
use Rattle.cm_state.specs.declared.fault.LibFault.{LibFault}
use Rattle.cm_state.specs.declared.fault.LibFault.TheVariants.{NoVersion, NoEntry, Gone, Disk}
use Rattle.cm_contents.specs.Seals.{manifest_or_none, version_manifest, first_fault}
use Rattle.cm_tree.specs.declared.entry.Entry.{Entry}
use Rattle.cm_library.specs.Calls.{WorksOrStays}
use Rattle.cm_library.specs.Kept.{Seen}
use Rattle.cm_library.specs.Reading.{no_entry, entry_fault, SizeOf, ReadOf, TellsEntry}
use Rattle.cm_check.specs.Looks.{Looks, OfFile}

-- why an entry of what was found is not looked at
abbrev fault_in : Option Held → ℕ → Option LibFault
fault_in found entry = first_fault (if is_some found then None else Some NoVersion) (no_entry entry (manifest_or_none found))

-- of which number there is an entry, if a version is there
pub entry_there : (found : Option Held) (entry : ℕ) → (let none : Option LibFault = None in (if is_some found then none else Some NoVersion) ≡ none) → entry < length (manifest_or_none found) → fault_in found entry ≡ None
entry_there None entry is lt = absurd (none-some NoVersion (sym is))
entry_there (Some held) entry is lt = by (nat_le (length held.manifest) entry) refl
  where
    by : (b : Bool) → nat_le (length held.manifest) entry ≡ b → (if b then Some (NoEntry entry) else None) ≡ None
    by true is = let past = leb-true (length held.manifest) entry is in absurd (omega (arith, past, lt))
    by false is = refl

pub version_there : (found : Option Held) (entries : List Entry) → Some entries ≡ option_map (λ (held : Held). held.manifest) found → (let none : Option LibFault = None in (if is_some found then none else Some NoVersion) ≡ none) × (entries ≡ manifest_or_none found)
version_there None entries is = absurd (none-some entries (sym is))
version_there (Some held) entries is = (refl, same_Some entries held.manifest is)

pub version_lacks : (found : Option Held) → None ≡ option_map (λ (held : Held). held.manifest) found → is_some (if is_some found then None else Some NoVersion) ≡ true
version_lacks None is = refl
version_lacks (Some held) is = absurd (none-some held.manifest is)

pub not_lacking : (o : Option LibFault) → o ≡ None → is_some o ≡ true → ⊥
not_lacking None none some = absurd (cc)
not_lacking (Some fault) none some = none-some fault (sym none)

-- a look and one more
pub looks_itself : {D : Type 0} (reads : D → Option Files) (a : Seen D) → Looks reads a a
looks_itself reads a = record { rows = record { start = refl; state = refl; end = refl; pending = refl }; seals = refl; started = refl; same = refl }

pub looks_then : {D : Type 0} (reads : D → Option Files) (a b c : Seen D) → Looks reads a b → Looks reads b c → Looks reads a c
looks_then reads a b c first second = record {
  rows = record {
    start = second.rows.start ∙ first.rows.start;
    state = second.rows.state ∙ first.rows.state;
    end = second.rows.end ∙ first.rows.end;
    pending = second.rows.pending ∙ first.rows.pending;
  };
  seals = second.seals ∙ first.seals;
  started = second.started ∙ first.started;
  same = second.same ∙ first.same;
}

-- a call of a settled library does its work on it
pub worked : {D T : Type 0} (reads : D → Option Files) (left : List (ℕ × Writing) → List (ℕ × Writing)) (Works : Seen D → Seen D → Type 0) (old new : Seen D) (result : Result T LibFault) → old.pending ≡ None → WorksOrStays reads left Works old new result → Works old new
worked {D} reads left Works old new result none call = elim call [
  | inl stays ↦ absurd (stays.1 none)
  | inr works ↦ subst (λ (mid : Seen D). Works mid new) (works.2 none) works.4
]

module _ {D : Type 0} (reads : D → Option Files) (id : List ℕ) (version entry : ℕ) (old new : Seen D) (none : entry_fault old.state id version entry ≡ None) where
  pub looks_at : (Tells : File → Hash → Type 0) (result : Result ℕ LibFault) → TellsEntry reads id version entry Tells old new result → Looks reads old new
  looks_at Tells result tells = record { rows = tells.rows; seals = tells.seals; started = tells.started; same = tells.same }

  pub of_file : (Tells : File → Hash → Type 0) (result : Result ℕ LibFault) → TellsEntry reads id version entry Tells old new result → (P : File → Type 0) → ((file : File) (hash : Hash) → Tells file hash → P file) → OfFile (reads old.disk) (version_manifest id version old.state) entry P
  of_file Tells result tells P gives = λ e at files told. gives (files (file_place e.hash.0)) e.hash (tells.told none e at files told)

  pub tells_of : (Tells : File → Hash → Type 0) (result : Result ℕ LibFault) → old.pending ≡ None → WorksOrStays reads (λ started. started) (λ mid last. TellsEntry reads id version entry Tells mid last result) old new result → TellsEntry reads id version entry Tells old new result
  tells_of Tells result settled call = worked reads (λ started. started) (λ mid last. TellsEntry reads id version entry Tells mid last result) old new result settled call

  pub only_failed : (Tells : File → Hash → Type 0) (fault : LibFault) → TellsEntry reads id version entry Tells old new (Err fault) → ((hash : Hash) → fault ≡ Gone hash → ⊥) → fault ≡ Disk
  only_failed Tells fault tells other = elim (tells.kinds none) [ inl disk ↦ disk | inr gone ↦ absurd (other gone.0.hash gone.2) ]

-- the size of a file
pub size_told : (file : File) (hash : Hash) (size : ℕ) → SizeOf file hash (Ok size) → Some size ≡ option_map length file
size_told None hash size tells = elim tells [ inl e ↦ cc | inr e ↦ cc ]
size_told (Some bytes) hash size tells = elim tells [ inl e ↦ cc | inr e ↦ cc ]

pub size_gone : (file : File) (hash : Hash) (fault : LibFault) (other : Hash) → fault ≡ Gone other → SizeOf file hash (Err fault) → None ≡ option_map length file
size_gone None hash fault other is tells = refl
size_gone (Some bytes) hash fault other is tells = elim tells [ inl e ↦ absurd (cc) | inr e ↦ absurd (cc) ]

-- its bytes
pub read_told : (file : File) (hash : Hash) (offset : ℕ) (buffer : List ℕ) (count : ℕ) → ReadOf file hash offset buffer (Ok count) → (true ≡ is_some file) × Reads file offset buffer count
read_told None hash offset buffer count tells = elim tells [ inl e ↦ absurd (cc) | inr e ↦ absurd (cc) ]
read_told (Some bytes) hash offset buffer count tells = (refl, tells.0)

pub read_gone : (file : File) (hash : Hash) (offset : ℕ) (buffer : List ℕ) (fault : LibFault) (other : Hash) → fault ≡ Gone other → ReadOf file hash offset buffer (Err fault) → false ≡ is_some file
read_gone None hash offset buffer fault other is tells = refl
read_gone (Some bytes) hash offset buffer fault other is tells = let e = tells.1 in absurd (cc)
