-- What is sure of a byte, whatever a stop leaves.
use Rattle.std.proofs.Common.{◌≡◌, ◌⊎◌, inl, inr, ⊎_elim, ℕ, zero, suc, ◌+◌, ◌<◌, ◌≤◌, List, [], ◌∷◌, refl, sym, ◌∙◌, ap, subst, arith}
use Rattle.std.specs.Prelude.{◌==◌, if◌then◌else◌, Bool, true, false, Some, None, is_some, slice_get}
use Rattle.std.proofs.lemmas.Option.{none-some, same_Some}
use Rattle.std.proofs.lemmas.Bool.Decides.{nat_tests}
use Rattle.cm_disk.specs.declared.calls.Span.{Span}
use Rattle.cm_disk.specs.Disk.{File, bytes_of, byte_at}
use Rattle.cm_disk.specs.Images.{Stand, is_touched, IsLeft}
use Rattle.cm_disk.specs.Stands.{span_of_write, with_span}

-- a list with another number at one place
patched : List ℕ → ℕ → ℕ → List ℕ
patched [] i v = []
patched (x ∷ xs) zero v = v ∷ xs
patched (x ∷ xs) (suc i) v = x ∷ patched xs i v

patched_here : (xs : List ℕ) (i b v : ℕ) → slice_get xs i ≡ Some b → slice_get (patched xs i v) i ≡ Some v
unfolding patched
patched_here [] i b v is = absurd (none-some b is)
patched_here (x ∷ xs) zero b v is = refl
patched_here (x ∷ xs) (suc i) b v is = patched_here xs i b v is

patched_there : (xs : List ℕ) (i j v : ℕ) → (j ≡ i → ⊥) → slice_get (patched xs i v) j ≡ slice_get xs j
unfolding patched
patched_there [] i j v other = refl
patched_there (x ∷ xs) zero zero v other = absurd (other refl)
patched_there (x ∷ xs) zero (suc j) v other = refl
patched_there (x ∷ xs) (suc i) zero v other = refl
patched_there (x ∷ xs) (suc i) (suc j) v other = patched_there xs i j v (λ e. other (ap suc e))

cases_bool : (b : Bool) → (b ≡ true) ⊎ (b ≡ false)
cases_bool true = inl refl
cases_bool false = inr refl

-- the durable file may be left
pub durable_left : (s : Stand) → IsLeft s s.durable
durable_left s = record { clean = λ _ _. refl; absent = λ e. inl e; bytes = λ there i byte out is. is }

-- a byte of which a stop leaves one value is durable, untouched, and not of a removed file
pub record SureOf (s : Stand) (i byte : ℕ) : Type 0 where
  pub durable : byte_at s.durable i ≡ Some byte
  pub untouched : is_touched s.touched i ≡ false
  pub kept : s.removed ≡ false
  pub there : is_some s.now ≡ true

pub sure_of : (s : Stand) → IsLeft s s.now → (i byte : ℕ) → ((file : File) → IsLeft s file → byte_at file i ≡ Some byte) → SureOf s i byte
sure_of s reads i byte sure = record {
  durable = at;
  untouched = ⊎_elim (λ touched. absurd (torn touched)) (λ out. out) (cases_bool (is_touched s.touched i));
  kept = ⊎_elim (λ removed. absurd (none-some byte (sure None (gone removed)))) (λ k. k) (cases_bool s.removed);
  there = ⊎_elim (λ is. is) (λ none. absurd (nothing s.now none (sure s.now reads))) (cases_bool (is_some s.now));
}
  where
    at : byte_at s.durable i ≡ Some byte
    at = sure s.durable (durable_left s)

    nothing : (file : File) → is_some file ≡ false → byte_at file i ≡ Some byte → ⊥
    nothing None none is = none-some byte is
    nothing (Some x) none is = absurd (cc)

    gone : s.removed ≡ true → IsLeft s None
    gone removed = record { clean = λ e kept. absurd (cc); absent = λ e. inr removed; bytes = λ there. absurd (cc) }

    torn_left : is_touched s.touched i ≡ true → IsLeft s (Some (patched (bytes_of s.durable) i (byte + 1)))
    torn_left touched = record {
      clean = λ e kept. absurd (untouched_all e);
      absent = λ e. absurd (cc);
      bytes = λ there j b out is. patched_there (bytes_of s.durable) i j (byte + 1) (λ same. absurd (both j same out)) ∙ is;
    }
      where
        both : (j : ℕ) → j ≡ i → is_touched s.touched j ≡ false → ⊥
        both j same out = let h : is_touched s.touched i ≡ false = subst (λ (k : ℕ). is_touched s.touched k ≡ false) same out in absurd (cc)

        untouched_all : s.touched ≡ [] → ⊥
        untouched_all e = let h : is_touched s.touched i ≡ false = ap (λ (l : List Span). is_touched l i) e in absurd (cc)

    torn : is_touched s.touched i ≡ true → ⊥
    torn touched =
        let two : Some (byte + 1) ≡ Some byte = sym (patched_here (bytes_of s.durable) i byte (byte + 1) at) ∙ sure _ (torn_left touched) in
        let same : byte + 1 ≡ byte = same_Some (byte + 1) byte two in omega arith

-- and where that byte stays untouched it is sure afterwards
pub sure_after : (s t : Stand) (i byte : ℕ) → SureOf s i byte → t.durable ≡ s.durable → t.removed ≡ s.removed → is_touched t.touched i ≡ false → (file : File) → IsLeft t file → byte_at file i ≡ Some byte
sure_after s t i byte h same_durable same_removed out file left = by file left
  where
    at : byte_at t.durable i ≡ Some byte
    at = ap (λ (f : File). byte_at f i) same_durable ∙ h.durable

    by : (f : File) → IsLeft t f → byte_at f i ≡ Some byte
    by (Some x) l = l.bytes refl i byte out at
    by None l = ⊎_elim (λ none. absurd (none-some byte (sym (ap (λ (f : File). byte_at f i) none) ∙ at))) (λ removed. absurd (clash removed)) (l.absent refl)
      where
        clash : t.removed ≡ true → ⊥
        clash removed = let k : s.removed ≡ false = h.kept in absurd (cc)

-- the range of a write to a file that is there, and of a cut
pub outside_write : (now : File) (offset count i : ℕ) (spans : List Span) → is_some now ≡ true → (i < offset) ⊎ (offset + count ≤ i) → is_touched spans i ≡ false → is_touched (with_span (span_of_write now offset count) spans) i ≡ false
outside_write None offset count i spans there which out = absurd (cc)
outside_write (Some old) offset count i spans there which out = by (count == 0)
  where
    apart : is_touched (record { from = offset; to = Some (offset + count) } ∷ spans) i ≡ false
    apart = ⊎_elim (λ lt. grind (arith, nat_tests)) (λ le. grind (arith, nat_tests)) which

    by : (empty : Bool) → is_touched (with_span (if empty then None else Some (record { from = offset; to = Some (offset + count) })) spans) i ≡ false
    by true = out
    by false = apart

pub before_cut : (size i : ℕ) (spans : List Span) → i < size → is_touched spans i ≡ false → is_touched (record { from = size; to = None } ∷ spans) i ≡ false
before_cut size i spans lt out = grind (arith, nat_tests)

-- a place that is there whatever a stop leaves is durably there, and was not removed since
pub record ThereOf (s : Stand) : Type 0 where
  pub durable : is_some s.durable ≡ true
  pub kept : s.removed ≡ false

none_there : (file : File) → file ≡ None → is_some file ≡ true → ⊥
none_there file none there = let f : is_some file ≡ false = ap (λ (x : File). is_some x) none in absurd (cc)

pub there_of : (s : Stand) → ((file : File) → IsLeft s file → is_some file ≡ true) → ThereOf s
there_of s sure = record {
  durable = sure s.durable (durable_left s);
  kept = ⊎_elim (λ removed. absurd (none_there None refl (sure None (gone removed)))) (λ kept. kept) (cases_bool s.removed);
}
  where
    gone : s.removed ≡ true → IsLeft s None
    gone removed = record { clean = λ e kept. absurd (cc); absent = λ e. inr removed; bytes = λ there. absurd (cc) }

pub there_after : (s t : Stand) → ThereOf s → t.durable ≡ s.durable → t.removed ≡ s.removed → (file : File) → IsLeft t file → is_some file ≡ true
there_after s t h same_durable same_removed (Some x) left = refl
there_after s t h same_durable same_removed None left = absurd (⊎_elim (λ none. none_there s.durable (sym same_durable ∙ none) h.durable) clash (left.absent refl))
  where
    clash : t.removed ≡ true → ⊥
    clash removed = let k : s.removed ≡ false = h.kept in absurd (cc)
