-- Each hash that a version names is sealed.
use Rattle.std.proofs.Common.{◌≡◌, Bool, true, false, List, [], ◌∷◌, refl, ◌∙◌, ap}
use Rattle.std.specs.Prelude.{◌≢◌, ◌||◌, None}
use Rattle.std.specs.List.{AllByRecursion, list_any}
use Rattle.std.specs.Str.{bytes_eq}
use Rattle.std.proofs.lemmas.Bool.{false≢true}
use Rattle.std.proofs.lemmas.Slice.Eq.{bytes_eq-Decides}
use Rattle.cm_base.specs.declared.hash.Hash.{Hash}
use Rattle.cm_pkglib.specs.declared.counts.Counts.{Counts}
use Rattle.cm_pkglib.specs.Counts.{sealed_of}
use Rattle.cm_tree.specs.declared.entry.Entry.{Entry}
use Rattle.cm_state.specs.Needed.{has_hash}
use Rattle.cm_state.specs.State.{Held, State}
use Rattle.cm_contents.specs.Seals.{IsSealedAll, AreVersionsSealed}

hash_is : (a b : Hash) → a.0 ≡ b.0 → a ≡ b
hash_is a b same = λ i. record { 0 = same i }

-- one that passes a test, with what holds of each
record IsOne {A : Type 0} (p : A → Bool) (P : A → Type 0) : Type 0 where
  pub one : A
  pub passes : p one ≡ true
  pub holds : P one

any_all : {A : Type 0} (p : A → Bool) (P : A → Type 0) (xs : List A) → list_any p xs ≡ true → AllByRecursion P xs → IsOne p P
any_all p P [] is all = absurd (false≢true is)
any_all p P (x ∷ xs) is all = by (p x) refl is (λ rest. any_all p P xs rest all.1)
  where
    by : (b : Bool) → p x ≡ b → (b || list_any p xs) ≡ true → (list_any p xs ≡ true → IsOne p P) → IsOne p P
    by true here some later = record { one = x; passes = here; holds = all.0 }
    by false here some later = later some

pub named_sealed : (counts : Counts) (s : State) → AllByRecursion (IsSealedAll counts) s.versions → AreVersionsSealed (sealed_of counts) s
named_sealed counts s sealed hash named none =
    let held = any_all (λ (h : Held). has_hash hash.0 h.manifest) (IsSealedAll counts) s.versions named sealed in
    let entry = any_all (λ (e : Entry). bytes_eq e.hash.0 hash.0) (λ (e : Entry). sealed_of counts e.hash ≢ None) held.one.manifest held.passes held.holds in
    entry.holds (ap (λ (h : Hash). sealed_of counts h) (hash_is entry.one.hash hash ((bytes_eq-Decides entry.one.hash.0 hash.0).0 entry.passes)) ∙ none)
