-- Lists of places with so many of each kind.
use Rattle.std.proofs.Common.{◌≡◌, ℕ, ◌+◌, ◌-◌, ◌^◌, ◌<◌, zero, suc, Bool, true, false, cond, List, [], ◌∷◌, length, min, Option, None, Some, codes, refl, ◌∙◌, ap, subst, arith}
use Rattle.std.specs.Prelude.{filter, is_some}
use Rattle.std.specs.Option.{ForSome}
use Rattle.std.proofs.lemmas.Option.{none-some, same_Some}
use Rattle.hex.specs.Hex.{IsBytes}
use Rattle.cm_datalib.specs.Places.{manifest_place, is_manifest_place}
use Rattle.cm_datalib.proofs.Names.{place_named as manifest_named, past_manifest}
use Rattle.cm_disk.specs.Disk.{Files}
use Rattle.cm_disk.specs.Walks.{AreListed}
use Rattle.cm_filelib.specs.Places.{file_place, is_file_place}
use Rattle.cm_filelib.proofs.Names.{place_named}
use Rattle.cm_state.specs.Purged.{loose, counted}
use Rattle.cm_state.specs.State.{State}

-- so many bytes, each 0
zeros : ℕ → List ℕ
zeros zero = []
zeros (suc n) = 0 ∷ zeros n

zeros-length : (n : ℕ) → length (zeros n) ≡ n
unfolding zeros
zeros-length zero = refl
zeros-length (suc n) = omega (arith, zeros-length n)

zeros_below : (n : ℕ) → IsBytes (zeros n)
unfolding zeros
zeros_below zero i = omega arith
zeros_below (suc n) zero = omega arith
zeros_below (suc n) (suc i) = zeros_below n i

-- a place n times, in front of others
copies : ℕ → List ℕ → List (List ℕ) → List (List ℕ)
copies zero place rest = rest
copies (suc n) place rest = place ∷ copies n place rest

-- where it has the form they count
of_form : (form : List ℕ → Bool) (n : ℕ) (place : List ℕ) (rest : List (List ℕ)) → form place ≡ true → length (filter form (copies n place rest)) ≡ n + length (filter form rest)
unfolding copies
of_form form zero place rest is = omega arith
of_form form (suc n) place rest is =
    ap (λ (b : Bool). length (cond b (place ∷ filter form (copies n place rest)) (filter form (copies n place rest)))) is ∙ omega (arith, of_form form n place rest is)

-- else they do not
of_other : (form : List ℕ → Bool) (n : ℕ) (place : List ℕ) (rest : List (List ℕ)) → form place ≡ false → length (filter form (copies n place rest)) ≡ length (filter form rest)
unfolding copies
of_other form zero place rest is = refl
of_other form (suc n) place rest is =
    ap (λ (b : Bool). length (cond b (place ∷ filter form (copies n place rest)) (filter form (copies n place rest)))) is ∙ of_other form n place rest is

a_file : List ℕ
a_file = file_place (zeros 32)

a_manifest : List ℕ
a_manifest = manifest_place (codes "PS100001") 1

so_many : ℕ → ℕ → List (List ℕ)
so_many files manifests = copies files a_file (copies manifests a_manifest [])

file_is : is_file_place a_file ≡ true
unfolding a_file
file_is = ap (λ (o : Option (List ℕ)). is_some o) (place_named (zeros 32) (zeros_below 32) (zeros-length 32))

file_is_no_manifest : is_manifest_place a_file ≡ false
unfolding a_file
file_is_no_manifest = past_manifest (codes "E") (file_place (zeros 32)) refl refl

manifest_is : is_manifest_place a_manifest ≡ true
unfolding a_manifest
manifest_is = ap (λ (o : Option (List ℕ × ℕ)). is_some o) (manifest_named (codes "PS100001") 1 refl)

manifest_is_no_file : is_file_place a_manifest ≡ false
unfolding a_manifest
manifest_is_no_file = refl

files_of : (files manifests : ℕ) → length (filter is_file_place (so_many files manifests)) ≡ files
unfolding so_many
files_of files manifests =
    of_form is_file_place files a_file (copies manifests a_manifest []) file_is
    ∙ (ap (λ (n : ℕ). files + n) (of_other is_file_place manifests a_manifest [] manifest_is_no_file) ∙ omega arith)

manifests_of : (files manifests : ℕ) → length (filter is_manifest_place (so_many files manifests)) ≡ manifests
unfolding so_many
manifests_of files manifests =
    of_other is_manifest_place files a_file (copies manifests a_manifest []) file_is_no_manifest
    ∙ (of_form is_manifest_place manifests a_manifest [] manifest_is ∙ omega arith)

capped : (n m : ℕ) → m < 2 ^ 32 → n ≡ m → m ≡ min n (2 ^ 32 - 1)
capped n m fits is = omega arith

-- Numbers of a purge count a list of places. Where the disk tells what it reads as, these are the places that the state does not need.
pub record Counts (state : State) (reads : Option Files) (files manifests : ℕ) : Type 0 where
  pub places : List (List ℕ)
  pub listed : ForSome reads (λ was. AreListed (loose state was) places)
  pub files_is : files ≡ counted is_file_place places
  pub manifests_is : manifests ≡ counted is_manifest_place places

pub counted_in : (state : State) (reads : Option Files) (files manifests : ℕ) → files < 2 ^ 32 → manifests < 2 ^ 32
    → ForSome reads (λ was. (places : List (List ℕ)) × AreListed (loose state was) places × (files ≡ counted is_file_place places) × (manifests ≡ counted is_manifest_place places))
    → Counts state reads files manifests
counted_in state None files manifests few less told = record {
  places = so_many files manifests;
  listed = λ was is. absurd (none-some was is);
  files_is = capped (length (filter is_file_place (so_many files manifests))) files few (files_of files manifests);
  manifests_is = capped (length (filter is_manifest_place (so_many files manifests))) manifests less (manifests_of files manifests);
}
counted_in state (Some was) files manifests few less told =
    let t = told was refl in
    record {
      places = t.0;
      listed = λ other is. subst (λ (f : Files). AreListed (loose state f) t.0) (same_Some was other is) t.1;
      files_is = t.2;
      manifests_is = t.3;
    }
