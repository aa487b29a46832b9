-- What stands after a change at one place.
use Rattle.std.proofs.Common.{◌≡◌, List, ℕ, ap, sym, ◌∙◌, refl}
use Rattle.std.specs.Prelude.{◌≢◌, Option, Some, None, Bool, true, false, if◌then◌else◌}
use Rattle.std.specs.Str.{bytes_eq}
use Rattle.std.proofs.lemmas.Slice.Eq.{bytes_eq-Decides}
use Rattle.std.proofs.lemmas.Option.{none-some}
use Rattle.cm_disk.specs.Disk.{File, Files, put}

pub put_here : (files : Files) (place : List ℕ) (file : File) → put files place file place ≡ file
put_here files place file = ap (λ (b : Bool). if b then file else files place) ((bytes_eq-Decides place place).1 refl)

pub put_there : (files : Files) (place : List ℕ) (file : File) (q : List ℕ) → q ≢ place → put files place file q ≡ files q
put_there files place file q other = at (bytes_eq place q) refl
  where
    at : (b : Bool) → bytes_eq place q ≡ b → put files place file q ≡ files q
    at true is = absurd (other (sym ((bytes_eq-Decides place q).0 is)))
    at false is = ap (λ (b : Bool). if b then file else files q) is

-- the last of two files at one place
pub put_put : (files : Files) (place : List ℕ) (a b : File) → put (put files place a) place b ≡ put files place b
put_put files place a b = λ i q. at q (bytes_eq place q) i
  where
    at : (q : List ℕ) (c : Bool) → (if c then b else (if c then a else files q)) ≡ (if c then b else files q)
    at q true = refl
    at q false = refl

-- a disk that tells now told before
pub told_before : {T U : Type 0} (old : Option T) (new : Option U) → (old ≡ None → new ≡ None) → (x : U) → new ≡ Some x → (y : T) × (old ≡ Some y)
told_before (Some y) new silent x told = (y, refl)
told_before None new silent x told = absurd (none-some x (sym (silent refl) ∙ told))

-- a disk tells one thing
pub one_told : {T : Type 0} (told : Option T) (x y : T) → told ≡ Some x → told ≡ Some y → Some x ≡ Some y
one_told told x y p q = sym p ∙ q
