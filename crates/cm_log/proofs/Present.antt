-- The files that are there after a call.
use Rattle.std.proofs.Common.{◌≡◌, inl, inr, ℕ, Bool, true, false, List, Option, refl, ◌∙◌, ap}
use Rattle.std.specs.Prelude.{is_some, if◌then◌else◌, Result, Ok, Err}
use Rattle.std.specs.Str.{bytes_eq}
use Rattle.std.proofs.lemmas.Slice.Eq.{bytes_eq-Decides}
use Rattle.cm_disk.specs.Disk.{File, Files, Does, IsPartly, put}
use Rattle.cm_log.specs.Frames.{NoneGone}

-- a file at one place, which is there if it was
pub put_present : (files : Files) (place : List ℕ) (file : File) → (is_some (files place) ≡ true → is_some file ≡ true) → (q : List ℕ) → is_some (files q) ≡ true → is_some (put files place file q) ≡ true
put_present files place file there q was = at (bytes_eq place q) refl
  where
    at : (b : Bool) → bytes_eq place q ≡ b → is_some (if b then file else files q) ≡ true
    at true same = there (ap (λ (p : List ℕ). is_some (files p)) ((bytes_eq-Decides place q).0 same) ∙ was)
    at false other = was

-- any part of work that makes the file
pub partly_present : (before after now : File) → IsPartly before after now → is_some after ≡ true → is_some before ≡ true → is_some now ≡ true
partly_present before after now partly made was = elim partly.there [
  | inl same ↦ same ∙ was
  | inr same ↦ same ∙ made
]

-- such work at one place, done or failed
pub gone_call : {T E : Type 0} (old new : Option Files) (place : List ℕ) (work : File → File) (result : Result T E) → ((file : File) → is_some (work file) ≡ true) → Does old new place work result → NoneGone old new
gone_call old new place work (Ok x) makes does = λ files told.
    (put files place (work (files place)), does.ok files told, put_present files place (work (files place)) (λ was. makes (files place)))
gone_call old new place work (Err e) makes does = λ files told.
    let partly = does.err files told in
    (put files place partly.0, partly.1, put_present files place partly.0 (partly_present (files place) (work (files place)) partly.0 partly.2 (makes (files place))))

pub gone_same : (old new : Option Files) → new ≡ old → NoneGone old new
gone_same old new same = λ files told. (files, same ∙ told, λ q there. there)

pub gone_then : (old mid new : Option Files) → NoneGone old mid → NoneGone mid new → NoneGone old new
gone_then old mid new first second = λ files told.
    let a = first files told in
    let b = second a.0 a.1 in
    (b.0, b.1, λ q there. b.2 q (a.2 q there))
