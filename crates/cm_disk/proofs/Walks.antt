-- A walk over the places of one form, step by step.
use Rattle.std.proofs.Common.{◌≡◌, ⊎_elim, ℕ, Bool, true, false, List, refl, sym, ◌∙◌, ap, subst}
use Rattle.std.specs.Prelude.{◌<◌, Option, None, Some, is_some, option_map, if◌then◌else◌, Result, Ok, Err, IfOk, IfSome}
use Rattle.std.specs.Option.{ForSome}
use Rattle.std.specs.Ordering.{nat_cmp, is_lt}
use Rattle.std.specs.Cmp.Lexicographic.{slice_cmp}
use Rattle.std.specs.declared.cmp.Ordering.TheVariants.{Less}
use Rattle.std.proofs.lemmas.Bool.{false≢true}
use Rattle.std.proofs.lemmas.Option.{same_Some, none-some}
use Rattle.cm_disk.specs.Disk.{Files, is_above, IsNext}
use Rattle.cm_disk.specs.Ranks.{IsText, Rises, ahead}
use Rattle.cm_disk.specs.Walks.{only_at}
use Rattle.cm_disk.proofs.Rises.{nearer, nearer_first}

pub rises_to : (at place : List ℕ) → IsText at → IsText place → is_above (Some at) place ≡ true → Rises at place
rises_to at place one two above = record { above = above; nearer = nearer at place one.bytes one.few two.few above }

module _ (is_form : List ℕ → Bool) (files : Files) where
  -- a file that a walk sees is there, at a place of its form
  pub seen_is : (q : List ℕ) → is_some (only_at is_form files q) ≡ true → (is_form q ≡ true) × (is_some (files q) ≡ true)
  seen_is q there = by (is_form q) refl
    where
      by : (b : Bool) → is_form q ≡ b → (is_form q ≡ true) × (is_some (files q) ≡ true)
      by true form = (form, sym (ap (λ (b : Bool). is_some (if b then files q else None)) form) ∙ there)
      by false other = absurd (false≢true (sym (ap (λ (b : Bool). is_some (if b then files q else None)) other) ∙ there))

  pub is_seen : (q : List ℕ) → is_form q ≡ true → is_some (files q) ≡ true → is_some (only_at is_form files q) ≡ true
  is_seen q form there = ap (λ (b : Bool). is_some (if b then files q else None)) form ∙ there

  -- from here on a walk sees all that it sees above its start
  abbrev pub Reached : List ℕ → List ℕ → Type 0
  Reached from at = (q : List ℕ) → is_above (Some from) q ≡ true → is_some (only_at is_form files q) ≡ true → is_above (Some at) q ≡ true

  -- no place at all
  pub none_left : (from at : List ℕ) → Reached from at → IsNext files (Some at) None → IsNext (only_at is_form files) (Some from) None
  none_left from at reached next = record {
    there = λ q is. absurd (none-some q is);
    least = λ q above there. let n = next.least q (reached q above there) (seen_is q there).1 in absurd (none-some n.0 n.1);
  }

  -- a place of another form: those that are seen are above it
  pub passes : (from at place : List ℕ) → Reached from at → IsNext files (Some at) (Some place) → is_form place ≡ false → Reached from place
  passes from at place reached next other q above there =
      let s = seen_is q there in
      let n = next.least q (reached q above there) s.1 in
      ⊎_elim
      (λ same. absurd (false≢true (sym other ∙ ap is_form (same_Some place n.0 n.1 ∙ same) ∙ s.0)))
      (λ less. ap is_lt (subst (λ (p : List ℕ). slice_cmp nat_cmp p q ≡ Less) (sym (same_Some place n.0 n.1)) less))
      n.2

  -- a place behind all of the form
  pub none_behind : (from place : List ℕ) → Reached from place → ((q : List ℕ) → is_above (Some place) q ≡ true → is_form q ≡ false) → IsNext (only_at is_form files) (Some from) None
  none_behind from place reached past = record {
    there = λ q is. absurd (none-some q is);
    least = λ q above there. absurd (false≢true (sym (past q (reached q above there)) ∙ (seen_is q there).0));
  }

  -- a place of the form
  pub found : (from at place : List ℕ) → Reached from at → IsNext files (Some at) (Some place) → is_form place ≡ true → IsNext (only_at is_form files) (Some from) (Some place)
  found from at place reached next form = record {
    there = λ q is. subst (λ (p : List ℕ). is_some (only_at is_form files p) ≡ true) (same_Some place q is) (is_seen place form (next.there place refl));
    least = λ q above there. next.least q (reached q above there) (seen_is q there).1;
  }

  -- what is first above the folder is the first of all
  pub first_of_all : (folder : List ℕ) (next : Option (List ℕ)) → ((q : List ℕ) → is_form q ≡ true → is_above (Some folder) q ≡ true) → IsNext (only_at is_form files) (Some folder) next → IsNext (only_at is_form files) None next
  first_of_all folder next within n = record { there = n.there; least = λ q above there. n.least q (within q (seen_is q there).0) there }

-- a walk that begins
pub first_least : {N E : Type 0} (is_form : List ℕ → Bool) (place_of : N → List ℕ) (reads : Option Files) (folder : List ℕ) (after : Option N) (r : Result (Option N) E) → after ≡ None → ((q : List ℕ) → is_form q ≡ true → is_above (Some folder) q ≡ true)
    → IfOk r (λ next. ForSome reads (λ files. IsNext (only_at is_form files) (Some folder) (option_map place_of next))) → IfOk r (λ next. ForSome reads (λ files. IsNext (only_at is_form files) (option_map place_of after) (option_map place_of next)))
first_least is_form place_of reads folder after (Err e) none within least = tt
first_least {N} is_form place_of reads folder after (Ok next) none within least = λ files told.
    subst (λ (a : Option N). IsNext (only_at is_form files) (option_map place_of a) (option_map place_of next)) (sym none) (first_of_all is_form files folder (option_map place_of next) within (least files told))

pub first_nearer : {N E : Type 0} (place_of : N → List ℕ) (folder : List ℕ) (after : Option N) (r : Result (Option N) E) → after ≡ None
    → IfOk r (λ next. IfSome next (λ named. Rises folder (place_of named))) → IfOk r (λ next. IfSome next (λ named. ahead (Some (place_of named)) < ahead (option_map place_of after)))
first_nearer place_of folder after (Err e) none up = tt
first_nearer place_of folder after (Ok None) none up = tt
first_nearer {N} place_of folder after (Ok (Some named)) none up = subst (λ (a : Option N). ahead (Some (place_of named)) < ahead (option_map place_of a)) (sym none) (nearer_first (place_of named))
