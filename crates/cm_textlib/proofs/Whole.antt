-- A file that is written whole, in place of what stood there.
use Rattle.std.proofs.Common.{◌≡◌, ◌⊎◌, inl, inr, ⊎_elim, ℕ, zero, suc, ◌+◌, List, [], ◌∷◌, ◌++◌, length, drop, refl, sym, ◌∙◌, ap, subst, arith}
use Rattle.std.specs.Prelude.{Option, None, Some, slice_get, Result, Ok, Err, IsErr}
use Rattle.std.specs.Option.{ForSome}
use Rattle.std.proofs.lemmas.Bool.{false≢true}
use Rattle.std.proofs.lemmas.List.{drop_all}
use Rattle.cm_disk.specs.Disk.{File, Files, bytes_of, byte_at, put, written, shortened, IsPartly, Does}
use Rattle.cm_disk.proofs.Puts.{put_here, put_put}
use Rattle.cm_log.proofs.Written.{cut_file}

-- a byte of bytes over others is one of either
over_byte : (text old : List ℕ) (i : ℕ) → (slice_get (text ++ drop (length text) old) i ≡ slice_get old i) ⊎ (slice_get (text ++ drop (length text) old) i ≡ slice_get text i)
over_byte [] old i = inl refl
over_byte (b ∷ text) old zero = inr refl
over_byte (b ∷ text) [] (suc i) =
    let none : drop (length text) [] ≡ [] = drop_all (length text) [] (omega arith) in
    ⊎_elim (λ same. inl same) (λ same. inr same)
    (subst (λ (l : List ℕ). (slice_get (text ++ l) i ≡ slice_get [] i) ⊎ (slice_get (text ++ l) i ≡ slice_get text i)) none (over_byte text [] i))
over_byte (b ∷ text) (o ∷ old) (suc i) = over_byte text old i

-- the text over the front of what stood there is a part of the work
pub written_partly : (file : File) (text : List ℕ) → IsPartly file (Some text) (written 0 text file)
written_partly file text =
    let front : 0 + length text ≡ length text = omega arith in
    record {
      bytes = λ i. subst (λ (n : ℕ). (slice_get (text ++ drop n (bytes_of file)) i ≡ byte_at file i) ⊎ (slice_get (text ++ drop n (bytes_of file)) i ≡ slice_get text i)) (sym front) (over_byte text (bytes_of file) i);
      there = inr refl;
    }

pub partly_none : (before after : File) → IsPartly before after before
partly_none before after = record { bytes = λ i. inl refl; there = inl refl }

pub partly_all : (before after : File) → IsPartly before after after
partly_all before after = record { bytes = λ i. inr refl; there = inr refl }

-- a part of the step from one part of the work to another is a part of the work
pub partly_step : (before after one two file : File) → IsPartly before after one → IsPartly before after two → IsPartly one two file → IsPartly before after file
partly_step before after one two file p q r = record {
  bytes = λ i. ⊎_elim
      (λ same. ⊎_elim (λ s. inl (same ∙ s)) (λ s. inr (same ∙ s)) (p.bytes i))
      (λ same. ⊎_elim (λ s. inl (same ∙ s)) (λ s. inr (same ∙ s)) (q.bytes i))
      (r.bytes i);
  there = ⊎_elim
      (λ same. ⊎_elim (λ s. inl (same ∙ s)) (λ s. inr (same ∙ s)) p.there)
      (λ same. ⊎_elim (λ s. inl (same ∙ s)) (λ s. inr (same ∙ s)) q.there)
      r.there;
}

-- the work failed, and some part of it is done
pub does_part : {T E : Type 0} (old new : Option Files) (place : List ℕ) (all : File → File) (r : Result T E) → IsErr r
    → ForSome old (λ (files : Files). (file : File) × (new ≡ Some (put files place file)) × IsPartly (files place) (all (files place)) file) → (old ≡ None → new ≡ None) → Does old new place all r
does_part old new place all (Ok t) err failed silent = absurd (false≢true err)
does_part old new place all (Err e) err failed silent = record { ok = tt; err = failed; silent = silent }

module _ (old : Option Files) (place text : List ℕ) where
  -- the write failed
  pub write_failed : (new : Option Files) → ForSome old (λ (files : Files). (file : File) × (new ≡ Some (put files place file)) × IsPartly (files place) (written 0 text (files place)) file)
      → ForSome old (λ (files : Files). (file : File) × (new ≡ Some (put files place file)) × IsPartly (files place) (Some text) file)
  write_failed new failed files told =
      let w = failed files told in
      (w.0, w.1, partly_step (files place) (Some text) (files place) (written 0 text (files place)) w.0 (partly_none (files place) (Some text)) (written_partly (files place) text) w.2)

  -- the cut failed
  pub cut_failed : (mid new : Option Files) → ForSome old (λ (files : Files). mid ≡ Some (put files place (written 0 text (files place))))
      → ForSome mid (λ (files : Files). (file : File) × (new ≡ Some (put files place file)) × IsPartly (files place) (shortened (length text) (files place)) file)
      → ForSome old (λ (files : Files). (file : File) × (new ≡ Some (put files place file)) × IsPartly (files place) (Some text) file)
  cut_failed mid new wrote failed files told =
      let front = written 0 text (files place) in
      let w = failed (put files place front) (wrote files told) in
      let here : put files place front place ≡ front = put_here files place front in (
        w.0,
        w.1 ∙ ap (λ (f : Files). Some f) (put_put files place front w.0),
        partly_step (files place) (Some text) (put files place front place) (shortened (length text) (put files place front place)) w.0
            (subst (λ (f : File). IsPartly (files place) (Some text) f) (sym here) (written_partly (files place) text))
            (subst (λ (f : File). IsPartly (files place) (Some text) f) (sym (cut_file files place text)) (partly_all (files place) (Some text)))
            w.2,
      )

  -- it was written and cut
  pub cut_done : (mid new : Option Files) → ForSome old (λ (files : Files). mid ≡ Some (put files place (written 0 text (files place))))
      → ForSome mid (λ (files : Files). new ≡ Some (put files place (shortened (length text) (files place))))
      → ForSome old (λ (files : Files). new ≡ Some (put files place (Some text)))
  cut_done mid new wrote cut files told =
      let front = written 0 text (files place) in
      cut (put files place front) (wrote files told)
      ∙ ap (λ (f : File). Some (put (put files place front) place f)) (cut_file files place text)
      ∙ ap (λ (f : Files). Some f) (put_put files place front (Some text))

  -- the sync behind it failed
  pub sync_failed : (mid new : Option Files) → ForSome old (λ (files : Files). mid ≡ Some (put files place (Some text))) → new ≡ mid
      → ForSome old (λ (files : Files). (file : File) × (new ≡ Some (put files place file)) × IsPartly (files place) (Some text) file)
  sync_failed mid new stands same files told = (Some text, same ∙ stands files told, partly_all (files place) (Some text))
