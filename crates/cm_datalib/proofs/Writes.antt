-- A file that is written in pieces, from one offset on.
use Rattle.std.proofs.Common.{◌≡◌, ◌⊎◌, inl, inr, ⊎_elim, ℕ, zero, suc, ◌+◌, ◌-◌, ◌<◌, ◌≤◌, Bool, true, false, List, [], ◌∷◌, ◌++◌, length, take, drop, refl, sym, ◌∙◌, ap, subst, arith, length-append, append_assoc, take-append-drop}
use Rattle.std.specs.Prelude.{nat_lt, Option, None, Some, is_some, slice_get, if◌then◌else◌, Result, Ok, Err, IsErr}
use Rattle.std.specs.Option.{ForSome}
use Rattle.std.specs.Str.{bytes_eq}
use Rattle.std.proofs.Math.Seq.{take-append_seam, drop-append-add}
use Rattle.std.proofs.lemmas.Bool.{false≢true, ltb-true, ltb-false}
use Rattle.std.proofs.lemmas.List.{append-nil, length-take-le, drop_all}
use Rattle.std.proofs.lemmas.Option.{same_Some}
use Rattle.std.proofs.lemmas.Slice.Eq.{bytes_eq-Decides}
use Rattle.cm_disk.specs.Disk.{File, Files, bytes_of, byte_at, put, written, shortened, IsPartly, Does}
use Rattle.cm_disk.proofs.Puts.{put_here, put_put, told_before}

get_front : (xs ys : List ℕ) (i : ℕ) → i < length xs → slice_get (xs ++ ys) i ≡ slice_get xs i
get_front [] ys i lt = absurd (omega arith)
get_front (x ∷ xs) ys zero lt = refl
get_front (x ∷ xs) ys (suc i) lt = get_front xs ys i (omega arith)

get_back : (xs ys : List ℕ) (j : ℕ) → slice_get (xs ++ ys) (length xs + j) ≡ slice_get ys j
get_back [] ys j = ap (slice_get ys) (omega arith)
get_back (x ∷ xs) ys j =
    let step : length (x ∷ xs) + j ≡ suc (length xs + j) = omega arith in
    ap (slice_get (x ∷ (xs ++ ys))) step ∙ get_back xs ys j

get_drop : (n : ℕ) (xs : List ℕ) (j : ℕ) → slice_get (drop n xs) j ≡ slice_get xs (n + j)
get_drop zero xs j = ap (slice_get xs) (omega arith)
get_drop (suc n) [] j = refl
get_drop (suc n) (x ∷ xs) j =
    let step : suc (n + j) ≡ suc n + j = omega arith in
    get_drop n xs j ∙ ap (slice_get (x ∷ xs)) step

drop_drop : (n m : ℕ) (xs : List ℕ) → drop m (drop n xs) ≡ drop (n + m) xs
drop_drop zero m xs = ap (λ (k : ℕ). drop k xs) (omega arith)
drop_drop (suc n) m [] = drop_all m [] (omega arith) ∙ sym (drop_all (suc n + m) [] (omega arith))
drop_drop (suc n) m (x ∷ xs) =
    let step : suc (n + m) ≡ suc n + m = omega arith in
    drop_drop n m xs ∙ ap (λ (k : ℕ). drop k (x ∷ xs)) step

front_long : (file : File) (at : ℕ) (p : List ℕ) → at ≤ length (bytes_of file) → length (take at (bytes_of file) ++ p) ≡ at + length p
front_long file at p within = length-append (take at (bytes_of file)) p ∙ ap (λ (n : ℕ). n + length p) (length-take-le at (bytes_of file) within)

-- a piece behind what was written
pub written_on : (file : File) (at : ℕ) (p b : List ℕ) → at ≤ length (bytes_of file) → written (at + length p) b (written at p file) ≡ written at (p ++ b) file
written_on file at p b within =
    let old = bytes_of file in
    let q = take at old ++ p in
    let rest = drop (at + length p) old in
    let long : at + length p ≡ length q = sym (front_long file at p within) in
    let both : (at + length p) + length b ≡ at + length (p ++ b) = omega (arith, length-append p b) in
    let front : take (at + length p) (q ++ rest) ≡ q = ap (λ (n : ℕ). take n (q ++ rest)) long ∙ take-append_seam q rest in
    let back : drop ((at + length p) + length b) (q ++ rest) ≡ drop (at + length (p ++ b)) old =
    ap (λ (n : ℕ). drop (n + length b) (q ++ rest)) long ∙ drop-append-add q rest (length b) ∙ drop_drop (at + length p) (length b) old ∙ ap (λ (n : ℕ). drop n old) both in
    ap (λ (l : List ℕ). Some (l ++ b ++ drop ((at + length p) + length b) (q ++ rest))) front
    ∙ ap (λ (l : List ℕ). Some (q ++ b ++ l)) back
    ∙ ap (λ (l : List ℕ). Some (l ++ drop (at + length (p ++ b)) old)) (append_assoc (take at old) p b)

-- nothing is written to a file that is there
pub written_none : (file : File) (at : ℕ) → is_some file ≡ true → written at [] file ≡ file
written_none None at there = absurd (false≢true there)
written_none (Some old) at there =
    let same : at + 0 ≡ at = omega arith in
    ap (λ (l : List ℕ). Some (l ++ drop (at + 0) old)) (append-nil (take at old))
    ∙ ap (λ (n : ℕ). Some (take at old ++ drop n old)) same
    ∙ ap (λ (l : List ℕ). Some l) (take-append-drop at old)

pub put_same : (files : Files) (place : List ℕ) → put files place (files place) ≡ files
put_same files place = λ i q. at q (bytes_eq place q) refl i
  where
    at : (q : List ℕ) (b : Bool) → bytes_eq place q ≡ b → put files place (files place) q ≡ files q
    at q true is = ap (λ (b : Bool). if b then files place else files q) is ∙ ap files ((bytes_eq-Decides place q).0 is)
    at q false is = ap (λ (b : Bool). if b then files place else files q) is

-- a front of the work is done
pub partly_of : (file after : File) (at : ℕ) (p rest : List ℕ) → at ≤ length (bytes_of file) → after ≡ Some (take at (bytes_of file) ++ p ++ rest) → IsPartly file after (written at p file)
partly_of file after at p rest within is = record {
  bytes = λ i. by i (nat_lt i (at + length p)) refl;
  there = inr (sym (ap (λ (f : File). is_some f) is));
}
  where
    by : (i : ℕ) (c : Bool) → nat_lt i (at + length p) ≡ c → (byte_at (written at p file) i ≡ byte_at file i) ⊎ (byte_at (written at p file) i ≡ byte_at after i)
    by i true lt =
        let q = take at (bytes_of file) ++ p in
        let short : i < length q = omega (arith, ltb-true i (at + length p) lt, front_long file at p within) in
        inr (get_front q (drop (at + length p) (bytes_of file)) i short ∙ sym (get_front q rest i short) ∙ ap (λ (f : File). byte_at f i) (sym is))
    by i false ge =
        let q = take at (bytes_of file) ++ p in
        let old = bytes_of file in
        let past = ltb-false i (at + length p) ge in
        let here : i ≡ length q + (i - (at + length p)) = omega (arith, past, front_long file at p within) in
        let there : (at + length p) + (i - (at + length p)) ≡ i = omega (arith, past) in
        inl (
        ap (slice_get (q ++ drop (at + length p) old)) here
        ∙ get_back q (drop (at + length p) old) (i - (at + length p))
        ∙ get_drop (at + length p) old (i - (at + length p))
        ∙ ap (slice_get old) there
        )

pub partly_front : (file : File) (at : ℕ) (p rest : List ℕ) → at ≤ length (bytes_of file) → IsPartly file (written at (p ++ rest) file) (written at p file)
partly_front file at p rest within =
    let old = bytes_of file in
    let more = drop (at + length (p ++ rest)) old in
    partly_of file (written at (p ++ rest) file) at p (rest ++ more) within
    (ap (λ (l : List ℕ). Some (l ++ more)) (sym (append_assoc (take at old) p rest)) ∙ ap (λ (l : List ℕ). Some l) (append_assoc (take at old ++ p) rest more))

pub partly_none : (before after : File) → IsPartly before after before
partly_none before after = record { bytes = λ i. inl refl; there = inl refl }

pub partly_all : (before after : File) → IsPartly before after after
partly_all before after = record { bytes = λ i. inr refl; there = inr refl }

-- a part of the step from one part of the work to another is a part of the work
pub partly_step : (before after one two file : File) → IsPartly before after one → IsPartly before after two → IsPartly one two file → IsPartly before after file
partly_step before after one two file p q r = record {
  bytes = λ i. ⊎_elim
      (λ same. ⊎_elim (λ s. inl (same ∙ s)) (λ s. inr (same ∙ s)) (p.bytes i))
      (λ same. ⊎_elim (λ s. inl (same ∙ s)) (λ s. inr (same ∙ s)) (q.bytes i))
      (r.bytes i);
  there = ⊎_elim
      (λ same. ⊎_elim (λ s. inl (same ∙ s)) (λ s. inr (same ∙ s)) p.there)
      (λ same. ⊎_elim (λ s. inl (same ∙ s)) (λ s. inr (same ∙ s)) q.there)
      r.there;
}

-- so much of the work was sent
pub record Sent (old new : Option Files) (place : List ℕ) (at : ℕ) (bytes : List ℕ) : Type 0 where
  pub told : ForSome old (λ (files : Files). new ≡ Some (put files place (written at bytes (files place))))
  pub silent : old ≡ None → new ≡ None

pub sent_none : (told : Option Files) (place : List ℕ) (at : ℕ) → ForSome told (λ (files : Files). is_some (files place) ≡ true) → Sent told told place at []
sent_none told place at there = record {
  told = λ files is. is ∙ ap (λ (f : Files). Some f) (sym (ap (λ (f : File). put files place f) (written_none (files place) at (there files is)) ∙ put_same files place));
  silent = λ none. none;
}

module _ (old mid new : Option Files) (place : List ℕ) (at next : ℕ) (p b : List ℕ) (behind : next ≡ at + length p) (within : ForSome old (λ (files : Files). at ≤ length (bytes_of (files place)))) (sent : Sent old mid place at p) where
  next_written : (files : Files) → old ≡ Some files → written next b (written at p (files place)) ≡ written at (p ++ b) (files place)
  next_written files is = ap (λ (n : ℕ). written n b (written at p (files place))) behind ∙ written_on (files place) at p b (within files is)

  pub sent_more : ForSome mid (λ (files : Files). new ≡ Some (put files place (written next b (files place)))) → (mid ≡ None → new ≡ None) → Sent old new place at (p ++ b)
  sent_more work silent = record {
    told = λ files is.
        let one = put files place (written at p (files place)) in
        work one (sent.told files is)
        ∙ ap (λ (f : File). Some (put one place (written next b f))) (put_here files place (written at p (files place)))
        ∙ ap (λ (f : Files). Some f) (put_put files place (written at p (files place)) (written next b (written at p (files place))))
        ∙ ap (λ (f : File). Some (put files place f)) (next_written files is);
    silent = λ none. silent (sent.silent none);
  }

-- a call fails on the way from one part of the work to another
pub fails : {T E : Type 0} (old mid new : Option Files) (at place : List ℕ) (all one work : File → File) (r : Result T E) → IsErr r → at ≡ place
    → ForSome old (λ (files : Files). mid ≡ Some (put files at (one (files at)))) → (old ≡ None → mid ≡ None)
    → ForSome old (λ (files : Files). IsPartly (files at) (all (files at)) (one (files at)))
    → ForSome old (λ (files : Files). IsPartly (files at) (all (files at)) (work (one (files at))))
    → ForSome mid (λ (files : Files). (file : File) × (new ≡ Some (put files at file)) × IsPartly (files at) (work (files at)) file) → (mid ≡ None → new ≡ None) → Does old new place all r
fails old mid new at place all one work (Ok t) err is made silent first second failed mute = absurd (false≢true err)
fails {T} {E} old mid new at place all one work (Err e) err is made silent first second failed mute = subst (λ (q : List ℕ). Does {T = T} {E = E} old new q all (Err e)) is (record {
  ok = tt;
  err = λ files told.
      let file = one (files at) in
      let w = failed (put files at file) (made files told) in
      let part = subst (λ (f : File). IsPartly f (work f) w.0) (put_here files at file) w.2 in
      (w.0, w.1 ∙ ap (λ (f : Files). Some f) (put_put files at file w.0), partly_step (files at) (all (files at)) file (work file) w.0 (first files told) (second files told) part);
  silent = λ none. mute (silent none);
})

pub sent_fails : {T E : Type 0} (old mid new : Option Files) (place : List ℕ) (at next : ℕ) (p b rest all : List ℕ) (r : Result T E) → IsErr r → all ≡ (p ++ b) ++ rest → next ≡ at + length p
    → ForSome old (λ (files : Files). at ≤ length (bytes_of (files place))) → Sent old mid place at p
    → ForSome mid (λ (files : Files). (file : File) × (new ≡ Some (put files place file)) × IsPartly (files place) (written next b (files place)) file) → (mid ≡ None → new ≡ None) → Does old new place (written at all) r
sent_fails old mid new place at next p b rest all r err is behind within sent failed mute =
    fails old mid new place place (written at all) (written at p) (written next b) r err refl sent.told sent.silent
    (λ files told. subst (λ (l : List ℕ). IsPartly (files place) (written at l (files place)) (written at p (files place))) (sym (is ∙ append_assoc p b rest)) (partly_front (files place) at p (b ++ rest) (within files told)))
    (λ files told.
    subst (λ (f : File). IsPartly (files place) (written at all (files place)) f) (sym (next_written old mid new place at next p b behind within sent files told))
    (subst (λ (l : List ℕ). IsPartly (files place) (written at l (files place)) (written at (p ++ b) (files place))) (sym is) (partly_front (files place) at (p ++ b) rest (within files told))))
    failed mute

-- what a cut leaves of a file that was written from its front
pub cut_written : (file : File) (whole : List ℕ) (end : ℕ) → end ≡ length whole → shortened end (written 0 whole file) ≡ Some whole
cut_written file whole end is = ap (λ (n : ℕ). shortened n (written 0 whole file)) is ∙ ap (λ (l : List ℕ). Some l) (take-append_seam whole (drop (0 + length whole) (bytes_of file)))

-- and it may be cut there
pub may_cut : (file : File) (whole : List ℕ) → (is_some (written 0 whole file) ≡ true) × (length whole ≤ length (bytes_of (written 0 whole file)))
may_cut file whole = (refl, omega (arith, length-append whole (drop (0 + length whole) (bytes_of file))))

-- what stands at the place
pub sent_here : (old new : Option Files) (place : List ℕ) (at : ℕ) (p : List ℕ) → Sent old new place at p → (x : Files) → new ≡ Some x → (files : Files) × (old ≡ Some files) × (x place ≡ written at p (files place))
sent_here old new place at p sent x told =
    let before = told_before old new sent.silent x told in
    let is : put before.0 place (written at p (before.0 place)) ≡ x = same_Some _ x (sym (sent.told before.0 before.1) ∙ told) in
    (before.0, before.1, ap (λ (f : Files). f place) (sym is) ∙ put_here before.0 place (written at p (before.0 place)))

pub sent_within : (old new : Option Files) (place : List ℕ) (at next : ℕ) (p : List ℕ) → Sent old new place at p → next ≡ at + length p → ForSome old (λ (files : Files). at ≤ length (bytes_of (files place))) → (x : Files) → new ≡ Some x → next ≤ length (bytes_of (x place))
sent_within old new place at next p sent behind within x told =
    let h = sent_here old new place at p sent x told in
    let file = h.0 place in
    let long : next ≤ length (bytes_of (written at p file)) =
    omega (arith, behind, front_long file at p (within h.0 h.1), length-append (take at (bytes_of file) ++ p) (drop (at + length p) (bytes_of file))) in
    subst (λ (f : File). next ≤ length (bytes_of f)) (sym h.2) long

-- a file that was written from its front, and cut
pub cut_sent : (old mid new : Option Files) (place whole : List ℕ) (end : ℕ) → end ≡ length whole → Sent old mid place 0 whole → ForSome mid (λ (files : Files). new ≡ Some (put files place (shortened end (files place))))
    → ForSome old (λ (files : Files). new ≡ Some (put files place (Some whole)))
cut_sent old mid new place whole end is sent work files told =
    let one = put files place (written 0 whole (files place)) in
    work one (sent.told files told)
    ∙ ap (λ (f : File). Some (put one place (shortened end f))) (put_here files place (written 0 whole (files place)))
    ∙ ap (λ (f : Files). Some f) (put_put files place (written 0 whole (files place)) (shortened end (written 0 whole (files place))))
    ∙ ap (λ (f : File). Some (put files place f)) (cut_written (files place) whole end is)

pub does_ok : {T E : Type 0} (old new : Option Files) (at place : List ℕ) (all : File → File) (t : T) → at ≡ place → ForSome old (λ (files : Files). new ≡ Some (put files at (all (files at)))) → (old ≡ None → new ≡ None) → Does {T = T} {E = E} old new place all (Ok t)
does_ok {T} {E} old new at place all t is work silent = subst (λ (q : List ℕ). Does {T = T} {E = E} old new q all (Ok t)) is (record { ok = work; err = tt; silent = silent })
