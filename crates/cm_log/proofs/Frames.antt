-- Calls one after another, by what they leave alone.
use Rattle.std.proofs.Common.{◌≡◌, ℕ, ◌≤◌, List, Option, Result, refl, ◌∙◌, arith}
use Rattle.std.specs.Prelude.{◌≢◌}
use Rattle.cm_disk.specs.Disk.{File, Files, IsImage, LeavesNoMore, Does, Touches, Elapses}
use Rattle.cm_disk.proofs.Moments.{started, goes_on, joins, weaker}
use Rattle.cm_log.specs.Frames.{OnlyReads, LeavesAlone}
use Rattle.cm_log.proofs.Keeping.{keeps_same, keeps_then, keeps_fewer, keeps_others}

-- one call of the disk that writes nothing
pub only_call : {D : Type 0} (reads : D → Option Files) (may_leave : D → List ℕ → File → Type 0) (moment : D → ℕ) (left_since : D → ℕ → Files → Type 0) (faults : D → ℕ) (old new : D)
    → ((files : Files) → left_since old (moment old) files → IsImage (may_leave old) files)
    → reads new ≡ reads old → LeavesNoMore (may_leave old) (may_leave new) → Elapses (moment old) (moment new) (left_since old) (left_since new) (may_leave new) → faults old ≤ faults new
    → OnlyReads reads may_leave moment left_since faults old new
only_call reads may_leave moment left_since faults old new only_now same stop time later = record {
  same = same;
  stop = stop;
  run = goes_on moment left_since old old new (IsImage (may_leave old)) (may_leave new) (started moment left_since old (IsImage (may_leave old)) only_now) time (λ files image q. stop q (files q) (image q));
  later = later;
}

-- no call
pub only_start : {D : Type 0} (reads : D → Option Files) (may_leave : D → List ℕ → File → Type 0) (moment : D → ℕ) (left_since : D → ℕ → Files → Type 0) (faults : D → ℕ) (old : D)
    → ((files : Files) → left_since old (moment old) files → IsImage (may_leave old) files) → OnlyReads reads may_leave moment left_since faults old old
only_start reads may_leave moment left_since faults old only_now = record {
  same = refl;
  stop = λ q file left. left;
  run = started moment left_since old (IsImage (may_leave old)) only_now;
  later = omega arith;
}

pub only_then : {D : Type 0} {reads : D → Option Files} {may_leave : D → List ℕ → File → Type 0} {moment : D → ℕ} {left_since : D → ℕ → Files → Type 0} {faults : D → ℕ} {old mid new : D}
    → OnlyReads reads may_leave moment left_since faults old mid → OnlyReads reads may_leave moment left_since faults mid new → OnlyReads reads may_leave moment left_since faults old new
only_then {D} {reads} {may_leave} {moment} {left_since} {faults} {old} {mid} {new} one two = record {
  same = two.same ∙ one.same;
  stop = λ q file left. one.stop q file (two.stop q file left);
  run = joins moment left_since old mid new (IsImage (may_leave old)) (IsImage (may_leave mid)) one.run two.run (λ files image q. one.stop q (files q) (image q));
  later = omega (arith, one.later, two.later);
}

-- one call of the disk that works at one place, done or failed
pub alone_call : {D : Type 0} (reads : D → Option Files) (may_leave : D → List ℕ → File → Type 0) (moment : D → ℕ) (left_since : D → ℕ → Files → Type 0) (faults : D → ℕ) (old new : D)
    → ((files : Files) → left_since old (moment old) files → IsImage (may_leave old) files)
    → {T E : Type 0} (place : List ℕ) (work : File → File) (untouched : ℕ → Type 0) (result : Result T E)
    → Does (reads old) (reads new) place work result → Touches place untouched (may_leave old) (may_leave new) → Elapses (moment old) (moment new) (left_since old) (left_since new) (may_leave new) → faults old ≤ faults new
    → LeavesAlone (λ q. q ≢ place) reads may_leave moment left_since faults old new
alone_call reads may_leave moment left_since faults old new only_now place work untouched result does touches time later =
    let others : Files → Type 0 = λ left. (q : List ℕ) → q ≢ place → may_leave old q (left q) in
    record {
      silent = does.silent;
      kept = keeps_others (reads old) (reads new) place work result does;
      others = touches.others;
      run = goes_on moment left_since old old new others (may_leave new) (started moment left_since old others (λ files left q other. only_now files left q)) time (λ files image q other. touches.others q (files q) other (image q));
      later = later;
    }

pub alone_only : {D : Type 0} {reads : D → Option Files} {may_leave : D → List ℕ → File → Type 0} {moment : D → ℕ} {left_since : D → ℕ → Files → Type 0} {faults : D → ℕ} {old new : D} (P : List ℕ → Type 0)
    → OnlyReads reads may_leave moment left_since faults old new → LeavesAlone P reads may_leave moment left_since faults old new
alone_only {D} {reads} {may_leave} {moment} {left_since} {faults} {old} {new} P only = record {
  silent = λ none. only.same ∙ none;
  kept = keeps_same P (reads old) (reads new) only.same;
  others = λ q file here left. only.stop q file left;
  run = weaker moment left_since old new (IsImage (may_leave old)) (λ (left : Files). (q : List ℕ) → P q → may_leave old q (left q)) only.run (λ files image q here. image q);
  later = only.later;
}

pub alone_fewer : {D : Type 0} {reads : D → Option Files} {may_leave : D → List ℕ → File → Type 0} {moment : D → ℕ} {left_since : D → ℕ → Files → Type 0} {faults : D → ℕ} {old new : D} {P : List ℕ → Type 0} (Q : List ℕ → Type 0)
    → ((q : List ℕ) → Q q → P q) → LeavesAlone P reads may_leave moment left_since faults old new → LeavesAlone Q reads may_leave moment left_since faults old new
alone_fewer {D} {reads} {may_leave} {moment} {left_since} {faults} {old} {new} {P} Q fewer a = record {
  silent = a.silent;
  kept = keeps_fewer P Q (reads old) (reads new) fewer a.kept;
  others = λ q file here left. a.others q file (fewer q here) left;
  run = weaker moment left_since old new (λ (left : Files). (q : List ℕ) → P q → may_leave old q (left q)) (λ (left : Files). (q : List ℕ) → Q q → may_leave old q (left q)) a.run (λ files left q here. left q (fewer q here));
  later = a.later;
}

pub alone_then : {D : Type 0} {reads : D → Option Files} {may_leave : D → List ℕ → File → Type 0} {moment : D → ℕ} {left_since : D → ℕ → Files → Type 0} {faults : D → ℕ} {old mid new : D} {P : List ℕ → Type 0}
    → LeavesAlone P reads may_leave moment left_since faults old mid → LeavesAlone P reads may_leave moment left_since faults mid new → LeavesAlone P reads may_leave moment left_since faults old new
alone_then {D} {reads} {may_leave} {moment} {left_since} {faults} {old} {mid} {new} {P} one two = record {
  silent = λ none. two.silent (one.silent none);
  kept = keeps_then P (reads old) (reads mid) (reads new) one.kept two.kept;
  others = λ q file here left. one.others q file here (two.others q file here left);
  run = joins moment left_since old mid new (λ (left : Files). (q : List ℕ) → P q → may_leave old q (left q)) (λ (left : Files). (q : List ℕ) → P q → may_leave mid q (left q)) one.run two.run (λ files left q here. one.others q (files q) here (left q here));
  later = omega (arith, one.later, two.later);
}
