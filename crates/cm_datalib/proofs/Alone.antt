-- Calls that touch one place, one after another.
use Rattle.std.proofs.Common.{ℕ, List}
use Rattle.std.specs.Prelude.{◌≢◌}
use Rattle.cm_disk.specs.Disk.{File, Files, IsImage, Elapses, LeavesOnly}
use Rattle.cm_disk.proofs.Moments.{started, goes_on, joins}

-- at each other place a stop left what it might have left before
abbrev pub Elsewhere : List ℕ → (List ℕ → File → Type 0) → Files → Type 0
Elsewhere place may_leave left = (q : List ℕ) → q ≢ place → may_leave q (left q)

abbrev pub LeavesOthers : List ℕ → (List ℕ → File → Type 0) → (List ℕ → File → Type 0) → Type 0
LeavesOthers place old new = (q : List ℕ) (file : File) → q ≢ place → new q file → old q file

module _ {D : Type 0} (may_leave : D → List ℕ → File → Type 0) (moment : D → ℕ) (left_since : D → ℕ → Files → Type 0) (place : List ℕ) where
  pub record Alone (old new : D) : Type 0 where
    pub run : LeavesOnly moment left_since old new (λ (left : Files). (q : List ℕ) → q ≢ place → may_leave old q (left q))
    pub others : (q : List ℕ) (file : File) → q ≢ place → may_leave new q file → may_leave old q file

  pub alone_start : (old : D) → ((files : Files) → left_since old (moment old) files → IsImage (may_leave old) files) → Alone old old
  alone_start old only_now = record {
    run = started moment left_since old (Elsewhere place (may_leave old)) (λ files left q other. only_now files left q);
    others = λ q file other left. left;
  }

  pub alone_next : (old mid new : D) → Alone old mid → Elapses (moment mid) (moment new) (left_since mid) (left_since new) (may_leave new) → LeavesOthers place (may_leave mid) (may_leave new) → Alone old new
  alone_next old mid new so_far time others = record {
    run = goes_on moment left_since old mid new (Elsewhere place (may_leave old)) (may_leave new) so_far.run time
        (λ files image q other. so_far.others q (files q) other (others q (files q) other (image q)));
    others = λ q file other left. so_far.others q file other (others q file other left);
  }

  pub alone_join : (old mid new : D) → Alone old mid → LeavesOnly moment left_since mid new (Elsewhere place (may_leave mid)) → LeavesOthers place (may_leave mid) (may_leave new) → Alone old new
  alone_join old mid new so_far run others = record {
    run = joins moment left_since old mid new (Elsewhere place (may_leave old)) (Elsewhere place (may_leave mid)) so_far.run run
        (λ files image q other. so_far.others q (files q) other (image q other));
    others = λ q file other left. so_far.others q file other (others q file other left);
  }
