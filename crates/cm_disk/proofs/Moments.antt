-- What a stop may leave, over several calls.
use Rattle.std.proofs.Common.{List, inl, inr, ⊎_elim, ℕ, arith}
use Rattle.cm_disk.specs.Disk.{File, Files, IsImage, Elapses, LeavesOnly}

module _ {D : Type 0} (moment : D → ℕ) (left_since : D → ℕ → Files → Type 0) where
  -- before the first call
  pub started : (old : D) (P : Files → Type 0) → ((files : Files) → left_since old (moment old) files → P files) → LeavesOnly moment left_since old old P
  started old P here = record { later = omega arith; each = here; before = λ t files le left. inl left }

  -- one call more, after which a stop leaves what has P
  pub goes_on : (old mid new : D) (P : Files → Type 0) (may_leave : List ℕ → File → Type 0) → LeavesOnly moment left_since old mid P → Elapses (moment mid) (moment new) (left_since mid) (left_since new) may_leave
      → ((files : Files) → IsImage may_leave files → P files) → LeavesOnly moment left_since old new P
  goes_on old mid new P may_leave so_far time here = record {
    later = omega (arith, so_far.later, time.later);
    each = λ files left. ⊎_elim (so_far.each files) (here files) (time.nothing_else (moment old) files so_far.later left);
    before = λ t files le left. ⊎_elim (so_far.before t files le) (λ now. inr (here files now)) (time.nothing_else t files (omega (arith, le, so_far.later)) left);
  }

  -- one run after another
  pub joins : (old mid new : D) (P Q : Files → Type 0) → LeavesOnly moment left_since old mid P → LeavesOnly moment left_since mid new Q → ((files : Files) → Q files → P files) → LeavesOnly moment left_since old new P
  joins old mid new P Q one two here = record {
    later = omega (arith, one.later, two.later);
    each = λ files left. ⊎_elim (one.each files) (here files) (two.before (moment old) files one.later left);
    before = λ t files le left. ⊎_elim (one.before t files le) (λ now. inr (here files now)) (two.before t files (omega (arith, le, one.later)) left);
  }

  -- the same, of a weaker property
  pub weaker : (old new : D) (P Q : Files → Type 0) → LeavesOnly moment left_since old new P → ((files : Files) → P files → Q files) → LeavesOnly moment left_since old new Q
  weaker old new P Q run here = record {
    later = run.later;
    each = λ files left. here files (run.each files left);
    before = λ t files le left. ⊎_elim (λ past. inl past) (λ now. inr (here files now)) (run.before t files le left);
  }

-- a call that takes no time and changes nothing
pub still : (n : ℕ) (since : ℕ → Files → Type 0) (may_leave : List ℕ → File → Type 0) → Elapses n n since since may_leave
still n since may_leave = record { later = omega arith; nothing_else = λ t files le left. inl left; keeps = λ t files le left. left }
