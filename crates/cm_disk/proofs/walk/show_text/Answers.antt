use Rattle.std.proofs.Common.{ℕ, ◌<◌, ◌≤◌, List, length, subst}
use Rattle.std.specs.Prelude.{slice_index}
use Rattle.cm_disk.proofs.walk.show_text.Goals as goal

pub returns : goal.returns
returns c = record {
  bytes = λ i. subst (λ (l : List ℕ). slice_index l i < 256) c.as_bytes-text.ensures.value (c.show_bytes.ensures i);
  few = subst (λ (l : List ℕ). length l ≤ 120) c.as_bytes-text.ensures.value c.as_bytes-text.ensures.few;
}
