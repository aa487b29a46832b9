use Rattle.std.proofs.Common.{◌≡◌, ℕ, length}
use Rattle.std.specs.Prelude.{find, not, is_some}
use Rattle.cm_base.specs.declared.hash.Hash.{Hash}
use Rattle.cm_pkglib.specs.Counts.{sealed_of}
use Rattle.cm_contents.proofs.wants.next_unsealed.Given as goal

abbrev pub invariant-loop-hash : goal.invariant-loop-hash
invariant-loop-hash l = find (λ (e : Hash × ℕ). not (is_some (sealed_of l.counts e.0))) l.fn.kept ≡ find (λ (e : Hash × ℕ). not (is_some (sealed_of l.counts e.0))) l.kept

abbrev pub decreases-loop-hash : goal.decreases-loop-hash
decreases-loop-hash l = length l.kept
