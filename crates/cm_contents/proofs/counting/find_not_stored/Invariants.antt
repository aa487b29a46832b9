use Rattle.std.proofs.Common.{◌≡◌, drop}
use Rattle.std.specs.Prelude.{find, not}
use Rattle.cm_pkglib.specs.Counts.{sealed_of}
use Rattle.cm_tree.specs.declared.entry.Entry.{Entry}
use Rattle.cm_contents.specs.Seals.{is_stored}
use Rattle.cm_contents.proofs.counting.find_not_stored.Given as goal

abbrev pub invariant-loop-entry : goal.invariant-loop-entry
invariant-loop-entry l = find (λ (entry : Entry). not (is_stored (sealed_of l.counts) entry)) l.entries ≡ find (λ (entry : Entry). not (is_stored (sealed_of l.counts) entry)) (drop l.entry-index l.entries)
