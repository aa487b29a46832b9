use Rattle.std.proofs.Common.{ℕ, List, Result, Ok, Err, ap, subst, ◌∙◌, arith}
use Rattle.std.specs.Prelude.{IfOk}
use Rattle.cm_tree.specs.declared.entry.Entry.{Entry}
use Rattle.cm_tree.specs.declared.tree_fault.TreeFault.{TreeFault}
use Rattle.cm_tree.specs.Manifests.{Spells}
use Rattle.cm_tree.specs.Reading.{Gives, read_manifest}
use Rattle.cm_tree.proofs.Fields.{IsBytes}
use Rattle.cm_tree.proofs.Entries.{read_takes, read_again}
use Rattle.cm_tree.proofs.manifest.Manifest.decode.Goals as goal

is_found : (bytes : List ℕ) (r : Result (List Entry) TreeFault) → IsBytes bytes → Gives (λ manifest. manifest) r (read_manifest bytes) → IfOk r (λ manifest. Spells bytes manifest)
is_found bytes (Ok manifest) fits given = read_takes bytes manifest fits given
is_found bytes (Err e) fits given = tt

pub returns-clause-found : goal.returns-clause-found
returns-clause-found c = is_found c.args.bytes.now c.manifest_of.result (λ i. omega (arith, c.type_inv.bytes i)) c.manifest_of.ensures

pub returns-clause-only : goal.returns-clause-only
returns-clause-only c = λ entries spells. subst (λ f. Gives (λ manifest. manifest) c.manifest_of.result f) (ap read_manifest spells.spelled ∙ read_again entries spells.manifest) c.manifest_of.ensures
