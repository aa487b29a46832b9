use Rattle.std.proofs.Common.{refl, sym, ◌∙◌, ap, Bool, List, length, eq-eqb}
use Rattle.std.specs.Prelude.{◌&&◌, Result, Err, cond}
use Rattle.std.specs.Str.{bytes_eq}
use Rattle.std.proofs.lemmas.Slice.Eq.{bytes_eq-Decides}
use Rattle.sha2.specs.Sha256.{sha256}
use Rattle.cm_tree.specs.declared.entry.Entry.{Entry}
use Rattle.cm_tree.specs.declared.tree_fault.TreeFault.{TreeFault}
use Rattle.cm_tree.specs.Manifests.{spelling}
use Rattle.cm_tree.specs.Reading.{read_manifest}
use Rattle.cm_tree.proofs.Entries.{read_again}
use Rattle.cm_datalib.specs.declared.faults.DataFault.TheVariants.{OtherBytes}
use Rattle.cm_datalib.specs.Loads.{as_data}
use Rattle.cm_datalib.proofs.laws.what_is_stored_is_loaded.Goals as goal

pub returns : goal.returns
returns c = λ manifest hash form named.
    let bytes = spelling manifest in
    let other = Err (OtherBytes hash (record { 0 = sha256 bytes }) (length bytes) (length bytes)) in
    ap (λ (b : Bool). cond (b && bytes_eq (sha256 bytes) hash.0) (as_data (read_manifest bytes)) other) (eq-eqb (length bytes) (length bytes) refl)
    ∙ ap (λ (b : Bool). cond b (as_data (read_manifest bytes)) other) ((bytes_eq-Decides (sha256 bytes) hash.0).1 (sym named))
    ∙ ap (λ (r : Result (List Entry) TreeFault). as_data r) (read_again manifest form)
