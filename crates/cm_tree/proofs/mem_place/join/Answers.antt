use Rattle.std.proofs.Common.{◌≡◌, false, ◌∙◌, inr, sym}
use Rattle.std.proofs.lemmas.Result.{on_ok_weaker}
use Rattle.cm_tree.specs.declared.mem_file.MemFile.{MemFile}
use Rattle.cm_tree.specs.MemFolders.{is_kept_path}
use Rattle.cm_tree.specs.MemPlaces.{IsFileOf}
use Rattle.cm_tree.proofs.mem_place.join.Goals as goal

pub returns-clause-joined : goal.returns-clause-joined
returns-clause-joined c =
    let file : MemFile = record { path = c.in_ok-path.path; bytes = c.in_ok-bytes.bytes; later = c.in_ok-later.later } in
    let fresh : is_kept_path c.args.files.now.items c.args.pair.now.0.items ≡ false = sym (rw (c.deref.ensures.value, c.deref-2.ensures.value) at c.is_kept.ensures) ∙ c.if-is_kept.false in
    let of : IsFileOf c.args.later.now c.args.pair.now file = record {
      path = c.in_ok-path.ensures.items ∙ c.deref-3.ensures.value;
      bytes = c.in_ok-bytes.ensures.items ∙ c.deref-4.ensures.value;
      later_is = rw c.deref-5.ensures.value at c.in_ok-later.ensures;
    } in
    on_ok_weaker c.put.result (λ put. inr (fresh, (file, of, put))) c.put.ensures.put
