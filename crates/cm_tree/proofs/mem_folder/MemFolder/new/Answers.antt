use Rattle.std.proofs.Common.{◌≡◌, [], List, take, sym, ap, ◌∙◌, subst}
use Rattle.std.proofs.lemmas.List.{take_all}
use Rattle.cm_tree.specs.declared.mem_file.MemFile.{MemFile}
use Rattle.cm_tree.specs.Paths.{is_rising}
use Rattle.cm_tree.specs.MemFolders.{Pair, kept_paths}
use Rattle.cm_tree.proofs.Kept.{AreOf, none_of, joined_of, made_of, take_next}
use Rattle.cm_tree.proofs.mem_folder.MemFolder.new.Goals as goal

pub loop-pair-init : goal.loop-pair-init
loop-pair-init c = record {
  rising = ap (λ (fs : List MemFile). is_rising (kept_paths fs)) c.new-kept.ensures.items;
  are = subst (λ (fs : List MemFile). AreOf [] c.args.later.items fs) (sym c.new-kept.ensures.items) (none_of c.args.later.items);
}

pub loop-pair-preserved : goal.loop-pair-preserved
loop-pair-preserved c =
    let pairs : List Pair = c.deref-pair-items.result.now in
    let more = joined_of (take c.loop-pair.pair-index pairs) c.args.later.items c.pair-item.result c.loop-pair.kept.items c.join.new.files.items c.loop-pair.invariant.are
    (rw c.deref.ensures.value at c.in_ok-join.ensures.joined) in
    record {
      rising = c.in_ok-join.ensures.rising;
      are = subst (λ (ps : List Pair). AreOf ps c.args.later.items c.join.new.files.items) (sym (take_next pairs c.loop-pair.pair-index c.pair-item.result c.loop-pair-test.true c.pair-item.is)) more;
    }

pub returns-clause-files : goal.returns-clause-files
returns-clause-files c =
    let pairs : List Pair = c.deref-pair-items.result.now in
    let all : take c.loop-pair.pair-index pairs ≡ c.args.files.items = take_all c.loop-pair.pair-index pairs c.loop-pair-test.false ∙ c.deref-pair-items.ensures.value in
    made_of c.args.files.items c.args.later.items c.loop-pair.kept.items (subst (λ (ps : List Pair). AreOf ps c.args.later.items c.loop-pair.kept.items) all c.loop-pair.invariant.are)
