use Rattle.std.proofs.Common.{ℕ, List, true, cond, sym, ap, ◌∙◌, map}
use Rattle.cm_tree.specs.Paths.{folded_path, has_path, is_same}
use Rattle.cm_tree.proofs.Folding.{has_folded-push}
use Rattle.cm_tree.proofs.taken.Taken.take.Goals as goal

pub returns-clause-more : goal.returns-clause-more
returns-clause-more c paths has fresh = record {
  same = λ q.
      c.in_ok-insert.ensures.updates.0 q
      ∙ (ap (λ b. cond (is_same c.folded.result q) true b) (has.same q)
      ∙ (ap (λ (key : List ℕ). cond (is_same key q) true (has_path (map folded_path paths) q)) c.folded.ensures
      ∙ sym (has_folded-push paths c.args.path.now q)));
}
