use Rattle.std.proofs.Common.{sym, ◌∙◌}
use Rattle.std.specs.BTreeMap.{get}
use Rattle.cm_pkglib.specs.Counts.{hash_cmp}
use Rattle.cm_contents.proofs.Wanted.{none_there, one_wanted}
use Rattle.cm_contents.proofs.wants.Wants.add.Goals as goal

pub returns-in_ok-insert : goal.returns-in_ok-insert
returns-in_ok-insert c hash = one_wanted (λ h. get hash_cmp c.args.self.now.sizes h) c.args.entry.now hash _ (sym c.size.ensures ∙ none_there c.size.result c.if-is_none.ensures) (c.in_ok-insert.ensures.updates.0 hash)
