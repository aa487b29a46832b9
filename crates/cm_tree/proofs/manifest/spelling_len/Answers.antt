use Rattle.cm_tree.proofs.Entries.{is_entry_at}
use Rattle.cm_tree.proofs.manifest.spelling_len.Goals as goal

pub entry_len-total-requires : goal.entry_len-total-requires
entry_len-total-requires c = rw c.entry-item.is (is_entry_at c.args.entries.now c.requires c.loop-entry.entry-index _ c.loop-entry-test.true)
