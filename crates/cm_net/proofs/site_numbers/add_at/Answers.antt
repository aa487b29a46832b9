use Rattle.cm_net.proofs.Numbered.{numbered_more}
use Rattle.cm_net.proofs.site_numbers.add_at.Goals as goal

pub returns-clause-added : goal.returns-clause-added
returns-clause-added c = λ site number.
    numbered_more c.args.entries.now.items c.args.place c.args.name.now site c.index_mut.result.now c.push.new.self c.args.group number
    c.requires c.index_mut.ensures.value c.in_ok-push.ensures.items
