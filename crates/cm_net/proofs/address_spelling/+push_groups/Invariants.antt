use Rattle.cm_net.proofs.address_spelling.+push_groups.Given as goal

abbrev pub decreases-push_groups : goal.decreases-push_groups
decreases-push_groups g l = l.count
