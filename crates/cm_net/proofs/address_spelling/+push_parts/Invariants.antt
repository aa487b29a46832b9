use Rattle.cm_net.proofs.address_spelling.+push_parts.Given as goal

abbrev pub decreases-push_parts : goal.decreases-push_parts
decreases-push_parts g l = l.count
