use Rattle.cm_topo.proofs.keys.boundary_of.Goals as goal

pub returns-clause-read : goal.returns-clause-read
returns-clause-read c = (c.each_text_is_read.ensures.boundary c.args.text.now _).0 c.boundary_read.ensures.read
