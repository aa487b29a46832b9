use Rattle.std.proofs.Common.{ℕ, ◌+◌, List, length, ◌∙◌, ap}
use Rattle.cm_log.specs.Settled.{end_of}
use Rattle.cm_library.proofs.commits.add_record.Goals as goal

pub returns-in-Ok-clause-idle : goal.returns-in-Ok-clause-idle
returns-in-Ok-clause-idle g c = c.in-Ok.ensures.ok.idle

pub returns-in-Ok-clause-settled : goal.returns-in-Ok-clause-settled
returns-in-Ok-clause-settled g c x told = (c.in-Ok.ensures.stands x told).settled

pub returns-in-Ok-clause-end : goal.returns-in-Ok-clause-end
returns-in-Ok-clause-end g c = c.in-Ok.ensures.ok.end ∙ ap (λ (l : List ℕ). end_of c.args.log.now + 5 + length l) c.encode-count.ensures.bytes
