use Rattle.cm_state.proofs.Purges.{firm_opens, firm_stands}
use Rattle.cm_state.proofs.laws.clearing_keeps_what_opens.Goals as goal

pub returns-clause-opens : goal.returns-clause-opens
returns-clause-opens c state files now clears opens = firm_opens state files now clears.kept opens

pub returns-clause-stands : goal.returns-clause-stands
returns-clause-stands c state files now clears stands = firm_stands state files now clears.kept stands
