-- Runs of calls of a library.
use Rattle.cm_state.specs.Changes.{apply}
use Rattle.cm_state.specs.Opens.{Opens}
use Rattle.cm_state.specs.Runs.{RunsArePrefixed}

-- Whatever calls, disk faults, crashes and openings follow one another, one list of committed changes has each acknowledged one, and
-- each image opens to the state after the changes that were committed before its call, or after these and that of its call.
abbrev pub EachImageIsPrefixed : Type 0
EachImageIsPrefixed = RunsArePrefixed apply Opens
