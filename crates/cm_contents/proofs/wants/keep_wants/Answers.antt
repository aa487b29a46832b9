use Rattle.std.proofs.Common.{ℕ, List, ap, subst, sym}
use Rattle.std.specs.Prelude.{Option}
use Rattle.std.specs.BTreeMap.{is_at}
use Rattle.std.specs.Map.{lookup}
use Rattle.std.specs.Ordering.{nat_cmp}
use Rattle.cm_contents.specs.declared.wants.Wants.{Wants}
use Rattle.cm_contents.specs.Wants.{HasHashes}
use Rattle.cm_contents.proofs.Wanting.{at_apart}
use Rattle.cm_contents.proofs.wants.keep_wants.Goals as goal

pub returns-in-Ok-clause-here : goal.returns-in-Ok-clause-here
returns-in-Ok-clause-here c = subst (λ (o : Option Wants). HasHashes o c.args.entries.now) (sym c.in-Ok.ensures.updates.1) c.in_ok-wanted.ensures

pub returns-in-Ok-clause-others : goal.returns-in-Ok-clause-others
returns-in-Ok-clause-others c other apart = c.in-Ok.ensures.updates.2 other (at_apart c.args.job other apart)

pub returns-clause-others : goal.returns-clause-others
returns-clause-others c other apart = ap (λ (es : List (ℕ × Wants)). lookup (is_at (nat_cmp other)) es) c.in-Err.ensures.err
