use Rattle.std.proofs.lemmas.Result.{IfOk-weaker}
use Rattle.cm_groups.proofs.Has.{rising_both}
use Rattle.cm_groups.proofs.current.looked_up.Goals as goal

pub returns : goal.returns
returns g c = IfOk-weaker c.joined.result _ _ (λ numbers all. rising_both _ _ _ _ numbers.items c.of.ensures.address c.of.ensures.site all) c.joined.ensures
