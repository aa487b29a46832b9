use Rattle.std.proofs.Common.{ℕ, Bool, leb, rules, tests}
use Rattle.std.proofs.lemmas.Iterator.{items_from_collect, YieldsList-from_map}
use Rattle.std.proofs.lemmas.Iterator.Consumers.{YieldsList-at, YieldsList-from_filter, YieldsList-from_rest}
use Rattle.std.proofs.lemmas.Result.{IfOk-weaker}
use Rattle.cm_net.proofs.Reach.{are_reaching}
use Rattle.cm_net.proofs.reaches.groups_reaching.Goals as goal

pub returns : goal.returns
returns c =
    let far : ℕ × ℕ → Bool = λ e. leb c.args.address e.1 in
    let road = YieldsList-from_rest c.args.reaches.now.entries c.iter.ensures.rest in
    let filtered = YieldsList-from_filter _ far (YieldsList-at c.filter.ensures.source road) c.filter.ensures.closure (λ x r q k. search (rules, tests)) in
    let mapped = YieldsList-from_map _ (λ (e : ℕ × ℕ). e.0) (YieldsList-at c.map.ensures.source filtered) c.map.ensures.closure (λ x r q k. search (rules, tests)) in
    IfOk-weaker c.collect.result _ _ (λ groups is. are_reaching c.args.reaches.now c.args.address groups.items c.iter.ensures.ordered is) (items_from_collect _ c.collect.ensures.ran mapped)
