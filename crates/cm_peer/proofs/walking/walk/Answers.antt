-- One source more was asked.
use Rattle.std.proofs.Common.{◌≡◌, ℕ, ◌+◌, ◌<◌, [], ◌∷◌, ◌++◌, Some, length, take, arith, length-take-le}
use Rattle.cm_peer.specs.declared.sources.Refused.{Refused}
use Rattle.cm_peer.specs.Links.{WasAsked}
use Rattle.cm_peer.specs.Walks.{link_count, link_faults}
use Rattle.cm_peer.proofs.Walked.{IsWhy-same, IsSameTest-trans, AreRefused-append, WasAsked-append, take-more, link_count-append, RoseBy-add, OnErr-always}
use Rattle.cm_peer.proofs.walking.walk.Goals as goal

pub loop-number-preserved : goal.loop-number-preserved
loop-number-preserved g c =
    let gives = g.L.Link.gives in
    let asked = g.L.Link.asked in
    let faults = g.L.Link.faults in
    let first = c.args.link.now in
    let before = c.loop-number.link in
    let now = c.refusal_of.new.link in
    let seen = take c.loop-number.number c.args.sources.now in
    let source = c.index-sources-number.result in
    let refused : Refused = record { source = c.loop-number.number; why = c.in-Some.why } in
    let small : c.loop-number.number < length c.args.sources.now = omega arith in
    let more : take (c.loop-number.number + 1) c.args.sources.now ≡ seen ++ source ∷ [] = take-more _ _ _ small c.index-sources-number.is in
    let at : c.loop-number.number ≡ 0 + length seen = omega (arith, length-take-le c.loop-number.number c.args.sources.now (omega arith)) in
    let why = IsWhy-same (gives first) (gives before) c.args.want.now source c.in-Some.why c.loop-number.invariant.same c.in-Some.ensures.answer in
    record {
      refused = rw (more, c.in_ok-push-in-Some.ensures.items)
          (AreRefused-append (gives first) c.args.want.now 0 seen c.loop-number.refusals.items source refused c.loop-number.invariant.refused at why);
      many = omega (arith, c.in_ok-push-in-Some.ensures.len);
      same = IsSameTest-trans (gives first) (gives before) (gives now) c.loop-number.invariant.same c.refusal_of.ensures.same;
      asked = rw more (WasAsked-append (asked first) (asked before) (asked now) seen (source ∷ []) c.loop-number.invariant.asked c.refusal_of.ensures.asks);
      count = rw (c.in_ok-push-in-Some.ensures.items, link_count-append)
          (RoseBy-add (link_count c.loop-number.refusals.items) (link_faults (Some c.in-Some.why)) (faults first) (faults before) (faults now) c.loop-number.invariant.count c.in-Some.ensures.count);
      later = omega arith;
    }

pub returns-in_err-push-in-Some-clause-ended : goal.returns-in_err-push-in-Some-clause-ended
returns-in_err-push-in-Some-clause-ended g c =
    let asked = g.L.Link.asked in
    let first = c.args.link.now in
    let before = c.loop-number.link in
    let now = c.refusal_of.new.link in
    let seen = take c.loop-number.number c.args.sources.now in
    let source = c.index-sources-number.result in
    let small : c.loop-number.number < length c.args.sources.now = omega arith in
    let more : take (c.loop-number.number + 1) c.args.sources.now ≡ seen ++ source ∷ [] = take-more _ _ _ small c.index-sources-number.is in
    let asks : WasAsked (asked first) (asked now) (take (c.loop-number.number + 1) c.args.sources.now)
    = rw more (WasAsked-append (asked first) (asked before) (asked now) seen (source ∷ []) c.loop-number.invariant.asked c.refusal_of.ensures.asks) in
    let some : (many : ℕ) × WasAsked (asked first) (asked now) (take many c.args.sources.now) = (c.loop-number.number + 1, asks) in
    OnErr-always c.from_residual.result _ some
