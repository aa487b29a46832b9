use Rattle.std.proofs.Common.{◌≡◌, ℕ, ◌-◌, ◌∙◌, sym, ap, arith, Option, drop}
use Rattle.std.specs.List.{position_from}
use Rattle.std.proofs.lemmas.Iterator.Adapters.{position_from-zero}
use Rattle.cm_groups.proofs.Places.{added}
use Rattle.cm_groups.proofs.names.places_of.Goals as goal

pub loop-i-preserved : goal.loop-i-preserved
loop-i-preserved g c = λ name.
    added g.K.PartialEq.eq g.K.Ord.cmp g.met.K.Ord.matches_eq c.args.names.now (c.loop-i.i - 1) c.loop-i.i c.index-names-i.result name _ _ (omega arith) (omega arith) c.index-names-i.is (c.loop-i.invariant name) (c.in_ok-insert.ensures.updates.0 name)

pub returns : goal.returns
returns g c = λ name.
    let at : ℕ → Option ℕ = λ i. position_from (λ other. g.K.PartialEq.eq other name) i (drop i c.args.names.now) in
    let zero : c.loop-i.i ≡ 0 = omega arith in
    c.loop-i.invariant name ∙ (ap at zero ∙ sym (position_from-zero (λ other. g.K.PartialEq.eq other name) c.args.names.now))
