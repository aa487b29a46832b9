use Rattle.std.proofs.Common.{rules, refl, ◌∷◌, arith}
use Rattle.std.specs.List.{flat_map}
use Rattle.cm_net.specs.Groups.{IsRisingOf}
use Rattle.cm_net.specs.Spans.{turns_of_span}
use Rattle.cm_net.proofs.Reach.{reaching_rises}
use Rattle.cm_net.proofs.Turning.{all_keys_few, all_keys_rise, key_added, right_at_first, right_at_last, right_up_to_next, begun_up_to_next, begun_at_turn}
use Rattle.cm_net.proofs.segments.segments_of.Goals as goal

pub loop-start-init : goal.loop-start-init
loop-start-init c =
    let rising : IsRisingOf (0 ∷ flat_map turns_of_span c.args.spans.items) c.deref-start-items.result.now =
    rw (c.deref-start-items.ensures.value, ← c.deref.ensures.value) c.in_ok-turns.ensures.those in (
      rw c.new-segments.ensures.items refl,
      rw c.new-segments.ensures.items (right_at_first c.args.spans.items c.deref-start-items.result.now ((rising.same 0).1 (0, omega arith, refl))),
      omega arith,
      (λ k d below. absurd (omega (arith, below))),
      (λ group. search rules),
    )

pub begun_at-requires-clause-passed : goal.begun_at-requires-clause-passed
begun_at-requires-clause-passed c =
    rw c.deref-in-loop-start.ensures.value
    (begun_at_turn c.by_first-spans.result.items c.loop-start.begun c.deref-start-items.result.now c.loop-start.start-index _ refl c.loop-start-test.true c.loop-start.invariant.3)

pub loop-start-preserved : goal.loop-start-preserved
loop-start-preserved c =
    let rising : IsRisingOf (0 ∷ flat_map turns_of_span c.args.spans.items) c.deref-start-items.result.now =
    rw (c.deref-start-items.ensures.value, ← c.deref.ensures.value) c.in_ok-turns.ensures.those in
    let sorted = c.deref-in-loop-start.ensures.value in
    let passed = rw sorted at c.in_ok-begun.ensures.passed in
    let reaches = rw sorted at c.in_ok-begun.ensures.reaches in
    let groups =
    reaching_rises c.args.spans.items c.by_first-spans.result.items c.in_ok-begun.begun _ c.begun_at.new.reaches _
    c.by_first-spans.ensures.same passed (rw sorted at c.in_ok-begun.ensures.ahead) reaches c.in_ok-groups.ensures in
    let added = rw c.new.ensures at c.in_ok-push.ensures.items in (
      key_added c.deref-start-items.result.now c.loop-start.start-index c.loop-start.segments.items _ _ c.loop-start-test.true added refl c.loop-start.invariant.0,
      right_up_to_next c.args.spans.items c.deref-start-items.result.now c.loop-start.start-index c.loop-start.segments.items _ _
          rising c.loop-start-test.true refl added groups c.loop-start.invariant.1,
      rw sorted at c.in_ok-begun.ensures.there,
      begun_up_to_next c.by_first-spans.result.items c.in_ok-begun.begun c.deref-start-items.result.now c.loop-start.start-index _ rising.rising refl passed,
      reaches,
    )

pub returns : goal.returns
returns c =
    let turns = c.deref-start-items.result.now in
    let rising : IsRisingOf (0 ∷ flat_map turns_of_span c.args.spans.items) turns =
    rw (c.deref-start-items.ensures.value, ← c.deref.ensures.value) c.in_ok-turns.ensures.those in
    record {
      right = right_at_last c.args.spans.items turns c.loop-start.start-index c.loop-start.segments.items (omega arith) c.loop-start.invariant.1;
      order = all_keys_rise turns c.loop-start.start-index c.loop-start.segments.items (omega arith) rising.rising c.loop-start.invariant.0;
      few = all_keys_few turns c.loop-start.start-index _ c.loop-start.segments.items (omega arith) (rw (c.deref-start-items.ensures.value, ← c.deref.ensures.value) c.in_ok-turns.ensures.few) c.loop-start.invariant.0;
    }
