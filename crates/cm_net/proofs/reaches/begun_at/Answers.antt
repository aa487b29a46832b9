use Rattle.std.proofs.Common.{ℕ, ◌+◌, ◌≤◌, Option, cond, get_or, sym, ap, ◌∙◌, arith, take, drop, length, List, ◌<◌}
use Rattle.std.specs.Prelude.{nat_eq}
use Rattle.std.proofs.lemmas.List.{take_more, get_or-drop, length-drop}
use Rattle.std.proofs.lemmas.List.Elements.{All-more, All-from_get_or}
use Rattle.cm_net.specs.declared.span.Span.{Span}
use Rattle.cm_net.specs.Spans.{farther}
use Rattle.cm_net.proofs.Reach.{reach_of-push}
use Rattle.cm_net.proofs.reaches.begun_at.Goals as goal

abbrev blank : Span
blank = record { first = 0; last = 0; group = 0 }

-- a place among the rest is one among all
below_drop : (xs : List Span) (n k : ℕ) → k < length (drop n xs) → n + k < length xs
below_drop xs n k below = omega (arith, rw (length-drop n xs) at below)

pub loop-begun-preserved : goal.loop-begun-preserved
loop-begun-preserved c = (
  omega arith,
  All-more (λ (s : Span). s.first ≤ c.args.address) c.args.spans.now c.loop-begun.begun blank c.loop-begun-test.true c.loop-begun.invariant.1 c.if-spans-begun.true,
  (λ group.
      let span : Span = get_or c.args.spans.now c.loop-begun.begun blank in
      rw (take_more c.args.spans.now c.loop-begun.begun blank c.loop-begun-test.true)
      (c.in_ok-reach_to.ensures group
      ∙ (ap (λ (reach : Option ℕ). cond (nat_eq group span.group) (farther reach span.last) reach) (c.loop-begun.invariant.2 group)
      ∙ sym (reach_of-push (take c.loop-begun.begun c.args.spans.now) span group)))),
)

pub returns-else-spans-begun-clause-ahead : goal.returns-else-spans-begun-clause-ahead
returns-else-spans-begun-clause-ahead c =
    All-from_get_or (λ (s : Span). c.args.address < s.first) (drop c.loop-begun.begun c.args.spans.now) blank
    (λ k below. rw (get_or-drop c.loop-begun.begun c.args.spans.now k blank)
    (let order = c.requires.order c.loop-begun.begun (c.loop-begun.begun + k) blank (omega arith) (below_drop c.args.spans.now c.loop-begun.begun k below) in
    omega (arith, order, c.if-spans-begun.false)))
