use Rattle.std.proofs.Common.{◌≡◌, ℕ, List, true, sym, ◌∙◌, subst, arith}
use Rattle.std.specs.Prelude.{Option, Some, IfSome}
use Rattle.cm_disk.specs.Disk.{is_above, IsNext}
use Rattle.cm_disk.specs.Ranks.{Rises}
use Rattle.cm_disk.specs.Walks.{only_at}
use Rattle.cm_disk.proofs.Quiet.{quiet_next}
use Rattle.cm_disk.proofs.Rises.{above_above}
use Rattle.cm_disk.proofs.Walks.{rises_to, none_left, passes, none_behind, found}
use Rattle.cm_disk.proofs.walk.first_above.Goals as goal

pub returns-in_default-clause-least : goal.returns-in_default-clause-least
returns-in_default-clause-least g c x told =
    let now = c.loop-place.invariant in
    none_left g.F.Form.is_form x c.args.from c.loop-place.at (now.reached x told)
    (subst (λ (o : Option (List ℕ)). IsNext x (Some c.loop-place.at) o) c.in_default.is (c.in_ok-place.ensures.least x (now.same ∙ told)))

pub returns-in-Some-named-clause-least : goal.returns-in-Some-named-clause-least
returns-in-Some-named-clause-least g c x told =
    let now = c.loop-place.invariant in
    let next = subst (λ (o : Option (List ℕ)). IsNext x (Some c.loop-place.at) o) c.in-Some.is (c.in_ok-place.ensures.least x (now.same ∙ told)) in
    subst (λ (p : List ℕ). IsNext (only_at g.F.Form.is_form x) (Some c.args.from) (Some p)) (sym c.in-Some-named.ensures.place)
    (found g.F.Form.is_form x c.args.from c.loop-place.at c.in-Some.place (now.reached x told) next (sym c.in-Some-named.ensures.form))

pub returns-in-Some-named-clause-rises : goal.returns-in-Some-named-clause-rises
returns-in-Some-named-clause-rises g c =
    let now = c.loop-place.invariant in
    let above = subst (λ (o : Option (List ℕ)). IfSome o (λ (p : List ℕ). is_above (Some c.loop-place.at) p ≡ true)) c.in-Some.is c.in_ok-place.ensures.above in
    let up = rises_to c.loop-place.at c.in-Some.place now.text c.show_text-in-loop-place.ensures above in
    let from_start : Rises c.args.from c.in-Some.place = record { above = now.above c.in-Some.place up.above; nearer = omega (arith, up.nearer, now.near) } in
    subst (λ (p : List ℕ). Rises c.args.from p) (sym c.in-Some-named.ensures.place) from_start

pub returns-then-is_past-clause-least : goal.returns-then-is_past-clause-least
returns-then-is_past-clause-least g c x told =
    let now = c.loop-place.invariant in
    let next = subst (λ (o : Option (List ℕ)). IsNext x (Some c.loop-place.at) o) c.in-Some.is (c.in_ok-place.ensures.least x (now.same ∙ told)) in
    none_behind g.F.Form.is_form x c.args.from c.in-Some.place
    (passes g.F.Form.is_form x c.args.from c.loop-place.at c.in-Some.place (now.reached x told) next (sym c.in_default-named.ensures.form))
    (c.is_past.ensures c.if-is_past.true)

pub loop-place-smaller : goal.loop-place-smaller
loop-place-smaller g c =
    let above = subst (λ (o : Option (List ℕ)). IfSome o (λ (p : List ℕ). is_above (Some c.loop-place.at) p ≡ true)) c.in-Some.is c.in_ok-place.ensures.above in
    (rises_to c.loop-place.at c.in-Some.place c.loop-place.invariant.text c.show_text-in-loop-place.ensures above).nearer

pub loop-place-preserved : goal.loop-place-preserved
loop-place-preserved g c =
    let d = g.D.Disk in
    let now = c.loop-place.invariant in
    let above = subst (λ (o : Option (List ℕ)). IfSome o (λ (p : List ℕ). is_above (Some c.loop-place.at) p ≡ true)) c.in-Some.is c.in_ok-place.ensures.above in
    let up = rises_to c.loop-place.at c.in-Some.place now.text c.show_text-in-loop-place.ensures above in
    record {
      quiet = quiet_next d.may_leave d.moment d.left_since c.args.disk.now c.loop-place.disk c.next_place.new.self now.quiet c.next_place.ensures.time c.next_place.ensures.stop;
      same = c.next_place.ensures.same ∙ now.same;
      later = omega (arith, now.later, c.next_place.ensures.cause.later);
      text = c.show_text-in-loop-place.ensures;
      near = omega (arith, up.nearer, now.near);
      above = λ q a. now.above q (above_above c.loop-place.at c.in-Some.place q up.above a);
      reached = λ x told.
          passes g.F.Form.is_form x c.args.from c.loop-place.at c.in-Some.place (now.reached x told)
          (subst (λ (o : Option (List ℕ)). IsNext x (Some c.loop-place.at) o) c.in-Some.is (c.in_ok-place.ensures.least x (now.same ∙ told)))
          (sym c.in_default-named.ensures.form);
    }
