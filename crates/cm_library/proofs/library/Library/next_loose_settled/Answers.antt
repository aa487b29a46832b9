use Rattle.std.proofs.Common.{◌≡◌, ◌<◌, true, List, ℕ, subst, arith}
use Rattle.std.specs.Prelude.{Option, Some, IfSome}
use Rattle.cm_disk.specs.Disk.{IsNext, is_above}
use Rattle.cm_disk.specs.Ranks.{ahead}
use Rattle.cm_log.proofs.Frames.{only_then}
use Rattle.cm_library.specs.Purging.{in_store}
use Rattle.cm_library.proofs.AllSteps.{tells_none, tells_some, passed}
use Rattle.cm_library.proofs.Stepping.{keeps_then}
use Rattle.cm_library.proofs.Walked.{above_option}
use Rattle.cm_library.proofs.library.Library.next_loose_settled.Goals as goal

pub returns-in_default-clause-tells : goal.returns-in_default-clause-tells
returns-in_default-clause-tells g c =
    let here = c.places.invariant in
    let from = c.places.from in
    tells_none c.args.after from c.args.self.now c.places.self c.next_in_store.new.self here.all here.only c.next_in_store.ensures.all c.next_in_store.ensures.only here.reached
    (λ x told. subst (λ (o : Option (List ℕ)). IsNext (in_store x) from o) c.in_default.is (c.in-Ok.ensures.least x told))

pub returns-then-is_loose-clause-tells : goal.returns-then-is_loose-clause-tells
returns-then-is_loose-clause-tells g c =
    let here = c.places.invariant in
    let from = c.places.from in
    tells_some c.args.after from c.args.self.now c.places.self c.next_in_store.new.self here.all here.only c.next_in_store.ensures.all c.next_in_store.ensures.only here.reached c.in-Some.at
    (λ x told. subst (λ (o : Option (List ℕ)). IsNext (in_store x) from o) c.in-Some.is (c.in-Ok.ensures.least x told))
    here.above here.near
    (subst (λ (o : Option (List ℕ)). IfSome o (λ at. is_above from at ≡ true)) c.in-Some.is c.in-Ok.ensures.above)
    (subst (λ (o : Option (List ℕ)). IfSome o (λ at. ahead (Some at) < ahead from)) c.in-Some.is c.in-Ok.ensures.nearer)
    c.if-is_loose.ensures

pub returns-then-is_loose-clause-only : goal.returns-then-is_loose-clause-only
returns-then-is_loose-clause-only g c = only_then c.places.invariant.only c.next_in_store.ensures.only

pub places-preserved : goal.places-preserved
places-preserved g c =
    let here = c.places.invariant in
    let from = c.places.from in
    let at = c.in-Some.at in
    let above = subst (λ (o : Option (List ℕ)). IfSome o (λ at. is_above from at ≡ true)) c.in-Some.is c.in-Ok.ensures.above in
    let nearer = subst (λ (o : Option (List ℕ)). IfSome o (λ at. ahead (Some at) < ahead from)) c.in-Some.is c.in-Ok.ensures.nearer in
    record {
      all = keeps_then c.args.self.now c.places.self c.next_in_store.new.self here.all c.next_in_store.ensures.all;
      only = only_then here.only c.next_in_store.ensures.only;
      near = omega (arith, here.near, nearer);
      above = λ q a. here.above q (above_option from at q above a);
      reached = passed c.args.after from c.args.self.now c.places.self c.next_in_store.new.self here.all here.only c.next_in_store.ensures.all c.next_in_store.ensures.only here.reached at
          (λ x told. subst (λ (o : Option (List ℕ)). IsNext (in_store x) from o) c.in-Some.is (c.in-Ok.ensures.least x told)) c.if-is_loose.ensures;
    }
