use Rattle.std.proofs.Common.{◌≡◌, true, List, ℕ, sym, ◌∙◌, subst, arith}
use Rattle.std.specs.Prelude.{Option, None, Some, IfSome}
use Rattle.cm_disk.specs.Disk.{is_above, IsNext}
use Rattle.cm_state.specs.Purged.{is_loose, loose}
use Rattle.cm_state.specs.State.{State}
use Rattle.cm_check.proofs.Listed.{ListedTo, none_listed, listed_more, listed_all, not_some}
use Rattle.cm_check.proofs.Resting.{rest_opens, then_opens}
use Rattle.cm_check.proofs.Told.{looks_itself, looks_then}
use Rattle.cm_check.proofs.listing.what_if.Goals as goal

pub places-init : goal.places-init
places-init g c =
    let d = g.D.Disk in
    let first = c.args.library.now in
    record {
      looks = looks_itself d.reads first;
      later = omega arith;
      opens = rest_opens d.reads d.may_leave d.moment d.left_since g.met.D.Disk.only_now first c.requires.settled c.tells.ensures.opens;
      listed = λ files told. subst (λ (l : List (List ℕ)). ListedTo (loose first.state files) None l) (sym c.new-list.ensures.items) (none_listed (loose first.state files));
    }

pub places-preserved : goal.places-preserved
places-preserved g c =
    let d = g.D.Disk in
    let i = c.places.invariant in
    let first = c.args.library.now in
    let now = c.places.library in
    let place = c.in-Some.place in
    let before = i.later in
    let later = c.next_loose.ensures.cause.later in
    let above = subst (λ (o : Option (List ℕ)). IfSome o (λ at. (is_above c.places.after at ≡ true) × (is_loose now.state at ≡ true))) c.in-Some.is c.in-Ok.ensures.above in
    record {
      looks = looks_then d.reads first now c.next_loose.new.library i.looks c.next_loose.ensures.looks;
      later = omega (arith, before, later);
      opens = then_opens d.reads d.may_leave d.moment d.left_since first now c.next_loose.new.library i.looks i.opens c.next_loose.ensures.opens;
      listed = λ files told.
          let next = subst (λ (o : Option (List ℕ)). IsNext (loose first.state files) c.places.after o) c.in-Some.is
          (subst (λ (s : State). IsNext (loose s files) c.places.after c.in-Ok.next) i.looks.rows.state (c.in-Ok.ensures.next files (i.looks.same ∙ told))) in
          subst (λ (l : List (List ℕ)). ListedTo (loose first.state files) (Some place) l) (sym c.in-Ok-push.ensures.items)
          (listed_more (loose first.state files) c.places.after c.places.list.items place (i.listed files told) above.0 next);
    }

pub returns-in-Err-clause-opens : goal.returns-in-Err-clause-opens
returns-in-Err-clause-opens g c =
    let d = g.D.Disk in
    let i = c.places.invariant in
    then_opens d.reads d.may_leave d.moment d.left_since c.args.library.now c.places.library c.next_loose.new.library i.looks i.opens c.next_loose.ensures.opens

pub returns-in-Err-push-clause-opens : goal.returns-in-Err-push-clause-opens
returns-in-Err-push-clause-opens g c =
    let d = g.D.Disk in
    let i = c.places.invariant in
    then_opens d.reads d.may_leave d.moment d.left_since c.args.library.now c.places.library c.next_loose.new.library i.looks i.opens c.next_loose.ensures.opens

pub returns-in_default-clause-opens : goal.returns-in_default-clause-opens
returns-in_default-clause-opens g c =
    let d = g.D.Disk in
    let i = c.places.invariant in
    then_opens d.reads d.may_leave d.moment d.left_since c.args.library.now c.places.library c.next_loose.new.library i.looks i.opens c.next_loose.ensures.opens

pub returns-in_default-clause-found : goal.returns-in_default-clause-found
returns-in_default-clause-found g c files told =
    let i = c.places.invariant in
    let first = c.args.library.now in
    listed_all (loose first.state files) c.places.after c.places.list.items (i.listed files told)
    (subst (λ (o : Option (List ℕ)). IsNext (loose first.state files) c.places.after o) (not_some c.in-Ok.next c.in_default.not-Some)
    (subst (λ (s : State). IsNext (loose s files) c.places.after c.in-Ok.next) i.looks.rows.state (c.in-Ok.ensures.next files (i.looks.same ∙ told))))
