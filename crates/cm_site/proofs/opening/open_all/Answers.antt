use Rattle.std.proofs.Common.{rules, ◌≡◌, List, [], ◌∷◌, ◌++◌, sym, ◌∙◌, ap, subst}
use Rattle.std.specs.Prelude.{drop}
use Rattle.std.specs.List.{AllByRecursion}
use Rattle.cm_site.specs.Opened.{IsOpenAs, bay_from, bays_from, bays_now}
use Rattle.cm_site.specs.declared.bay.Bay.{Bay}
use Rattle.cm_site.specs.declared.member.Member.{Member}
use Rattle.cm_site.proofs.Rows.{bays_more, each_more, front, joined}
use Rattle.cm_site.proofs.opening.open_all.Goals as goal

pub returns-in-Err-clause-stopped : goal.returns-in-Err-clause-stopped
returns-in-Err-clause-stopped g c =
    let so_far = c.loop-bay.invariant in
    let members = c.loop-bay.members.items in
    let why = c.in-Err.ensures in
    let first = front c.loop-bay.rest.items c.remove.result (search rules) c.remove.ensures.value in
    let rest = drop 1 c.loop-bay.rest.items in
    record {
      members = members;
      each = so_far.each;
      bay = c.remove.result;
      now = c.in-Err.bay;
      rest = rest;
      named = why.name;
      left = why.left;
      fault = why.fault;
      before = sym so_far.items ∙ ap (λ (r : List (Bay g.row.D.Denot)). bays_from members ++ r) first;
      after = c.put_all.ensures
          ∙ (ap (λ (r : List (Bay g.row.D.Denot)). c.push_reserved-in-Err.new.self.items ++ r) c.remove.ensures.items
          ∙ (ap (λ (r : List (Bay g.row.D.Denot)). r ++ rest) (c.push_reserved-in-Err.ensures.items ∙ ap (λ (r : List (Bay g.row.D.Denot)). r ++ c.in-Err.bay ∷ []) (c.close_all-closed.ensures.items ∙ ap (λ (r : List (Bay g.row.D.Denot)). r ++ bays_now members) c.requires.empty))
          ∙ joined (bays_now members) c.in-Err.bay rest));
    }

pub loop-bay-preserved : goal.loop-bay-preserved
loop-bay-preserved g c =
    let so_far = c.loop-bay.invariant in
    let members = c.loop-bay.members.items in
    let d = g.D.Disk in
    let first = front c.loop-bay.rest.items c.remove.result (search rules) c.remove.ensures.value in
    record {
      left = search rules;
      fits = search rules;
      room = search rules;
      items =
          ap (λ (ms : List (Member g.row.D.Denot)). bays_from ms ++ c.remove.new.self.items) c.push_reserved.ensures.items
          ∙ (ap (λ (r : List (Bay g.row.D.Denot)). bays_from (members ++ c.in-Ok.member ∷ []) ++ r) c.remove.ensures.items
          ∙ (bays_more members c.in-Ok.member (drop 1 c.loop-bay.rest.items)
          ∙ (ap (λ (b : Bay g.row.D.Denot). bays_from members ++ b ∷ drop 1 c.loop-bay.rest.items) c.in-Ok.ensures.start
          ∙ (ap (λ (r : List (Bay g.row.D.Denot)). bays_from members ++ r) (sym first) ∙ so_far.items))));
      each = subst (λ (ms : List (Member g.row.D.Denot)). AllByRecursion (λ (member : Member g.row.D.Denot). IsOpenAs d.reads d.may_leave d.moment d.left_since d.faults member.name member.hold) ms) (sym c.push_reserved.ensures.items)
          (each_more (λ (member : Member g.row.D.Denot). IsOpenAs d.reads d.may_leave d.moment d.left_since d.faults member.name member.hold) members c.in-Ok.member so_far.each c.in-Ok.ensures.opened);
    }
