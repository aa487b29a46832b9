use Rattle.std.proofs.Common.{ℕ, sym, ap, ◌∙◌, arith}
use Rattle.cm_net.specs.declared.entry.Entry.{Entry}
use Rattle.cm_net.proofs.Found.{segment_there, segment_before, segment_behind}
use Rattle.cm_net.proofs.segments.groups_at.Goals as goal

pub returns-in-Ok-clause-groups : goal.returns-in-Ok-clause-groups
returns-in-Ok-clause-groups g c =
    c.groups.ensures ∙ (ap (λ (entry : Entry ℕ). entry.groups.items) c.index-segments-place.is
    ∙ sym (segment_there c.args.segments.now c.args.address c.requires c.in-Ok.place c.index-segments-place.result c.in-Ok.ensures.within c.in-Ok.ensures.place))

pub returns-in-Err-eq0-clause-groups : goal.returns-in-Err-eq0-clause-groups
returns-in-Err-eq0-clause-groups g c =
    sym (segment_before c.args.segments.now c.args.address c.requires (rw c.in-Err-eq0.field-0-test at c.in-Err-eq0.ensures.place))

pub returns-in-Err-clause-groups : goal.returns-in-Err-clause-groups
returns-in-Err-clause-groups g c =
    c.groups-in-Err.ensures ∙ (ap (λ (entry : Entry ℕ). entry.groups.items) c.index-segments-place-in-Err.is
    ∙ sym (segment_behind c.args.segments.now c.args.address c.requires c.in-Err.place c.index-segments-place-in-Err.result (omega (arith, c.in-Err.place-test.1)) c.in-Err.ensures.within c.in-Err.ensures.place))
