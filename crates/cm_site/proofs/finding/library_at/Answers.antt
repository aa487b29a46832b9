use Rattle.std.proofs.Common.{rules, List, slice_index_or, sym, ◌∙◌}
use Rattle.std.proofs.lemmas.Slice.Eq.{bytes_eq-Decides}
use Rattle.cm_site.proofs.Others.{found_at, none_left, none_records, others_more}
use Rattle.cm_site.proofs.finding.library_at.Goals as goal

pub loop-at-init : goal.loop-at-init
loop-at-init g c = tt

pub returns-in-Library-clause-found : goal.returns-in-Library-clause-found
returns-in-Library-clause-found g c =
    let members = c.args.members.now in
    let name = (slice_index_or members c.loop-at.at c.index-members-at.result).name in
    found_at c.args.bay c.loop-at.at members c.index-members-at.result c.index-members-at-then-eq.result c.in-Library.field-0 c.loop-at.invariant (search rules)
    ((bytes_eq-Decides name c.args.bay).0 (sym c.eq.ensures ∙ c.if-eq.true)) c.in-Library.is

pub returns-in-Records-clause-none : goal.returns-in-Records-clause-none
returns-in-Records-clause-none g c = λ is.
    let members = c.args.members.now in
    let name = (slice_index_or members c.loop-at.at c.index-members-at.result).name in
    none_records c.args.bay c.loop-at.at members c.index-members-at.result c.index-members-at-then-eq.result c.in-Records.field-0 c.loop-at.invariant (search rules)
    ((bytes_eq-Decides name c.args.bay).0 (sym c.eq.ensures ∙ c.if-eq.true)) c.in-Records.is

pub loop-at-preserved : goal.loop-at-preserved
loop-at-preserved g c = others_more c.args.bay c.loop-at.at c.args.members.now c.index-members-at.result c.loop-at.invariant (sym c.eq.ensures ∙ c.if-eq.false)

pub returns-clause-none : goal.returns-clause-none
returns-clause-none g c = λ is. none_left c.args.bay c.loop-at.at c.args.members.now (search rules) c.loop-at.invariant
