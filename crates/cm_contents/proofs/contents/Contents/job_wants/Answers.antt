use Rattle.std.proofs.Common.{◌≡◌, List, sym, ◌∙◌, ap, subst}
use Rattle.std.specs.Prelude.{is_some, true, Option}
use Rattle.std.specs.BTreeMap.{get}
use Rattle.std.specs.Ordering.{nat_cmp}
use Rattle.cm_tree.specs.declared.entry.Entry.{Entry}
use Rattle.cm_state.specs.State.{held_by_job}
use Rattle.cm_contents.specs.declared.wants.Wants.{Wants}
use Rattle.cm_contents.specs.Contents.{InMemory}
use Rattle.cm_contents.specs.Seals.{job_manifest}
use Rattle.cm_contents.specs.Wants.{HasHashes, size_in}
use Rattle.cm_contents.proofs.Wanting.{wants_found, none_held}
use Rattle.cm_contents.proofs.contents.Contents.job_wants.Goals as goal

pub returns-then-not-is_unfinished : goal.returns-then-not-is_unfinished
returns-then-not-is_unfinished c hash =
    let none = none_held (held_by_job c.args.job c.args.self.now.state.jobs) (sym c.is_unfinished.ensures ∙ c.if-not-is_unfinished.true) in
    ap (λ (manifest : List Entry). size_in hash manifest) (sym none)

pub returns : goal.returns
returns c =
    let wants = get nat_cmp c.self.inside.wants in
    let found = wants_found wants c.args.job _ c.self.invariant.wanted.by_jobs in
    let there = sym c.is_unfinished.ensures ∙ c.if-not-is_unfinished.false in
    subst (λ (o : Option Wants). HasHashes o (job_manifest c.args.job c.args.self.now.state)) (sym c.get.ensures.value)
    (subst (λ (m : InMemory). is_some (held_by_job c.args.job m.state.jobs) ≡ true → HasHashes (wants c.args.job) (job_manifest c.args.job m.state)) c.self.view_is found there)
