use Rattle.std.proofs.Common.{◌≡◌, ◌≤◌, ℕ, List, length, [], sym, ◌∙◌, ap, subst, arith}
use Rattle.std.specs.Prelude.{None, sum_by}
use Rattle.std.specs.List.{AllByRecursion, flat_map}
use Rattle.cm_pkglib.specs.declared.row.PkgRow.{PkgRow}
use Rattle.cm_pkglib.specs.Counts.{count_of, sealed_of, times}
use Rattle.cm_tree.specs.declared.entry.Entry.{Entry}
use Rattle.cm_state.specs.State.{Held, State}
use Rattle.cm_state.proofs.Lists.{over_map}
use Rattle.cm_contents.specs.Contents.{InMemory, held_with, job_held_with, state_with, manifest_in_map}
use Rattle.cm_contents.specs.Seals.{IsSmall, IsCounted, found_seal, version_entries}
use Rattle.cm_contents.proofs.Counted.{sum_small, times_few, flat_named, named_with, entries_with, counted_with}
use Rattle.cm_contents.proofs.counting.count_all.Goals as goal

pub count_jobs-requires : goal.count_jobs-requires
count_jobs-requires c hash =
    let s = c.contents.inside in
    let f = manifest_in_map s.manifests in
    let none = c.new-counts.ensures.counts hash in
    let counted = c.in_ok-count_versions.ensures.counts hash in
    let most = sum_small (λ (row : PkgRow). times hash (f row.package row.version)) (λ (row : PkgRow). length (f row.package row.version)) (λ row. times_few hash (f row.package row.version)) c.versions-versions.result.now c.in_ok-count_versions.ensures.small in
    let few = c.versions-versions.ensures.valid.few_versions in
    let versions = ap length c.versions-versions.ensures.value in
    let jobs = ap length c.jobs.ensures.value in
    omega (arith, none, counted, most, few, versions, jobs)

pub seal_versions-requires : goal.seal_versions-requires
seal_versions-requires c =
    let f = manifest_in_map c.contents.inside.manifests in
    flat_named (λ (row : PkgRow). f row.package row.version) c.versions-versions.result.now (count_of c.count_jobs.new.counts)
    (λ hash. let a = c.in_ok-count_jobs.ensures.counts hash in let b = c.in_ok-count_versions.ensures.counts hash in omega (arith, a, b))

pub returns-clause-seals : goal.returns-clause-seals
returns-clause-seals c hash =
    let s = c.contents.inside in
    let f = manifest_in_map s.manifests in
    let rows = s.rows.rows in
    let none = c.count_jobs.ensures.seals hash ∙ c.count_versions.ensures.seals hash ∙ c.new-counts.ensures.seals hash in
    c.seal_versions.ensures.seals hash
    ∙ ap (λ seal. found_seal seal hash (flat_map (λ (row : PkgRow). f row.package row.version) c.versions-versions.result.now)) none
    ∙ ap (λ (rs : List PkgRow). found_seal None hash (flat_map (λ (row : PkgRow). f row.package row.version) rs)) c.versions-versions.ensures.value
    ∙ ap (λ (es : List Entry). found_seal None hash es) (sym (entries_with f rows))
    ∙ ap (λ (m : InMemory). found_seal None hash (version_entries m.state)) c.contents.view_is

pub returns-clause-counted : goal.returns-clause-counted
returns-clause-counted c =
    let s = c.contents.inside in
    let f = manifest_in_map s.manifests in
    let rows = s.rows.rows in
    let small : PkgRow → ℕ = λ row. length (f row.package row.version) in
    let is : state_with f rows ≡ c.args.contents.now.state = ap (λ (m : InMemory). m.state) c.contents.view_is in
    subst (λ (t : State). IsCounted c.seal_versions.new.counts t []) is
    (counted_with c.seal_versions.new.counts (state_with f rows)
    (λ hash.
    let sealed = c.seal_versions.ensures.counts hash in
    let jobs = c.in_ok-count_jobs.ensures.counts hash in
    let versions = c.in_ok-count_versions.ensures.counts hash in
    let none = c.new-counts.ensures.counts hash in
    let all = named_with f rows hash in
    let v = ap (λ (rs : List PkgRow). sum_by (λ (row : PkgRow). times hash (f row.package row.version)) rs) c.versions-versions.ensures.value in
    let j = ap (λ (js : List (ℕ × PkgRow)). sum_by (λ (job : ℕ × PkgRow). times hash (f job.1.package job.1.version)) js) c.jobs.ensures.value in
    omega (arith, sealed, jobs, versions, none, all, v, j))
    (over_map (held_with f) IsSmall rows.versions (subst (AllByRecursion (λ (row : PkgRow). small row ≤ 20000)) c.versions-versions.ensures.value c.in_ok-count_versions.ensures.small))
    (over_map (job_held_with f) (λ (job : ℕ × Held). IsSmall job.1) rows.jobs (subst (AllByRecursion (λ (job : ℕ × PkgRow). small job.1 ≤ 20000)) c.jobs.ensures.value c.in_ok-count_jobs.ensures.small))
    (λ hash. subst (λ (t : State). sealed_of c.seal_versions.new.counts hash ≡ found_seal None hash (version_entries t)) (sym is) (returns-clause-seals c hash))
    (c.sealed_are_named.ensures c.seal_versions.new.counts))
