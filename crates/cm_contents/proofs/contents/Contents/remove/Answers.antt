use Rattle.std.proofs.Common.{◌≡◌, ◌-◌, List, sym, ◌∙◌, ap, subst, refl, length, arith}
use Rattle.std.specs.Prelude.{vec_capacity, option_map}
use Rattle.std.specs.BTreeMap.{get}
use Rattle.std.specs.Ordering.{nat_cmp}
use Rattle.cm_pkglib.specs.InMemory.{RowsInMemory}
use Rattle.cm_pkglib.specs.Rows.{Rows, after}
use Rattle.cm_pkglib.specs.declared.change.Change.TheVariants.{Removed as RemovedRecord}
use Rattle.cm_state.specs.declared.row.VersionRow.{VersionRow}
use Rattle.cm_state.specs.State.{State}
use Rattle.cm_state.specs.Changes.{Removed, changed}
use Rattle.cm_contents.specs.Contents.{InMemory, manifest_in_map, state_with, taken_with, AreTold, AreWanted}
use Rattle.cm_contents.proofs.Keeping.{change_free, removed_with, told_removed, removed_fewer, memory_same, memory_kept, on_ok}
use Rattle.cm_contents.proofs.contents.Contents.remove.Goals as goal

pub apply-applied-requires : goal.apply-applied-requires
apply-applied-requires c = change_free (manifest_in_map c.self.inside.manifests) c.self.inside.rows.rows c.args.self.now.state (RemovedRecord c.args.package c.args.version) (ap (λ (m : InMemory). m.state) c.self.view_is) c.requires

pub invariant_of-self : goal.invariant_of-self
invariant_of-self c =
    let s = c.self.inside in
    let f = manifest_in_map s.manifests in
    let rows = s.rows.rows in
    let id = c.args.package in
    let version = c.args.version in
    let applied = on_ok c.apply-applied.result (c.apply-applied.ensures.opened_alone refl) c.apply-applied.ensures.ok in
    let moved : c.apply-applied.new.self.rows ≡ after (RemovedRecord id version) rows = ap (λ (r : RowsInMemory). r.rows) applied in
    let same_room : c.apply-applied.new.self.room ≡ s.rows.room - 0 = ap (λ (r : RowsInMemory). r.room) applied in
    let told = told_removed (state_with f rows) id version s.versions.items s.jobs.items (vec_capacity s.versions) (vec_capacity c.drop_told.new.rows) c.self.invariant.told (omega (arith, c.drop_told.ensures.capacity)) in
    let told_versions = subst (λ (vs : List VersionRow). AreTold (changed (Removed id version) (state_with f rows)) vs s.jobs.items (vec_capacity c.drop_told.new.rows)) (sym c.drop_told.ensures.rows) told in
    let few = removed_fewer id version s.versions.items c.drop_told.new.rows.items c.drop_told.ensures.rows in
    record {
      told = subst (λ (t : State). AreTold t c.drop_told.new.rows.items s.jobs.items (vec_capacity c.drop_told.new.rows)) (sym (ap (λ (r : Rows). state_with f r) moved ∙ removed_with f rows id version)) told_versions;
      wanted = subst (λ (t : State). AreWanted (get nat_cmp s.wants) t (option_map (taken_with f) s.taken)) (sym (ap (λ (r : Rows). state_with f r) moved ∙ removed_with f rows id version))
          (record { by_jobs = c.self.invariant.wanted.by_jobs; by_next = c.self.invariant.wanted.by_next });
      manifest_kept = c.self.invariant.manifest_kept;
      has_memory = memory_kept (option_map (taken_with f) s.taken) s.rows.room (length s.versions.items) (length s.jobs.items) (vec_capacity s.versions) (vec_capacity s.jobs)
          c.apply-applied.new.self.room (length c.drop_told.new.rows.items) (length s.jobs.items) (vec_capacity c.drop_told.new.rows) (vec_capacity s.jobs)
          (omega (arith, same_room)) (omega (arith, few)) (omega arith) (omega (arith, c.drop_told.ensures.capacity)) (omega arith) c.self.invariant.has_memory;
    }

pub returns : goal.returns
returns c =
    let f = manifest_in_map c.self.inside.manifests in
    let rows = c.self.inside.rows.rows in
    let id = c.args.package in
    let version = c.args.version in
    let moved : c.apply-applied.new.self.rows ≡ after (RemovedRecord id version) rows = ap (λ (r : RowsInMemory). r.rows) (on_ok c.apply-applied.result (c.apply-applied.ensures.opened_alone refl) c.apply-applied.ensures.ok) in
    memory_same _ _ (ap (λ (r : Rows). state_with f r) moved ∙ removed_with f rows id version ∙ ap (λ (m : InMemory). changed (Removed id version) m.state) c.self.view_is) (ap (λ (m : InMemory). m.taken) c.self.view_is)
