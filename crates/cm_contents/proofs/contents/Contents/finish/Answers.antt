use Rattle.std.proofs.Common.{◌≡◌, ◌-◌, List, sym, ◌∙◌, ap, subst, refl, length, arith}
use Rattle.std.specs.Prelude.{vec_capacity, option_map, filter, not, ◌==◌}
use Rattle.std.specs.BTreeMap.{get}
use Rattle.std.specs.Ordering.{nat_cmp}
use Rattle.cm_pkglib.specs.InMemory.{RowsInMemory}
use Rattle.cm_pkglib.specs.Rows.{Rows, after}
use Rattle.cm_pkglib.specs.declared.change.Change.TheVariants.{Done}
use Rattle.cm_state.specs.declared.row.VersionRow.{VersionRow}
use Rattle.cm_state.specs.declared.row.JobRow.{JobRow}
use Rattle.cm_state.specs.State.{State}
use Rattle.cm_state.specs.Changes.{Finished, changed}
use Rattle.cm_contents.specs.Contents.{InMemory, manifest_in_map, state_with, taken_with, AreTold, AreWanted}
use Rattle.cm_contents.proofs.Wanting.{next_apart, wanted_ended}
use Rattle.cm_contents.proofs.Keeping.{done_free, finished_with, told_finished, finished_fewer, memory_same, memory_kept, on_ok}
use Rattle.cm_contents.proofs.contents.Contents.finish.Goals as goal

pub apply-applied-requires : goal.apply-applied-requires
apply-applied-requires c = done_free (manifest_in_map c.self.inside.manifests) c.self.inside.rows.rows c.args.self.now.state c.args.job (ap (λ (m : InMemory). m.state) c.self.view_is) c.requires

pub invariant_of-self : goal.invariant_of-self
invariant_of-self c =
    let s = c.self.inside in
    let f = manifest_in_map s.manifests in
    let rows = s.rows.rows in
    let applied = on_ok c.apply-applied.result (c.apply-applied.ensures.opened_alone refl) c.apply-applied.ensures.ok in
    let moved : c.apply-applied.new.self.rows ≡ after (Done c.args.job) rows = ap (λ (r : RowsInMemory). r.rows) applied in
    let same_room : c.apply-applied.new.self.room ≡ s.rows.room - 0 = ap (λ (r : RowsInMemory). r.room) applied in
    let told = told_finished (state_with f rows) c.args.job s.versions.items s.jobs.items (vec_capacity s.versions) (vec_capacity c.put_finished.new.rows) c.take_told-told.result c.self.invariant.told c.take_told-told.ensures.found c.put_finished.ensures.capacity in
    let told_versions = subst (λ (vs : List VersionRow). AreTold (changed (Finished c.args.job) (state_with f rows)) vs (filter (λ (row : JobRow). not (row.job == c.args.job)) s.jobs.items) (vec_capacity c.put_finished.new.rows)) (sym c.put_finished.ensures.rows) told in
    let told_jobs = subst (λ (js : List JobRow). AreTold (changed (Finished c.args.job) (state_with f rows)) c.put_finished.new.rows.items js (vec_capacity c.put_finished.new.rows)) (sym c.take_told-told.ensures.rest) told_versions in
    let few = finished_fewer c.args.job s.versions.items c.put_finished.new.rows.items s.jobs.items c.take_told-told.new.jobs.items c.take_told-told.result c.take_told-told.ensures.found c.put_finished.ensures.rows c.take_told-told.ensures.rest in
    let apart = next_apart rows c.args.job (done_free f rows c.args.self.now.state c.args.job (ap (λ (m : InMemory). m.state) c.self.view_is) c.requires) c.jobs-unfinished.ensures.valid.below_next in
    record {
      told = subst (λ (s : State). AreTold s c.put_finished.new.rows.items c.take_told-told.new.jobs.items (vec_capacity c.put_finished.new.rows)) (sym (ap (λ (r : Rows). state_with f r) moved ∙ finished_with f rows c.args.job)) told_jobs;
      wanted = subst (λ (t : State). AreWanted (get nat_cmp c.drop_wants.new.wants) t (option_map (taken_with f) s.taken)) (sym (ap (λ (r : Rows). state_with f r) moved ∙ finished_with f rows c.args.job))
          (wanted_ended (get nat_cmp s.wants) (get nat_cmp c.drop_wants.new.wants) c.args.job c.drop_wants.ensures.others (state_with f rows) (changed (Finished c.args.job) (state_with f rows)) (option_map (taken_with f) s.taken) refl refl apart c.self.invariant.wanted);
      manifest_kept = c.self.invariant.manifest_kept;
      has_memory = memory_kept (option_map (taken_with f) s.taken) s.rows.room (length s.versions.items) (length s.jobs.items) (vec_capacity s.versions) (vec_capacity s.jobs)
          c.apply-applied.new.self.room (length c.put_finished.new.rows.items) (length c.take_told-told.new.jobs.items) (vec_capacity c.put_finished.new.rows) (vec_capacity c.take_told-told.new.jobs)
          (omega (arith, same_room)) few.0 few.1 c.put_finished.ensures.capacity (omega (arith, c.take_told-told.ensures.capacity)) c.self.invariant.has_memory;
    }

pub returns : goal.returns
returns c =
    let f = manifest_in_map c.self.inside.manifests in
    let rows = c.self.inside.rows.rows in
    let moved : c.apply-applied.new.self.rows ≡ after (Done c.args.job) rows = ap (λ (r : RowsInMemory). r.rows) (on_ok c.apply-applied.result (c.apply-applied.ensures.opened_alone refl) c.apply-applied.ensures.ok) in
    memory_same _ _ (ap (λ (r : Rows). state_with f r) moved ∙ finished_with f rows c.args.job ∙ ap (λ (m : InMemory). changed (Finished c.args.job) m.state) c.self.view_is) (ap (λ (m : InMemory). m.taken) c.self.view_is)
