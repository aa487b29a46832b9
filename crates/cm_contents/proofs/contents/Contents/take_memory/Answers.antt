use Rattle.std.proofs.Common.{◌∙◌, ap, sym, subst, refl, length}
use Rattle.std.specs.Prelude.{vec_capacity, Option, Some, option_map}
use Rattle.std.specs.List.{AllByRecursion}
use Rattle.std.specs.BTreeMap.{get}
use Rattle.std.specs.Ordering.{nat_cmp}
use Rattle.cm_pkglib.specs.Rows.{Rows}
use Rattle.cm_state.specs.State.{State, held_of}
use Rattle.cm_contents.specs.declared.wants.Wants.{Wants}
use Rattle.cm_contents.specs.Contents.{InMemory, manifest_in_map, state_with, taken_with, HasWants}
use Rattle.cm_contents.specs.Wants.{HasHashes}
use Rattle.cm_contents.proofs.Keeping.{same_manifests, opened_free, state_other, told_grown, memory_same, after_err}
use Rattle.cm_contents.proofs.Wanting.{wants_kept}
use Rattle.cm_contents.proofs.contents.Contents.take_memory.Goals as goal

pub invariant_of-self : goal.invariant_of-self
invariant_of-self c =
    let s = c.self.inside in
    let f = manifest_in_map s.manifests in
    record {
      told = c.self.invariant.told;
      wanted = record {
        by_jobs = wants_kept (get nat_cmp s.wants) (get nat_cmp c.keep_wants.new.wants) c.next-job.result c.keep_wants.ensures.others f s.rows.rows (option_map (taken_with f) s.taken)
            c.next-job.ensures c.jobs-unfinished.ensures.valid.below_next c.self.invariant.wanted;
        by_next = tt;
      };
      manifest_kept = refl;
      has_memory = tt;
    }

pub returns-in_err-keep_wants-clause-memory : goal.returns-in_err-keep_wants-clause-memory
returns-in_err-keep_wants-clause-memory c = after_err c.from_residual.result (memory_same _ _ (ap (λ (m : InMemory). m.state) c.self.view_is) refl)

pub invariant_of-self-in_err-take_room : goal.invariant_of-self-in_err-take_room
invariant_of-self-in_err-take_room c =
    let s = c.self.inside in
    let f = manifest_in_map s.manifests in
    let g = manifest_in_map c.take_room.new.manifests in
    let same = ap (λ (r : Rows). state_with g r) c.take_room.ensures.rows ∙ same_manifests f g s.rows.rows c.in_err-take_room.ensures.same in
    record {
      told = told_grown (state_with f s.rows.rows) (state_with g c.take_room.new.rows.rows) s.versions.items c.take_room.new.versions.items s.jobs.items c.take_room.new.jobs.items (vec_capacity s.versions) (vec_capacity c.take_room.new.versions)
          c.self.invariant.told same c.take_room.ensures.versions c.take_room.ensures.jobs c.take_room.ensures.versions_capacity;
      wanted = record {
        by_jobs = subst (λ (t : State). AllByRecursion (HasWants (get nat_cmp c.keep_wants.new.wants)) t.jobs) (sym same)
            (wants_kept (get nat_cmp s.wants) (get nat_cmp c.keep_wants.new.wants) c.next-job.result c.keep_wants.ensures.others f s.rows.rows (option_map (taken_with f) s.taken)
            c.next-job.ensures c.jobs-unfinished.ensures.valid.below_next c.self.invariant.wanted);
        by_next = tt;
      };
      manifest_kept = refl;
      has_memory = tt;
    }

pub returns-in_err-take_room-clause-memory : goal.returns-in_err-take_room-clause-memory
returns-in_err-take_room-clause-memory c =
    let s = c.self.inside in
    let f = manifest_in_map s.manifests in
    let g = manifest_in_map c.take_room.new.manifests in
    after_err c.from_residual-in_err-take_room.result
    (memory_same _ _ (ap (λ (r : Rows). state_with g r) c.take_room.ensures.rows ∙ same_manifests f g s.rows.rows c.in_err-take_room.ensures.same ∙ ap (λ (m : InMemory). m.state) c.self.view_is) refl)

pub invariant_of-self-2 : goal.invariant_of-self-2
invariant_of-self-2 c =
    let s = c.self.inside in
    let f = manifest_in_map s.manifests in
    let g = manifest_in_map c.take_room.new.manifests in
    let rows = s.rows.rows in
    let wants = get nat_cmp c.keep_wants.new.wants in
    let free = opened_free f rows c.args.self.now.state rows.next c.args.package c.args.version (length c.args.manifest) (ap (λ (m : InMemory). m.state) c.self.view_is) refl c.requires in
    let same = ap (λ (r : Rows). state_with g r) c.take_room.ensures.rows ∙ state_other c.args.package c.args.version (length c.args.manifest) rows.next f g rows c.in_ok-take_room.ensures.put.others free in
    record {
      told = told_grown (state_with f rows) (state_with g c.take_room.new.rows.rows) s.versions.items c.take_room.new.versions.items s.jobs.items c.take_room.new.jobs.items (vec_capacity s.versions) (vec_capacity c.take_room.new.versions)
          c.self.invariant.told same c.take_room.ensures.versions c.take_room.ensures.jobs c.take_room.ensures.versions_capacity;
      wanted = record {
        by_jobs = subst (λ (t : State). AllByRecursion (HasWants wants) t.jobs) (sym same)
            (wants_kept (get nat_cmp s.wants) wants c.next-job.result c.keep_wants.ensures.others f rows (option_map (taken_with f) s.taken)
            c.next-job.ensures c.jobs-unfinished.ensures.valid.below_next c.self.invariant.wanted);
        by_next = subst (λ (o : Option Wants). HasHashes o (g c.args.package c.args.version)) (ap wants (c.next-job.ensures ∙ sym (ap (λ (r : Rows). r.next) c.take_room.ensures.rows)))
            (subst (HasHashes (wants c.next-job.result)) (c.entries.ensures.value ∙ sym c.in_ok-take_room.ensures.put.here) c.in_ok-keep_wants.ensures.here);
      };
      manifest_kept = c.in_ok-take_room.ensures.put.kept;
      has_memory = record { in_rows = c.in_ok-take_room.ensures.rows_room; in_versions = c.in_ok-take_room.ensures.versions_room; in_jobs = c.in_ok-take_room.ensures.jobs_room };
    }

pub returns-clause-ok : goal.returns-clause-ok
returns-clause-ok c =
    let s = c.self.inside in
    let f = manifest_in_map s.manifests in
    let g = manifest_in_map c.take_room.new.manifests in
    let rows = s.rows.rows in
    let free = opened_free f rows c.args.self.now.state rows.next c.args.package c.args.version (length c.args.manifest) (ap (λ (m : InMemory). m.state) c.self.view_is) refl c.requires in
    let same = state_other c.args.package c.args.version (length c.args.manifest) rows.next f g rows c.in_ok-take_room.ensures.put.others free in
    memory_same _ _
    (ap (λ (r : Rows). state_with g r) c.take_room.ensures.rows ∙ same ∙ ap (λ (m : InMemory). m.state) c.self.view_is)
    (ap (λ m. Some (held_of c.args.package c.args.version m)) c.in_ok-take_room.ensures.put.here)
