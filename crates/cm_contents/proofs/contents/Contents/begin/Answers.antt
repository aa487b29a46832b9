use Rattle.std.proofs.Common.{◌≡◌, ◌∙◌, ℕ, List, ◌∷◌, [], ◌++◌, ap, sym, subst, refl, length, arith}
use Rattle.std.specs.Prelude.{vec_capacity, Option, None, IfSome, option_map}
use Rattle.std.specs.BTreeMap.{get}
use Rattle.std.specs.Ordering.{nat_cmp}
use Rattle.cm_pkglib.specs.InMemory.{RowsInMemory}
use Rattle.cm_pkglib.specs.Rows.{opened_fault}
use Rattle.cm_pkglib.specs.declared.row.PkgRow.{PkgRow}
use Rattle.cm_pkglib.proofs.Halves.{ok_items}
use Rattle.cm_state.specs.declared.row.JobRow.{JobRow}
use Rattle.cm_state.specs.State.{Held, State, rows_of}
use Rattle.cm_state.specs.Changes.{Begun, changed}
use Rattle.cm_contents.specs.Contents.{InMemory, manifest_in_map, state_with, taken_with, AreTold, HasMemory, AreWanted}
use Rattle.cm_contents.specs.Wants.{HasHashes}
use Rattle.cm_contents.proofs.Wanting.{wanted_begun}
use Rattle.cm_contents.proofs.Keeping.{opened_free, taken_is, taken_row, taken_begun, told_taken, told_begun, memory_same, on_ok}
use Rattle.cm_contents.proofs.contents.Contents.begin.Goals as goal

pub apply-applied-requires : goal.apply-applied-requires
apply-applied-requires c =
    let s = c.self.inside in
    let f = manifest_in_map s.manifests in
    let m = c.args.self.now in
    let key = c.in-Some.key in
    let t = taken_is f s.rows.rows s.taken m key c.self.view_is c.in-Some.is in
    let free = subst (λ (o : Option Held). IfSome o (λ held. opened_fault (rows_of m.state) m.state.next held.row.package held.row.version held.row.entries ≡ None)) t c.requires.free in
    let named = subst (λ (o : Option Held). IfSome o (λ held. (c.args.size ≡ held.row.size) × (c.args.hash ≡ held.row.hash))) t c.requires.named in
    let row_is = taken_row f key c.row_for-row.result c.args.size c.args.hash c.row_for-row.ensures named.0 named.1 in
    subst (λ (r : PkgRow). opened_fault s.rows.rows c.next-job.result r.package r.version r.entries ≡ None) (sym row_is)
    (opened_free f s.rows.rows m.state c.next-job.result key.0 key.1 (length (f key.0 key.1)) (ap (λ (m : InMemory). m.state) c.self.view_is) c.next-job.ensures free)

pub invariant_of-self : goal.invariant_of-self
invariant_of-self c =
    let s = c.self.inside in
    let f = manifest_in_map s.manifests in
    let rows = s.rows.rows in
    let m = c.args.self.now in
    let key = c.in-Some.key in
    let job = c.next-job.result in
    let t = taken_is f rows s.taken m key c.self.view_is c.in-Some.is in
    let named = subst (λ (o : Option Held). IfSome o (λ held. (c.args.size ≡ held.row.size) × (c.args.hash ≡ held.row.hash))) t c.requires.named in
    let row_is = taken_row f key c.row_for-row.result c.args.size c.args.hash c.row_for-row.ensures named.0 named.1 in
    let memory = subst (λ (o : Option (List ℕ × ℕ)). IfSome (option_map (taken_with f) o) (λ held. HasMemory s.rows.room (length s.versions.items) (length s.jobs.items) (vec_capacity s.versions) (vec_capacity s.jobs))) c.in-Some.is c.self.invariant.has_memory in
    let applied = on_ok c.apply-applied.result (c.apply-applied.ensures.in_room memory.in_rows) c.apply-applied.ensures.ok in
    let told = c.job_told-told.result in
    let now : state_with f c.apply-applied.new.self.rows ≡ changed (Begun job key.0 key.1 (f key.0 key.1)) (state_with f rows) =
    ap (λ (r : RowsInMemory). state_with f r.rows) applied ∙ taken_begun f rows job c.row_for-row.result key row_is in
    let pushed = ok_items c.push-pushed.result (c.push-pushed.ensures.succeeds (omega (arith, memory.in_jobs))) c.push-pushed.new.self.items (s.jobs.items ++ told ∷ []) s.jobs.items c.push-pushed.ensures.items in
    let begun = told_begun (state_with f rows) job key.0 key.1 (f key.0 key.1) told s.versions.items s.jobs.items (vec_capacity s.versions) (vec_capacity s.versions)
    c.self.invariant.told (c.job_told-told.ensures ∙ told_taken f job c.row_for-row.result key row_is) memory.in_versions in
    let next_wants = subst (λ (o : Option (List ℕ × ℕ)). IfSome (option_map (taken_with f) o) (λ held. HasHashes (get nat_cmp s.wants rows.next) held.manifest)) c.in-Some.is c.self.invariant.wanted.by_next in
    let wants = subst (λ (n : ℕ). HasHashes (get nat_cmp s.wants n) (f key.0 key.1)) (sym c.next-job.ensures) next_wants in
    record {
      told = subst (λ (st : State). AreTold st s.versions.items c.push-pushed.new.self.items (vec_capacity s.versions)) (sym now)
          (subst (λ (js : List JobRow). AreTold (changed (Begun job key.0 key.1 (f key.0 key.1)) (state_with f rows)) s.versions.items js (vec_capacity s.versions)) (sym pushed) begun);
      wanted = subst (λ (st : State). AreWanted (get nat_cmp s.wants) st None) (sym now)
          (wanted_begun (get nat_cmp s.wants) (state_with f rows) (option_map (taken_with f) s.taken) job key.0 key.1 (f key.0 key.1) c.self.invariant.wanted wants);
      manifest_kept = refl;
      has_memory = tt;
    }

pub returns : goal.returns
returns c =
    let s = c.self.inside in
    let f = manifest_in_map s.manifests in
    let rows = s.rows.rows in
    let m = c.args.self.now in
    let key = c.in-Some.key in
    let job = c.next-job.result in
    let t = taken_is f rows s.taken m key c.self.view_is c.in-Some.is in
    let named = subst (λ (o : Option Held). IfSome o (λ held. (c.args.size ≡ held.row.size) × (c.args.hash ≡ held.row.hash))) t c.requires.named in
    let row_is = taken_row f key c.row_for-row.result c.args.size c.args.hash c.row_for-row.ensures named.0 named.1 in
    let memory = subst (λ (o : Option (List ℕ × ℕ)). IfSome (option_map (taken_with f) o) (λ held. HasMemory s.rows.room (length s.versions.items) (length s.jobs.items) (vec_capacity s.versions) (vec_capacity s.jobs))) c.in-Some.is c.self.invariant.has_memory in
    let applied = on_ok c.apply-applied.result (c.apply-applied.ensures.in_room memory.in_rows) c.apply-applied.ensures.ok in
    let now : state_with f c.apply-applied.new.self.rows ≡ changed (Begun m.state.next key.0 key.1 (f key.0 key.1)) m.state =
    ap (λ (r : RowsInMemory). state_with f r.rows) applied
    ∙ taken_begun f rows job c.row_for-row.result key row_is
    ∙ ap (λ (m : InMemory). changed (Begun job key.0 key.1 (f key.0 key.1)) m.state) c.self.view_is
    ∙ ap (λ (j : ℕ). changed (Begun j key.0 key.1 (f key.0 key.1)) m.state) (c.next-job.ensures ∙ ap (λ (m : InMemory). m.state.next) c.self.view_is) in
    subst (λ (o : Option Held). IfSome o (λ held. (let k : InMemory = record { state = state_with f c.apply-applied.new.self.rows; taken = None } in k) ≡ record { state = changed (Begun m.state.next held.row.package held.row.version held.manifest) m.state; taken = None })) (sym t)
    (memory_same _ _ now refl)
