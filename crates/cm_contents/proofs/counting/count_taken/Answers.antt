use Rattle.std.proofs.Common.{◌≤◌, List, [], length, ap, subst, arith}
use Rattle.cm_tree.specs.declared.entry.Entry.{Entry}
use Rattle.cm_state.proofs.OnEach.{on_each}
use Rattle.cm_contents.specs.Seals.{IsCounted}
use Rattle.cm_contents.proofs.Counted.{named_few, times_few, taken_same, counted_more, on_err}
use Rattle.cm_contents.proofs.counting.count_taken.Goals as goal

pub add-requires : goal.add-requires
add-requires c hash =
    let counted = c.requires.counted hash in
    let named = named_few c.args.contents.now.state c.tells_valid.ensures c.requires.small_versions c.requires.small_jobs hash in
    let times = times_few hash c.in-Some.manifest.now in
    let long = ap length c.entries-entries.ensures.value in
    let few = c.entries-entries.ensures.form.few in
    omega (arith, counted, named, times, long, few)

pub returns-in-Some-clause-ok : goal.returns-in-Some-clause-ok
returns-in-Some-clause-ok c =
    let state = c.args.contents.now.state in
    let stored = c.in-Some.manifest.now in
    let same = taken_same c.args.contents.now.taken stored c.in-Some.ensures in
    let long = ap length c.entries-entries.ensures.value in
    let few = c.entries-entries.ensures.form.few in
    let short : length stored ≤ 20000 = omega (arith, long, few) in
    on_each (λ more. subst (λ (m : List Entry). IsCounted c.add.new.self state m) same (counted_more c.args.counts.now c.add.new.self state stored c.requires short more c.add.ensures.seals)) c.add.result c.add.ensures.ok

pub returns-in-Some-clause-memory : goal.returns-in-Some-clause-memory
returns-in-Some-clause-memory c =
    let state = c.args.contents.now.state in
    on_err (λ same. counted_more c.args.counts.now c.add.new.self state [] c.requires (omega arith) (λ hash. let s = same hash in omega (arith, s)) c.add.ensures.seals) c.add.result c.add.ensures.memory
