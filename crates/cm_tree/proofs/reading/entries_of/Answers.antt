use Rattle.std.proofs.Common.{◌≡◌, ◌∷◌, ◌++◌, [], arith}
use Rattle.cm_tree.specs.Reading.{entries_at}
use Rattle.cm_tree.proofs.EntriesLoop.{goes_on, ends, is_done, taken_more}
use Rattle.cm_tree.proofs.reading.entries_of.Goals as goal

pub returns-in-Err-clause-exact : goal.returns-in-Err-clause-exact
returns-in-Err-clause-exact c =
    ends c.in-Err.fault c.args.count c.loop.counter c.args.total c.loop.entries.items c.loop.rest.now _ c.loop-test.true
    (rw c.deref.ensures.value at c.in-Err.ensures.exact) c.loop.invariant.exact

pub loop-preserved : goal.loop-preserved
loop-preserved c =
    let items : c.push.new.self.items ≡ c.loop.entries.items ++ c.in-Ok.entry ∷ [] = c.in_ok-push-in-Ok.ensures.items in
    let more = rw c.deref.ensures.value at c.in-Ok.ensures.more in
    let on = goes_on c.args.count c.loop.counter c.args.total c.loop.entries.items c.loop.rest.now c.in-Ok.entry c.in-Ok.after.now (entries_at c.args.count c.args.total [] c.args.bytes.now)
    c.loop-test.true (rw c.deref.ensures.value at c.in-Ok.ensures.exact) c.loop.invariant.exact in
    record {
      exact = rw items on;
      taken = rw items (taken_more c.entry_of.new.taken c.loop.entries.items c.in-Ok.entry more);
      number = omega (arith, c.in_ok-push-in-Ok.ensures.len, c.loop.invariant.number);
      within = omega (arith, c.in-Ok.ensures.least, c.loop.invariant.within);
      least = omega (arith, c.in-Ok.ensures.least, c.loop.invariant.least);
      low = omega (arith, c.in-Ok.ensures.most, c.loop.invariant.low);
    }

pub returns-clause-exact : goal.returns-clause-exact
returns-clause-exact c = is_done c.args.count c.loop.counter c.args.total c.loop.entries.items c.loop.rest.now _ c.loop-test.false c.loop.invariant.exact
