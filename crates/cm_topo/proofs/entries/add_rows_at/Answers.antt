use Rattle.toml.specs.Data.{get_member}
use Rattle.toml.specs.View.{table_view, view}
use Rattle.cm_topo.proofs.RowSteps.{array_read}
use Rattle.cm_topo.proofs.entries.add_rows_at.Goals as goal

pub returns-in-Some-as_array-clause-said : goal.returns-in-Some-as_array-clause-said
returns-in-Some-as_array-clause-said g c =
    rw (array_read g.R.Said.said c.args.limit (get_member c.args.key.now (table_view c.args.table.now)) (view c.in-Some.value.now) c.in-Some-as_array.array.now.items c.as_slice.result.now
    c.in-Some.ensures c.in-Some-as_array.ensures c.as_slice.ensures.value) c.add_rows.ensures.said

pub returns-in-Some-as_array-clause-wrong : goal.returns-in-Some-as_array-clause-wrong
returns-in-Some-as_array-clause-wrong g c =
    rw (array_read g.R.Said.said c.args.limit (get_member c.args.key.now (table_view c.args.table.now)) (view c.in-Some.value.now) c.in-Some-as_array.array.now.items c.as_slice.result.now
    c.in-Some.ensures c.in-Some-as_array.ensures c.as_slice.ensures.value) c.add_rows.ensures.wrong
