use Rattle.std.proofs.Common.{All, IfSome, ◌≡◌, ◌≤◌, ◌++◌, drop, length, map}
use Rattle.toml.specs.View.{view}
use Rattle.cm_topo.specs.Entries.{rows_from}
use Rattle.cm_topo.specs.Troubles.{result_map}
use Rattle.cm_topo.proofs.entries.add_rows.Given as goal

abbrev pub invariant-loop-number : goal.invariant-loop-number
invariant-loop-number g l = record {
  rest : rows_from g.R.Said.said l.limit 0 (map view l.values) ≡ result_map (λ xs. l.rows.items ++ xs) (rows_from g.R.Said.said l.limit l.number (map view (drop l.number l.values)));
  fit : All g.R.Said.IsFit l.rows.items;
  count : length l.rows.items ≡ l.number;
  few : IfSome l.limit (λ most. l.number ≤ most);
}
