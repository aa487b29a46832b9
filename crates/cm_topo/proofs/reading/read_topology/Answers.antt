use Rattle.std.proofs.Common.{rules, ◌≡◌, ◌≢◌, ℕ, Bool, true, false, List, Option, None, Some, Result, Ok, Err, cond, refl, sym, ◌∙◌, ap}
use Rattle.std.specs.Str.{IsUtf8, is_utf8}
use Rattle.std.proofs.lemmas.Str.{IsUtf8-from_is_utf8, is_utf8-from_IsUtf8}
use Rattle.toml.specs.Data.{Members}
use Rattle.toml.specs.Parse.{parse_document}
use Rattle.toml.specs.View.{table_view}
use Rattle.cm_topo.specs.Outcomes.{outcome, outcome_or, topology_in}
use Rattle.cm_topo.specs.Troubles.{fault_of, result_map_err}
use Rattle.cm_topo.specs.declared.fault.TopoFault.{TopoFault}
use Rattle.cm_topo.specs.declared.fault.TopoFault.TheVariants as fault
use Rattle.cm_topo.specs.declared.trouble.Placed.{Placed}
use Rattle.cm_topo.specs.declared.trouble.Trouble.TheVariants.{Shape, Broken, Memory}
use Rattle.cm_topo.proofs.reading.read_topology.Goals as goal

-- text that is TOML comes to what its document comes to
of_document : (bytes : List ℕ) (d : Members) → IsUtf8 bytes → parse_document bytes ≡ Some d → topology_in bytes ≡ outcome d
of_document bytes d utf8 parsed =
    ap (λ (b : Bool). outcome_or (cond b (parse_document bytes) None)) (is_utf8-from_IsUtf8 bytes utf8) ∙ ap outcome_or parsed

-- other bytes are none
of_none : (bytes : List ℕ) → (IsUtf8 bytes → parse_document bytes ≡ None) → topology_in bytes ≡ Err fault.NotToml
of_none bytes refused = by (is_utf8 bytes) refl
  where
    by : (b : Bool) → is_utf8 bytes ≡ b → topology_in bytes ≡ Err fault.NotToml
    by true is = ap (λ (v : Bool). outcome_or (cond v (parse_document bytes) None)) is ∙ ap outcome_or (refused (IsUtf8-from_is_utf8 bytes is))
    by false is = ap (λ (v : Bool). outcome_or (cond v (parse_document bytes) None)) is

-- want of memory is answered as such
of_memory : (placed : Placed) → placed.trouble ≡ Memory → fault_of placed ≡ fault.Memory
of_memory placed is = cc

pub returns-in-Err-clause-fault : goal.returns-in-Err-clause-fault
returns-in-Err-clause-fault c = λ other. of_none c.args.bytes.now (c.in-Err.ensures.refused (search rules))

pub returns-in-Ok-both_passes-clause-ok : goal.returns-in-Ok-both_passes-clause-ok
returns-in-Ok-both_passes-clause-ok c =
    of_document c.args.bytes.now (table_view c.in-Ok.table) c.in-Ok.ensures.ok.0 c.in-Ok.ensures.ok.1 ∙ ap (result_map_err fault_of) c.in-Ok-both_passes.ensures.said

pub returns-in-Err-both_passes-clause-fault : goal.returns-in-Err-both_passes-clause-fault
returns-in-Err-both_passes-clause-fault c = λ other.
    let wrong = c.in-Err-both_passes.ensures.wrong (λ is. other (c.fault.ensures ∙ of_memory c.in-Err-both_passes.placed is)) in
    of_document c.args.bytes.now (table_view c.in-Ok.table) c.in-Ok.ensures.ok.0 c.in-Ok.ensures.ok.1 ∙ (ap (result_map_err fault_of) wrong ∙ ap Err (sym c.fault.ensures))
