use Rattle.std.proofs.Common.{ℕ, List, Option, option_map, sym, ap}
use Rattle.cm_net.specs.declared.boundary.Boundary.{Boundary}
use Rattle.cm_groups.proofs.Places.{row_found, row_missing}
use Rattle.cm_groups.proofs.making.boundary_of.Goals as goal

pub returns-in-Some : goal.returns-in-Some
returns-in-Some c =
    let second : List ℕ × Boundary → Boundary = λ row. row.1 in
    sym (ap (λ (o : Option (List ℕ × Boundary)). option_map second o) (row_found c.args.rows.now c.args.names.now c.args.name.now c.in-Some.place c.index-rows-place.result c.requires c.in-Some.ensures.place c.in-Some.ensures.within))

pub returns-in-None : goal.returns-in-None
returns-in-None c =
    let second : List ℕ × Boundary → Boundary = λ row. row.1 in
    sym (ap (λ (o : Option (List ℕ × Boundary)). option_map second o) (row_missing c.args.rows.now c.args.names.now c.args.name.now c.requires c.in-None.ensures.place))
