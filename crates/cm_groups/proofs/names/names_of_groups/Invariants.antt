use Rattle.std.proofs.Common.{◌≡◌, ◌∷◌, map, take}
use Rattle.cm_groups.specs.Codes.{default_name}
use Rattle.cm_groups.proofs.names.names_of_groups.Given as goal

abbrev pub invariant-loop-text : goal.invariant-loop-text
invariant-loop-text l = l.names.items ≡ default_name l.fn.code ∷ map (λ text. text.name) (take l.text-index l.texts)
