-- A base folder is made where each name that an `init` gives is a bay's.
use Rattle.std.proofs.Common.{◌≡◌, ℕ, Bool, true, List, IsTrue, ◌↔◌, Ok, sym, ◌∙◌, subst}
use Rattle.std.specs.List.{list_all}
use Rattle.cm_groups.specs.Names.{is_among}
use Rattle.cm_top.specs.Words.{read_line}
use Rattle.cm_top.specs.declared.fault.WordsFault.{WordsFault}
use Rattle.cm_top.specs.declared.line.Line.{Line}
use Rattle.cm_top.specs.declared.line.Line.TheVariants.{Init}
use Rattle.std.specs.Prelude.{Result}
use Rattle.cmsite.specs.Arguments.{MakesBase}
use Rattle.cmsite.specs.BayNames.{bays_of}

same_names : (names others : List (List ℕ)) → (let one : Result Line WordsFault = Ok (Init names) in one) ≡ Ok (Init others) → names ≡ others
same_names names others same = cc

pub makes_base : (words names : List (List ℕ)) (makes : Bool) → read_line words ≡ Ok (Init names) → makes ≡ list_all (is_among (bays_of names)) names
    → IsTrue makes ↔ MakesBase words
makes_base words names makes line is = (
  λ yes. (names, line, sym is ∙ yes),
  λ made. is ∙ subst (λ (others : List (List ℕ)). list_all (is_among (bays_of others)) others ≡ true) (sym (same_names names made.0 (sym line ∙ made.1))) made.2,
)
