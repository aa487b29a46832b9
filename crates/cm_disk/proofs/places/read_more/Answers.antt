use Rattle.std.proofs.Common.{rules, ◌≡◌, ◌∷◌, ◌++◌, List, ℕ, sym, ◌∙◌, ap}
use Rattle.cm_disk.specs.Rows.{there_of}
use Rattle.cm_disk.proofs.places.read_more.Goals as goal

pub returns-then-is_err : goal.returns-then-is_err
returns-then-is_err c =
    let none : c.push.new.self.items ≡ c.args.places.now.items = search rules in
    (c.args.first ∷ there_of c.args.kept.now, ap (λ (l : List (List ℕ)). l ++ c.args.first ∷ there_of c.args.kept.now) (sym (none ∙ c.requires)))

pub returns-in_default : goal.returns-in_default
returns-in_default c = (there_of c.loop.kept, c.loop.invariant)

pub returns-then-is_err-2 : goal.returns-then-is_err-2
returns-then-is_err-2 c =
    let none : c.push-in-loop.new.self.items ≡ c.loop.places.items = search rules in
    (there_of c.loop.kept, c.loop.invariant ∙ ap (λ (l : List (List ℕ)). l ++ there_of c.loop.kept) (sym none))

pub returns : goal.returns
returns c = (there_of c.loop.kept, c.loop.invariant)
