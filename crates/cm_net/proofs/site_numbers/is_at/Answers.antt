use Rattle.std.proofs.Common.{List, ℕ, Vec, get_or, sym, ap, ◌∙◌}
use Rattle.std.specs.declared.alloc.Global.{Global}
use Rattle.std.proofs.lemmas.Slice.Eq.{bytes_eq-Decides}
use Rattle.cm_net.proofs.Numbered.{named_there}
use Rattle.cm_net.proofs.site_numbers.is_at.Goals as goal

pub returns-then-place-entries : goal.returns-then-place-entries
returns-then-place-entries c = λ same.
    let there = get_or c.args.entries.now c.args.place c.index-entries-place.result in
    let name = (bytes_eq-Decides there.0 c.args.name.now).0 (sym c.eq.ensures ∙ same) in
    named_there c.args.entries.now c.args.place c.args.name.now c.index-entries-place.result c.if-place-entries.true c.index-entries-place.is
    (ap (λ (entry : List ℕ × Vec ℕ Global). entry.0) c.index-entries-place.is ∙ name)
