use Rattle.std.proofs.Common.{◌∙◌, sym, subst, List, ℕ}
use Rattle.std.specs.Cmp.Lexicographic.{slice_cmp}
use Rattle.std.specs.Ordering.{nat_cmp}
use Rattle.cm_pkglib.specs.Places.{IsThere, IsGap}
use Rattle.cm_pkglib.proofs.Changed.{with_last_gap, with_last_there}
use Rattle.cm_pkglib.proofs.Halves.{ok_items}
use Rattle.cm_pkglib.proofs.moves.put_last.Goals as goal

abbrev Last : Type 0
Last = List ℕ × ℕ

pub returns-in-Ok-clause-lasts : goal.returns-in-Ok-clause-lasts
returns-in-Ok-clause-lasts c =
    let there = subst (λ (lasts : List Last). IsThere (λ (l : Last). slice_cmp nat_cmp l.0 c.args.id) lasts c.in-Ok.at) c.deref.ensures.value c.in-Ok.ensures in
    sym (with_last_there c.args.id c.args.version _ c.in-Ok.at c.index_mut-last.result.now c.greater-last.result there c.index_mut-last.ensures.value c.greater-last.ensures)

pub returns-in-Err-clause-lasts : goal.returns-in-Err-clause-lasts
returns-in-Err-clause-lasts c =
    let gap = subst (λ (lasts : List Last). IsGap (λ (l : Last). slice_cmp nat_cmp l.0 c.args.id) lasts c.in-Err.at) c.deref.ensures.value c.in-Err.ensures in
    ok_items c.insert-put.result (c.insert-put.ensures.succeeds c.requires.room) _ _ _ c.insert-put.ensures.items ∙ sym (with_last_gap c.args.id c.args.version _ c.in-Err.at gap)
