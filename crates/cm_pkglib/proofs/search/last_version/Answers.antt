use Rattle.std.proofs.Common.{◌∙◌, sym, ap, ℕ, List, Some, option_map}
use Rattle.std.specs.Cmp.Lexicographic.{slice_cmp}
use Rattle.std.specs.Ordering.{nat_cmp}
use Rattle.std.specs.Str.{bytes_eq}
use Rattle.cm_pkglib.proofs.Changed.{of_package}
use Rattle.cm_pkglib.proofs.Halves.{find_split, find_split_at, split_of_gap, split_of_there, read_of_rest}
use Rattle.cm_pkglib.proofs.search.last_version.Goals as goal

pub returns-in-Ok : goal.returns-in-Ok
returns-in-Ok c =
    let there = c.in-Ok.ensures in
    ap (λ (l : List ℕ × ℕ). Some l.1) (read_of_rest c.args.lasts.now c.in-Ok.at there.row _ there.rest c.index-lasts-at.result)
    ∙ sym (ap (λ o. option_map (λ (l : List ℕ × ℕ). l.1) o) (find_split_at (λ (l : List ℕ × ℕ). bytes_eq l.0 c.args.id) (λ (l : List ℕ × ℕ). slice_cmp nat_cmp l.0 c.args.id) (of_package c.args.id) c.args.lasts.now (split_of_there _ _ _ there)))

pub returns-in-Err : goal.returns-in-Err
returns-in-Err c =
    sym (ap (λ o. option_map (λ (l : List ℕ × ℕ). l.1) o) (find_split (λ (l : List ℕ × ℕ). bytes_eq l.0 c.args.id) (λ (l : List ℕ × ℕ). slice_cmp nat_cmp l.0 c.args.id) (of_package c.args.id) c.args.lasts.now (split_of_gap _ _ _ c.in-Err.ensures)))
