use Rattle.std.proofs.Common.{◌∙◌, sym, ap, subst, ℕ, List, ◌==◌, option_map, Err, ◌≡◌, false}
use Rattle.std.specs.Cmp.{unsigned_ties}
use Rattle.std.specs.Ordering.{nat_cmp}
use Rattle.cm_pkglib.specs.declared.row.PkgRow.{PkgRow}
use Rattle.cm_pkglib.specs.Places.{IsThere, IsGap}
use Rattle.cm_pkglib.specs.Rows.{is_unfinished}
use Rattle.cm_pkglib.proofs.Halves.{find_place, is_some_map, row_found, rest_found}
use Rattle.cm_pkglib.proofs.moves.take_job.Goals as goal

abbrev Unfinished : Type 0
Unfinished = ℕ × PkgRow

pub unreachable-requires : goal.unreachable-requires
unreachable-requires c =
    let gap = subst (λ (jobs : List Unfinished). IsGap (λ (u : Unfinished). nat_cmp u.0 c.args.job) jobs c.in-Err.field-0) c.deref.ensures.value c.in-Err.ensures in
    let none : is_unfinished c.args.job c.args.jobs.now.items ≡ false = is_some_map (λ (u : Unfinished). u.1) _ ∙ find_place (λ (u : Unfinished). u.0 == c.args.job) (λ (u : Unfinished). nat_cmp u.0 c.args.job) (λ u. unsigned_ties u.0 c.args.job) c.args.jobs.now.items (Err c.in-Err.field-0) gap in
    cc (none, c.requires.there)

pub returns-clause-row : goal.returns-clause-row
returns-clause-row c =
    let there = subst (λ (jobs : List Unfinished). IsThere (λ (u : Unfinished). nat_cmp u.0 c.args.job) jobs c.in-Ok.at) c.deref.ensures.value c.in-Ok.ensures in
    ap (λ o. option_map (λ (u : Unfinished). u.1) o) (row_found (λ (u : Unfinished). u.0 == c.args.job) (λ (u : Unfinished). nat_cmp u.0 c.args.job) (λ u. unsigned_ties u.0 c.args.job) _ c.in-Ok.at c.remove.result there c.remove.ensures.value)

pub returns-clause-rest : goal.returns-clause-rest
returns-clause-rest c =
    let there = subst (λ (jobs : List Unfinished). IsThere (λ (u : Unfinished). nat_cmp u.0 c.args.job) jobs c.in-Ok.at) c.deref.ensures.value c.in-Ok.ensures in
    c.remove.ensures.items
    ∙ sym (rest_found (λ (u : Unfinished). u.0 == c.args.job) (λ (u : Unfinished). nat_cmp u.0 c.args.job) (λ u. unsigned_ties u.0 c.args.job) _ c.in-Ok.at there)
