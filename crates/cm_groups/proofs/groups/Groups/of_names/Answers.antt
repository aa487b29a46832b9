use Rattle.std.proofs.Common.{◌≡◌, ℕ, List, length, map, refl, ap, ◌∙◌, arith}
use Rattle.std.specs.List.{range_with_len, zip}
use Rattle.cm_net.specs.declared.boundary.Boundary.{Boundary}
use Rattle.cm_groups.specs.Groups.{held_by}
use Rattle.cm_groups.proofs.Soundness.{made_groups}
use Rattle.cm_groups.proofs.RowsMade.{beside_numbers, lists_sound, rows_are}
use Rattle.cm_groups.proofs.groups.Groups.of_names.Goals as goal
use Rattle.cm_groups.proofs.groups.Groups.of_names.Goals.{After-of-lists}

lists_are : (c : After-of-lists) → c.of-lists.result ≡ zip c.args.held.items (range_with_len 1 (length c.args.held.items))
lists_are c =
    let count : c.len.result ≡ length c.args.held.items = omega arith in
    c.of-lists.ensures ∙ (c.in_ok-numbered.ensures ∙ ap (zip c.args.held.items) (c.in_ok-numbers.ensures ∙ ap (range_with_len 1) count))

held_are : (c : After-of-lists) → map (λ (list : List Boundary × ℕ). list.0) c.of-lists.result ≡ map (λ text. held_by c.args.rows.now text) c.args.texts.items
held_are c = ap (map (λ (list : List Boundary × ℕ). list.0)) (lists_are c) ∙ (beside_numbers c.args.held.items 1 ∙ c.requires.held)

pub of_lists-requires : goal.of_lists-requires
of_lists-requires c =
    lists_sound c.args.rows.now c.args.texts.items c.of-lists.result (held_are (goal.at.of_lists-requires c).After-of-lists) c.requires.sound

pub groups_with-requires-clause-held : goal.groups_with-requires-clause-held
groups_with-requires-clause-held c =
    ap (map (λ (list : List Boundary × ℕ). list.0)) c.into_items-lists.ensures ∙ held_are (goal.at.groups_with-requires-clause-held c).After-of-lists

pub invariant_of-result : goal.invariant_of-result
invariant_of-result c = record {
  sound = made_groups c.in_ok-made.made.items c.args.default_points.items c.args.groups.now c.args.rows.now c.args.code c.args.texts.items c.args.texts.items
      c.in_ok-made.ensures c.requires.groups refl c.requires.few;
  indexed = c.in_ok-index.ensures
      ∙ rows_are c.args.groups.now c.args.default_points.items c.args.rows.now c.args.texts.items c.args.held.items c.of-lists.result c.in_ok-made.made.items
      c.requires.held (lists_are (goal.at.invariant_of-result c).After-of-lists) c.in_ok-made.ensures;
  pointed = rw c.deref.ensures.value at c.in_ok-having.ensures;
}
