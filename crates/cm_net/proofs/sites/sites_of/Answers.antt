use Rattle.std.proofs.Common.{ℕ, length, arith, List, sym, ap, ◌∙◌, ◌∷◌, [], Vec}
use Rattle.std.specs.declared.alloc.Global.{Global}
use Rattle.std.specs.Cmp.Lexicographic.{nat_list_cmp_total}
use Rattle.std.specs.Map.{keys_of}
use Rattle.std.proofs.lemmas.List.{length-map, map-append, map-id}
use Rattle.std.proofs.lemmas.Map.Iter.{btree_map_turn, iter_end}
use Rattle.cm_net.specs.declared.entry.Entry.{Entry}
use Rattle.cm_net.specs.Sites.{numbers_for, numbers_there}
use Rattle.cm_net.proofs.Named.{site_added, name_added, all_sites, no_entry}
use Rattle.cm_net.proofs.sites.sites_of.Goals as goal

pub loop-name-preserved : goal.loop-name-preserved
loop-name-preserved c =
    let turn = btree_map_turn (λ e. e) c.loop-name.yielded _ c.loop-name.name-iterator c.next.new.self c.next.result (c.in-Some.name, c.in-Some.numbers)
    c.loop-name.yielded_by c.in-Some.is c.next.ensures.steps nat_list_cmp_total c.in_ok-items.items
    c.into_iter-name-iterator.ensures.into_iter_gives.0 c.into_iter-name-iterator.ensures.into_iter_gives.5 in
    let numbers = ap numbers_there (sym turn.1) ∙ c.in_ok-items.ensures.numbers c.in-Some.name in
    let added = rw c.new.ensures at c.in_ok-push.ensures.items in
    rw (map-append (λ (e : List ℕ × Vec ℕ Global). e.0) c.loop-name.yielded ((c.in-Some.name, c.in-Some.numbers) ∷ [])) (
      site_added (numbers_for c.args.entries.now) (keys_of c.loop-name.yielded) c.loop-name.sites.items _ _ added (rw numbers at c.rising-groups.ensures) c.loop-name.invariant.0,
      name_added (keys_of c.loop-name.yielded) c.loop-name.sites.items _ _ added c.loop-name.invariant.1,
    )

pub returns : goal.returns
returns c =
    let all = iter_end (λ e. e) c.in_ok-items.items.entries c.loop-name.yielded _ c.loop-name.name-iterator c.next.new.self c.next.result
    c.into_iter-name-iterator.ensures.into_iter_gives.0 c.loop-name.yielded_by c.in-None.is c.next.ensures.steps in
    let names = c.loop-name.invariant.1 ∙ ap keys_of (sym (map-id c.loop-name.yielded) ∙ all.0) in
    record {
      right = all_sites (numbers_for c.args.entries.now) (keys_of c.loop-name.yielded) c.loop-name.sites.items
          (λ name none. sym (c.in_ok-items.ensures.numbers name) ∙ no_entry c.in_ok-items.items.entries name (rw (sym (map-id c.loop-name.yielded) ∙ all.0) at none))
          c.loop-name.invariant.0;
      order = rw names c.into_iter-name-iterator.ensures.into_iter_gives.5;
      few = omega (arith, c.in_ok-items.ensures.few, ap length names, length-map c.loop-name.sites.items (λ (e : Entry (List ℕ)). e.key), length-map c.in_ok-items.items.entries (λ (e : List ℕ × Vec ℕ Global). e.0));
    }
