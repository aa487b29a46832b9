use Rattle.std.proofs.Common.{rules, arith, ◌≡◌, ◌∙◌, ap, sym, subst, ℕ, suc, List, [], ◌∷◌, ◌++◌, length, length-append, take}
use Rattle.std.specs.Ordering.{nat_cmp}
use Rattle.std.specs.Cmp.Lexicographic.{slice_cmp}
use Rattle.std.specs.Map.{lookup}
use Rattle.std.specs.BTreeMap.{is_at}
use Rattle.std.specs.Map.Iter.{deref_pair}
use Rattle.std.proofs.Math.Seq.{take-length}
use Rattle.std.proofs.lemmas.Map.Iter.{iter_turn, iter_end}
use Rattle.std.proofs.lemmas.Map.Entries.{btree_map_get_place}
use Rattle.cm_disk.specs.declared.calls.Slot.{Slot}
use Rattle.cm_disk.specs.Disk.{File}
use Rattle.cm_disk.specs.Images.{Stand, IsLeft, at_rest}
use Rattle.cm_disk.specs.Stands.{stand_after, IsSmall, picked}
use Rattle.cm_disk.specs.Slots.{stand_of_option}
use Rattle.cm_disk.proofs.Joined.{total_key}
use Rattle.cm_disk.proofs.Steps.{stays_read}
use Rattle.cm_disk.proofs.Picked.{rest_of, rest_more, rest_all, not_before, picked_left}
use Rattle.cm_disk.proofs.memory.MemDisk.crash.Goals as goal

pub keep-requires-clause-none : goal.keep-requires-clause-none
keep-requires-clause-none c =
    let starts : c.into_iter-place-iterator.result ≡ c.args.self.now.slots.entries = search rules in
    let turn = iter_turn deref_pair c.args.self.now.slots.entries c.loop-place.yielded c.into_iter-place-iterator.result c.loop-place.place-iterator c.next.new.self c.next.result starts c.loop-place.yielded_by (c.in-Some.place, c.in-Some.slot) c.in-Some.is c.next.ensures.steps in
    c.loop-place.invariant.kept c.in-Some.place.now ∙ ap (rest_of c.args.pick) (not_before c.args.self.now.slots c.iter-place-items.ensures.ordered (length c.loop-place.yielded) c.in-Some.place.now c.in-Some.slot.now turn.1)

pub keep-requires-clause-small : goal.keep-requires-clause-small
keep-requires-clause-small c =
    let starts : c.into_iter-place-iterator.result ≡ c.args.self.now.slots.entries = search rules in
    let turn = iter_turn deref_pair c.args.self.now.slots.entries c.loop-place.yielded c.into_iter-place-iterator.result c.loop-place.place-iterator c.next.new.self c.next.result starts c.loop-place.yielded_by (c.in-Some.place, c.in-Some.slot) c.in-Some.is c.next.ensures.steps in
    let found = btree_map_get_place total_key c.args.self.now.slots (length c.loop-place.yielded) c.in-Some.place.now c.in-Some.slot.now c.iter-place-items.ensures.ordered turn.1 in
    subst IsSmall (sym (c.args.self.now.same c.in-Some.place.now) ∙ ap stand_of_option found) (c.args.self.now.small c.in-Some.place.now)

pub loop-place-preserved : goal.loop-place-preserved
loop-place-preserved c = record {
  kept = λ q.
      let starts : c.into_iter-place-iterator.result ≡ c.args.self.now.slots.entries = search rules in
      let turn = iter_turn deref_pair c.args.self.now.slots.entries c.loop-place.yielded c.into_iter-place-iterator.result c.loop-place.place-iterator c.next.new.self c.next.result starts c.loop-place.yielded_by (c.in-Some.place, c.in-Some.slot) c.in-Some.is c.next.ensures.steps in
      let one_more : suc (length c.loop-place.yielded) ≡ length (c.loop-place.yielded ++ (c.in-Some.place, c.in-Some.slot) ∷ []) = omega (arith, length-append c.loop-place.yielded ((c.in-Some.place, c.in-Some.slot) ∷ [])) in
      rest_more c.args.self.now.slots c.iter-place-items.ensures.ordered c.args.pick (length c.loop-place.yielded) c.in-Some.place.now c.in-Some.slot.now c.loop-place.disk.calls.items c.keep.new.self.calls.items turn.1
      c.loop-place.invariant.kept c.in_ok-keep.ensures.kept q
      ∙ ap (λ (n : ℕ). rest_of c.args.pick (lookup (is_at (slice_cmp nat_cmp q)) (take n c.args.self.now.slots.entries))) one_more;
  listed = λ number. c.in_ok-keep.ensures.listed number ∙ c.loop-place.invariant.listed number;
  fresh = (
    c.in_ok-keep.ensures.counts.0 ∙ c.loop-place.invariant.fresh.0,
    c.in_ok-keep.ensures.counts.1 ∙ c.loop-place.invariant.fresh.1,
    c.in_ok-keep.ensures.counts.2 ∙ c.loop-place.invariant.fresh.2,
  );
}

pub returns-clause-picked : goal.returns-clause-picked
returns-clause-picked c q =
    let starts : c.into_iter-place-iterator.result ≡ c.args.self.now.slots.entries = search rules in
    let ended = iter_end deref_pair c.args.self.now.slots.entries c.loop-place.yielded c.into_iter-place-iterator.result c.loop-place.place-iterator c.next.new.self c.next.result starts c.loop-place.yielded_by c.in-None.is c.next.ensures.steps in
    c.loop-place.invariant.kept q
    ∙ ap (λ (n : ℕ). rest_of c.args.pick (lookup (is_at (slice_cmp nat_cmp q)) (take n c.args.self.now.slots.entries))) ended.1
    ∙ ap (λ (es : List (List ℕ × Slot)). rest_of c.args.pick (lookup (is_at (slice_cmp nat_cmp q)) es)) (take-length c.args.self.now.slots.entries)
    ∙ rest_all c.args.self.now.slots c.args.pick q
    ∙ ap (λ (s : Stand). at_rest (picked c.args.pick s)) (c.args.self.now.same q)

pub returns-clause-image : goal.returns-clause-image
returns-clause-image c q =
    subst (λ (f : File). IsLeft (stand_after c.args.self.now.calls.items q) f) (sym (ap (λ (s : Stand). s.now) (returns-clause-picked c q)))
    (picked_left c.args.pick (stand_after c.args.self.now.calls.items q) (stays_read c.args.self.now.calls.items q))
