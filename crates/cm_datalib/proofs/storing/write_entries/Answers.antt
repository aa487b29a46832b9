use Rattle.std.proofs.Common.{◌≡◌, ℕ, ◌≤◌, List, ◌++◌, length, take, drop, sym, ◌∙◌, ap, subst, arith, append_assoc, length-append, take-append-drop}
use Rattle.std.specs.List.{flat_map}
use Rattle.std.proofs.lemmas.Grind.{flat_map-append}
use Rattle.std.proofs.lemmas.List.{length-take-le}
use Rattle.cm_base.specs.Fed.{WasFed}
use Rattle.cm_tree.specs.declared.entry.Entry.{Entry}
use Rattle.cm_tree.specs.Manifests.{entry_bytes}
use Rattle.cm_datalib.proofs.Alone.{alone_next}
use Rattle.cm_datalib.proofs.Writes.{Sent, sent_more, sent_fails, sent_within}
use Rattle.cm_datalib.proofs.storing.write_entries.Goals as goal

pub write_at-requires-clause-within : goal.write_at-requires-clause-within
write_at-requires-clause-within g c x told =
    let now = c.loop-next.invariant in
    sent_within (g.D.Disk.reads c.args.disk.now) (g.D.Disk.reads c.loop-next.disk) c.args.place.now 9 c.loop-next.at (flat_map entry_bytes (take c.loop-next.next c.args.entries.now)) now.sent now.end
    (λ files is. (c.requires.there files is).1) x told

parts : (entries : List Entry) (next behind : ℕ) (b : List ℕ) → flat_map entry_bytes (take behind entries) ≡ flat_map entry_bytes (take next entries) ++ b
    → flat_map entry_bytes entries ≡ (flat_map entry_bytes (take next entries) ++ b) ++ flat_map entry_bytes (drop behind entries)
parts entries next behind b is =
    ap (λ (e : List Entry). flat_map entry_bytes e) (sym (take-append-drop behind entries))
    ∙ flat_map-append entry_bytes (take behind entries) (drop behind entries)
    ∙ ap (λ (l : List ℕ). l ++ flat_map entry_bytes (drop behind entries)) is

pub returns-in_err-write_at-clause-work : goal.returns-in_err-write_at-clause-work
returns-in_err-write_at-clause-work g c =
    let d = g.D.Disk in
    let now = c.loop-next.invariant in
    let entries = c.args.entries.now in
    let behind = c.fill-behind.result.0 in
    let b = take c.fill-behind.result.1 c.fill-behind.new.piece in
    sent_fails (d.reads c.args.disk.now) (d.reads c.loop-next.disk) (d.reads c.write_at.new.self) c.args.place.now 9 c.loop-next.at (flat_map entry_bytes (take c.loop-next.next entries)) b
    (flat_map entry_bytes (drop behind entries)) (flat_map entry_bytes entries) c.from_residual.result c.from_residual.ensures.0 (parts entries c.loop-next.next behind b c.fill-behind.ensures.bytes) now.end
    (λ files is. (c.requires.there files is).1) now.sent c.in_err-write_at.ensures.work.err c.write_at.ensures.work.silent

pub loop-next-preserved : goal.loop-next-preserved
loop-next-preserved g c =
    let d = g.D.Disk in
    let now = c.loop-next.invariant in
    let entries = c.args.entries.now in
    let p = flat_map entry_bytes (take c.loop-next.next entries) in
    let b = take c.fill-behind.result.1 c.fill-behind.new.piece in
    let bytes = c.fill-behind.ensures.bytes in
    let room : c.fill-behind.result.1 ≤ length c.fill-behind.new.piece = omega (arith, c.fill-behind.ensures.fits) in
    let long : length b ≡ c.fill-behind.result.1 = length-take-le c.fill-behind.result.1 c.fill-behind.new.piece room in
    record {
      alone = alone_next d.may_leave d.moment d.left_since c.args.place.now c.args.disk.now c.loop-next.disk c.write_at.new.self now.alone c.write_at.ensures.time c.write_at.ensures.touches.others;
      sent = subst (λ (l : List ℕ). Sent (d.reads c.args.disk.now) (d.reads c.write_at.new.self) c.args.place.now 9 l) (sym bytes)
          (sent_more (d.reads c.args.disk.now) (d.reads c.loop-next.disk) (d.reads c.write_at.new.self) c.args.place.now 9 c.loop-next.at p b now.end (λ files is. (c.requires.there files is).1) now.sent c.in_ok-write_at.ensures.work.ok c.write_at.ensures.work.silent);
      later = omega (arith, now.later, c.write_at.ensures.cause.later);
      within = c.fill-behind.ensures.within;
      end = omega (arith, now.end, long, ap (λ (l : List ℕ). length l) bytes, length-append p b);
      most = omega (arith, now.most, c.fill-behind.ensures.most, c.fill-behind.ensures.goes_on);
      count = omega (arith, now.count, long, c.feed.ensures.count);
      fed = λ before fed. subst (λ (l : List ℕ). WasFed c.feed.new.self l) (append_assoc before p b ∙ ap (λ (l : List ℕ). before ++ l) (sym bytes)) (c.feed.ensures.fed (before ++ p) (now.fed before fed));
    }
