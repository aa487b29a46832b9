use Rattle.std.proofs.Common.{◌≡◌, ℕ, ◌+◌, ◌-◌, ◌≤◌, List, ◌++◌, length, take, drop, ◌∙◌, ap, arith}
use Rattle.std.specs.Prelude.{min}
use Rattle.cm_base.specs.Fed.{WasFed}
use Rattle.cm_disk.specs.Disk.{bytes_of}
use Rattle.cm_log.proofs.Frames.{only_then}
use Rattle.cm_check.proofs.Pieces.{front_more, within_left, of_then, of_both}
use Rattle.cm_check.proofs.Told.{looks_then}
use Rattle.cm_check.proofs.hashing.feed_front.Goals as goal

pub loop-offset-preserved : goal.loop-offset-preserved
loop-offset-preserved g c =
    let d = g.D.Disk in
    let i = c.loop-offset.invariant in
    let first = c.args.library.now in
    let now = c.loop-offset.library in
    let at = c.args.at.now in
    let size = c.args.size in
    let offset = c.loop-offset.offset in
    let count = c.in-Ok.count in
    let old = c.loop-offset.hasher in
    let new = c.feed_piece.new.hasher in
    let room : length c.loop-offset.piece ≡ 65536 = omega (arith, c.loop-offset.auto.piece, c.requires.piece) in
    let left : c.min-left.result ≡ min (size - offset) 65536 = omega (arith, c.min-left.ensures) in
    record {
      looks = looks_then d.reads first now c.feed_piece.new.library i.looks c.feed_piece.ensures.looks;
      only = only_then i.only c.feed_piece.ensures.only;
      within = within_left offset size c.min-left.result count c.loop-offset.piece c.loop-offset-test.true left room c.in-Ok.ensures.fits;
      count = c.in-Ok.ensures.count ∙ ap (λ (n : ℕ). n + count) i.count;
      fed = of_both d.reads at.package at.version at.entry first
          (λ file. size ≤ length (bytes_of file) → WasFed old (take offset (bytes_of file)))
          (λ file. (before : List ℕ) → WasFed old before → WasFed new (before ++ take count (drop offset (bytes_of file))))
          (λ file. size ≤ length (bytes_of file) → WasFed new (take (offset + count) (bytes_of file)))
          i.fed
          (of_then d.reads at.package at.version at.entry first now (λ file. (before : List ℕ) → WasFed old before → WasFed new (before ++ take count (drop offset (bytes_of file)))) i.looks c.in-Ok.ensures.fed)
          (λ file so_far more. front_more file size offset count old new so_far more);
    }
