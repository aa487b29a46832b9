use Rattle.std.proofs.Common.{ℕ, ◌+◌, List, take, sym, ◌∙◌, ap, subst, arith}
use Rattle.std.proofs.Math.Seq.{take-add}
use Rattle.cm_base.specs.Fed.{WasFed}
use Rattle.cm_disk.specs.Disk.{bytes_of}
use Rattle.cm_disk.proofs.Quiet.{quiet_next}
use Rattle.cm_disk.proofs.hashing.read_front.Goals as goal

pub loop-at-preserved : goal.loop-at-preserved
loop-at-preserved g c =
    let d = g.D.Disk in
    let now = c.loop-at.invariant in
    record {
      quiet = quiet_next d.may_leave d.moment d.left_since c.args.disk.now c.loop-at.disk c.feed_piece.new.disk now.quiet c.feed_piece.ensures.time c.feed_piece.ensures.stop;
      same = c.feed_piece.ensures.same ∙ now.same;
      later = omega (arith, now.later, c.feed_piece.ensures.cause.later);
      within = omega (arith, c.in_ok-count.ensures.fits, c.min-most.ensures);
      count = c.in_ok-count.ensures.count ∙ ap (λ (n : ℕ). n + c.in_ok-count.count) now.count;
      fed = λ x told le.
          subst (λ (l : List ℕ). WasFed c.feed_piece.new.hasher l) (sym (take-add c.loop-at.at c.in_ok-count.count (bytes_of (x c.args.place.now))))
          (c.in_ok-count.ensures.fed x (now.same ∙ told) (take c.loop-at.at (bytes_of (x c.args.place.now))) (now.fed x told le));
    }
