use Rattle.std.proofs.Common.{arith, ◌≡◌, List, ℕ, [], ◌∷◌, ◌++◌, ◌+◌, ◌∙◌, ap, drop, get_or, length, length-append}
use Rattle.std.specs.Prelude.{if◌then◌else◌}
use Rattle.std.proofs.lemmas.Grind.{common_steps}
use Rattle.cm_disk.specs.Images.{is_touched}
use Rattle.cm_disk.specs.Stands.{marked}
use Rattle.cm_disk.proofs.Picked.{marked_more}
use Rattle.cm_disk.proofs.crash.marked_bytes.Goals as goal

pub loop-byte-preserved : goal.loop-byte-preserved
loop-byte-preserved c =
    let at : c.len-i.result ≡ c.loop-byte.byte-index = grind (arith, common_steps, c.loop-byte.invariant.long) in
    record {
      so_far = ap (λ (l : List ℕ). l ++ marked c.args.touched.now (c.loop-byte.byte-index + 1) (drop (c.loop-byte.byte-index + 1) c.args.bytes.now)) c.in_ok-push.ensures.items
          ∙ marked_more c.args.touched.now c.loop-byte.made.items c.args.bytes.now c.loop-byte.byte-index c.mark.result _ c.loop-byte-test.true
          (c.mark.ensures ∙ ap (λ (n : ℕ). if is_touched c.args.touched.now n then 1 else get_or c.args.bytes.now c.loop-byte.byte-index 0) at) c.loop-byte.invariant.so_far;
      long = omega (arith, c.loop-byte.invariant.long, ap (λ (l : List ℕ). length l) c.in_ok-push.ensures.items, length-append c.loop-byte.made.items (c.mark.result ∷ []));
    }
