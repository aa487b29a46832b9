use Rattle.std.proofs.Common.{ℕ, ap, Some, arith}
use Rattle.cm_net.proofs.Spread.{gap_value, last_value}
use Rattle.cm_net.proofs.six_reader.SixReader.whole.Goals as goal

pub returns-in-Gap : goal.returns-in-Gap
returns-in-Gap c =
    rw c.in-Gap.is (ap (λ (n : ℕ). Some n)
    (gap_value c.args.self.left.items c.args.self.right.items _ _ _ _ (omega arith) c.as_slice-in-Gap.ensures.value c.as_slice-in-Gap-2.ensures.value c.spread-in-Gap.ensures c.number_of-in-Gap.ensures))

pub returns-in-LastGroup : goal.returns-in-LastGroup
returns-in-LastGroup c =
    rw c.in-LastGroup.is (ap (λ (n : ℕ). Some n)
    (last_value c.args.self.left.items c.args.self.right.items _ _ _ _ c.args.self.number _ (omega arith) c.push-in-LastGroup.ensures.items c.as_slice-in-LastGroup.ensures.value c.as_slice-in-LastGroup-2.ensures.value c.spread-in-LastGroup.ensures c.number_of-in-LastGroup.ensures))
