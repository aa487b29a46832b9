use Rattle.std.proofs.Common.{ℕ, ◌≡◌, List, sym, ◌∙◌, subst, arith}
use Rattle.cm_disk.specs.Disk.{Reads}
use Rattle.cm_datalib.proofs.Loaded.{written_back}
use Rattle.cm_datalib.proofs.loading.refuse_longer.Goals as goal

pub returns-clause-answer : goal.returns-clause-answer
returns-clause-answer g c x told is =
    let front = c.in_ok-front.front in
    let buffer = c.read_front.new.buf in
    let same : c.deref.result.now ≡ buffer = c.deref.ensures.value ∙ written_back front.len buffer front.items (omega arith) (omega (arith, front.ok.0)) in
    c.fault_of_front.ensures.answer (x c.args.place.now) is
    (subst (λ (l : List ℕ). Reads (x c.args.place.now) 0 l c.in_ok-count.count) (sym same) (c.in_ok-count.ensures.bytes x told))
