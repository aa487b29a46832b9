use Rattle.std.proofs.Common.{sym, ap, ◌∙◌, subst, arith, rules}
use Rattle.cm_log.specs.declared.position.Block.{Block}
use Rattle.cm_log.specs.Settled.{IsAhead}
use Rattle.cm_log.proofs.Ahead.{served, served_anew}
use Rattle.cm_log.proofs.position.Block.read_at.Goals as goal
use Rattle.cm_log.proofs.position.Block.read_at.Goals.{then-not-has+in_ok-fill, else-not-has}

pub returns-clause-bytes : goal.returns-clause-bytes
returns-clause-bytes g c x told = elim c.if-not-has.branch [
  | then-not-has+in_ok-fill w ↦
      served_anew (x c.args.place.now) c.if-not-has.self c.args.offset c.copy.new.buf c.copy.result
      (subst (λ (b : Block). IsAhead (x c.args.place.now) b) (sym w.self-is) (w.in_ok-fill.ensures.ahead x told))
      (ap (λ (b : Block). b.start) w.self-is ∙ w.in_ok-fill.ensures.start)
      (ap (λ (b : Block). b.count) w.self-is ∙ w.in_ok-fill.ensures.count x told)
      (omega (arith, c.copy.ensures.length, c.requires.short))
      (omega (arith, c.copy.ensures.count, c.copy.ensures.length))
      c.copy.ensures.bytes
  | else-not-has w ↦
      let all = c.has.ensures.yes (search rules) in
      served (x c.args.place.now) c.if-not-has.self c.args.offset c.copy.new.buf c.copy.result
      (subst (λ (b : Block). IsAhead (x c.args.place.now) b) (sym w.self-is) (c.requires.ahead x told))
      (omega (arith, all.0, ap (λ (b : Block). b.start) w.self-is))
      (omega (arith, all.1, c.copy.ensures.length, ap (λ (b : Block). b.start) w.self-is, ap (λ (b : Block). b.count) w.self-is))
      (omega (arith, c.copy.ensures.count, c.copy.ensures.length))
      c.copy.ensures.bytes
]
