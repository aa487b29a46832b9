use Rattle.std.proofs.Common.{◌≡◌, [], ◌∷◌, ◌++◌, length, drop, ⊎_elim, refl, sym, ap, ◌∙◌, append-nil, zero-le}
use Rattle.cm_turn.proofs.Merging.{ordered_behind}
use Rattle.cm_turn.proofs.turnstile.Turnstile.turn.Goals as goal

pub give-requires-clause-more : goal.give-requires-clause-more
give-requires-clause-more g c =
    let told = g.T.Told.told in
    let before = c.take-value.result in
    let after = c.work-answer.new.value in
    let turn = ap (λ m. m.0.turn) c.take-value.ensures.took.0 in
    ⊎_elim
    (λ (e : told after ≡ told before). (told before, [], turn, e ∙ sym (append-nil (told before))))
    (λ (t : (e : g.row.T-Entry.Denot) × (told after ≡ told before ++ e ∷ [])). (told before, t.0 ∷ [], turn, t.1))
    c.work-answer.ensures.adds.entries

pub invariant_of-seat : goal.invariant_of-seat
invariant_of-seat g c =
    let told = g.T.Told.told in
    let before = c.take-value.result in
    let after = c.work-answer.new.value in
    let took = c.take-value.ensures.took in
    let mine = c.seat.invariant in
    rw (c.give.ensures.given, took.0)
    (refl, refl, mine.2, ordered_behind 0 c.seat.inside.place.me.0.own (told before) (drop (length (told before)) (told after)) zero-le mine.3 took.1.own)
