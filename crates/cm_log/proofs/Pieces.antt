-- The bytes from a place on, in lists that begin alike.
use Rattle.std.proofs.Common.{◌≡◌, ℕ, ◌+◌, ◌≤◌, List, take, drop, sym, ◌∙◌, ap}
use Rattle.std.proofs.lemmas.List.{take-take, drop-take}
use Rattle.cm_log.specs.Logs.{piece}

pub piece_same : (e : ℕ) (other bytes : List ℕ) → take e other ≡ take e bytes → (at n : ℕ) → at + n ≤ e → piece other at n ≡ piece bytes at n
piece_same e other bytes same at n le =
    sym (drop-take at n other)
    ∙ ap (λ (l : List ℕ). drop at l) (sym (take-take (at + n) e other le) ∙ ap (λ (l : List ℕ). take (at + n) l) same ∙ take-take (at + n) e bytes le)
    ∙ drop-take at n bytes
