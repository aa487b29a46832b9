-- What a seat keeps through its turns.
use Rattle.std.specs.Prelude.{◌≡◌}
use Rattle.cm_turn.specs.Seated.{Seated}

-- it is of the same turnstile, and has as many parts
abbrev pub StaysSeated : {S E : Type 0} → Seated S E → Seated S E → Type 0
StaysSeated s t = (t.at ≡ s.at) × (t.view.parts ≡ s.view.parts)
